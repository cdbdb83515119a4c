-- Code 1: a test whose success shows that the strings keep their rule.
use Prim.Native.Nat.{ℕ, suc, ◌<◌}
use mathlib.Core.Path.{◌≡◌, refl}
use mathlib.Core.Bool.{Bool, true, false, not, ◌&&◌, ◌||◌, false≢true}
use mathlib.Core.List.{List, [], ◌∷◌}
use native.Mathlib.Omega.{arith}
use lib.Dec.{eqb, ltb}
use lib.ListN.{length}
use borrow.Author.Tests.{eqb-true, eq-eqb, lt-ltb, ltb-true}
use Rattle.tables.specs.Tables.{StringTable}
use Rattle.strings.specs.Strings.{max_strings, max_bytes, start_of, end_of, text_of, FrontFault, EndFault}
use Rattle.strings.specs.Strings.{StringsRight, no_string, too_many_strings, too_many_bytes}
use Rattle.strings.specs.Strings.{first_not_empty, at_front, end_falls, last_end_wrong, bad_end, repeated}
use mathlib.Core.Logic.{inl, inr}
use Rattle.tables.proofs.Booleans.{or_either, and_left, and_right, both_and}
use Rattle.cases.proofs.Tests.{every_below, every_below_lem, no_of}

-- equality of texts
abbrev pub same_text : List ℕ → List ℕ → Bool
same_text [] [] = true
same_text [] (y ∷ t) = false
same_text (x ∷ s) [] = false
same_text (x ∷ s) (y ∷ t) = eqb x y && same_text s t

pub same_text_lem : (s t : List ℕ) → s ≡ t → same_text s t ≡ true
same_text_lem s t e = rw (← e) (itself s)
  where
    itself : (s : List ℕ) → same_text s s ≡ true
    itself [] = refl
    itself (x ∷ s) = both_and (eq-eqb x x refl) (itself s)

pub text_same : (s t : List ℕ) → same_text s t ≡ true → s ≡ t
text_same [] [] e = refl
text_same [] (y ∷ t) e = absurd (false≢true e)
text_same (x ∷ s) [] e = absurd (false≢true e)
text_same (x ∷ s) (y ∷ t) e =
    rw (eqb-true x y (and_left (eqb x y) (same_text s t) e), text_same s t (and_right (eqb x y) (same_text s t) e))

module _ (T : StringTable) where
  abbrev front_test : Bool
  front_test =
      (ltb 0 (length T.ends) && not (ltb max_strings (length T.ends)))
      && (not (ltb max_bytes (length T.bytes)) && eqb (end_of T.ends 0) 0)

  abbrev end_test : ℕ → Bool
  end_test k =
      not (ltb (end_of T.ends k) (start_of T.ends k))
      && (not (eqb (suc k) (length T.ends)) || eqb (end_of T.ends k) (length T.bytes))

  abbrev apart_test : ℕ → Bool
  apart_test k = every_below (λ j. not (same_text (text_of T j) (text_of T k))) k

  unfoldable pub strings_test : Bool
  strings_test = front_test && every_below (λ k. end_test k && apart_test k) (length T.ends)

  module _ (pass : strings_test ≡ true) where
    front : front_test ≡ true
    unfolding strings_test
    front = and_left front_test (every_below (λ k. end_test k && apart_test k) (length T.ends)) pass

    at : (k : ℕ) → k < length T.ends → (end_test k && apart_test k) ≡ true
    unfolding strings_test
    at =
        every_below_lem (λ k. end_test k && apart_test k) (length T.ends)
        (and_right front_test (every_below (λ k. end_test k && apart_test k) (length T.ends)) pass)

    counts : (ltb 0 (length T.ends) && not (ltb max_strings (length T.ends))) ≡ true
    counts =
        and_left (ltb 0 (length T.ends) && not (ltb max_strings (length T.ends)))
        (not (ltb max_bytes (length T.bytes)) && eqb (end_of T.ends 0) 0) front

    rest : (not (ltb max_bytes (length T.bytes)) && eqb (end_of T.ends 0) 0) ≡ true
    rest =
        and_right (ltb 0 (length T.ends) && not (ltb max_strings (length T.ends)))
        (not (ltb max_bytes (length T.bytes)) && eqb (end_of T.ends 0) 0) front

    front_right : (k : ℕ) → ¬ FrontFault T k
    front_right k (no_string e z) =
        let l = ltb-true 0 (length T.ends)
        (and_left (ltb 0 (length T.ends)) (not (ltb max_strings (length T.ends))) counts) in
        omega arith
    front_right k (too_many_strings h z) =
        no_of (and_right (ltb 0 (length T.ends)) (not (ltb max_strings (length T.ends))) counts)
        (lt-ltb max_strings (length T.ends) h)
    front_right k (too_many_bytes h z) =
        no_of (and_left (not (ltb max_bytes (length T.bytes))) (eqb (end_of T.ends 0) 0) rest)
        (lt-ltb max_bytes (length T.bytes) h)
    front_right k (first_not_empty f z) =
        f (eqb-true (end_of T.ends 0) 0
        (and_right (not (ltb max_bytes (length T.bytes))) (eqb (end_of T.ends 0) 0) rest))

    end_test_lem : (k : ℕ) → k < length T.ends → end_test k ≡ true
    end_test_lem k h = and_left (end_test k) (apart_test k) (at k h)

    ends_right : (k : ℕ) → ¬ EndFault T k
    ends_right k (at_front f) = front_right k f
    ends_right k (end_falls f) =
        no_of (and_left (not (ltb (end_of T.ends k) (start_of T.ends k)))
        (not (eqb (suc k) (length T.ends)) || eqb (end_of T.ends k) (length T.bytes)) (end_test_lem k f.0))
        (lt-ltb (end_of T.ends k) (start_of T.ends k) f.1)
    ends_right k (last_end_wrong e f) =
        elim (or_either (not (eqb (suc k) (length T.ends))) (eqb (end_of T.ends k) (length T.bytes))
        (and_right (not (ltb (end_of T.ends k) (start_of T.ends k))) (not (eqb (suc k) (length T.ends))
        || eqb (end_of T.ends k) (length T.bytes)) (end_test_lem k (omega arith)))) [
          | inl z ↦ no_of z (eq-eqb (suc k) (length T.ends) e)
          | inr z ↦ f (eqb-true (end_of T.ends k) (length T.bytes) z)
        ]

    pub strings_right : StringsRight T
    strings_right k (bad_end f) = ends_right k f
    strings_right k (repeated r f) =
        no_of (every_below_lem (λ j. not (same_text (text_of T j) (text_of T k))) k
        (and_right (end_test k) (apart_test k) (at k f.0)) f.1.0 f.1.1)
        (same_text_lem (text_of T f.1.0) (text_of T k) f.1.2)
