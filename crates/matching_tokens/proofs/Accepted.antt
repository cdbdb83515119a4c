-- A sequence of tokens is accepted by the tree that a row shows exactly when the rules match it to the row's pattern.
use mathlib.Core.Path.{◌≡◌, refl, subst}
use mathlib.Core.Bool.{Bool, true, false, ◌&&◌, ◌||◌, false≢true}
use mathlib.Core.Logic.Iff
use mathlib.Core.Logic.{◌⊎◌, inl, inr, ◌↔◌}
use mathlib.Core.List.{List, [], ◌∷◌, map, reverse_aux, reverse, reverse-reverse}
use Prim.Native.Nat.{ℕ}
use native.Mathlib.Omega.{arith}
use Rattle.tables.proofs.Booleans.{and_both, both_and, or_either, or_left, or_right}
use Rattle.matching_rules.specs.Items.{string, no_attributes, Lookups}
use Rattle.matching_rules.specs.Rules.{Match}
use Rattle.matching_tokens.specs.Marked.{Tree, Shows, shows_empty, shows_leaf, shows_one_or_more, shows_choice}
use Rattle.matching_tokens.specs.Marked.{shows_group, nullable, Read, read, done, fed, accepts}
use Rattle.matching_tokens.proofs.Stretches.{Tokens, Since, here, later, Completes, completes_same}
use Rattle.matching_tokens.proofs.Stretches.{completes_empty, completes_leaf, completes_choice}
use Rattle.matching_tokens.proofs.Stretches.{completes_group, completes_again, joined_nothing, repeats_nothing}
use Rattle.matching_tokens.proofs.TokenRules.{Ends, ends_empty, ends_data}
use Rattle.matching_tokens.proofs.TokenRules.{ends_choice, ends_group, ends_one_or_more}

-- the tests of both and of either tell of both and of either
both_tell : (a b : Bool) {A B : Type 0} → (a ≡ true) ↔ A → (b ≡ true) ↔ B → ((a && b) ≡ true) ↔ (A × B)
both_tell a b f g =
    (λ e. let t = and_both a b e in (f.0 t.0, g.0 t.1), λ t. both_and (f.1 t.0) (g.1 t.1))

either_tells : (a b : Bool) {A B : Type 0} → (a ≡ true) ↔ A → (b ≡ true) ↔ B → ((a || b) ≡ true) ↔ (A ⊎ B)
either_tells a b {A} {B} f g = (λ e. to (or_either a b e), from)
  where
    to : (a ≡ true) ⊎ (b ≡ true) → A ⊎ B
    to (inl e) = inl (f.0 e)
    to (inr e) = inr (g.0 e)

    from : A ⊎ B → (a || b) ≡ true
    from (inl x) = or_left b (f.1 x)
    from (inr y) = or_right a (g.1 y)

module _ (L : Lookups) (NotMatch : List ℕ → ℕ → Type 0) where
  -- the tree may be empty exactly when the pattern may
  pub nullable_right : {r : ℕ} {p : Tree} → Shows L NotMatch r p
      → (nullable p ≡ true) ↔ Match L NotMatch no_attributes [] (L.pattern r)
  nullable_right (shows_empty e) = rw e (λ n. (ends_empty L NotMatch []).0 refl, λ d. refl)
  nullable_right {r} (shows_leaf {takes = takes} i tells) =
      (λ n. absurd (false≢true n), λ d. absurd (some ((ends_data L NotMatch (L.pattern r) i takes tells []).1 d)))
    where
      some : (t : List ℕ) × (◌≡◌ {A = Tokens} [] (t ∷ [])) × (takes t ≡ true) → ⊥
      some o = let e = o.1 in let z : ◌≡◌ {A = ℕ} 0 1 = cc in omega arith
  nullable_right (shows_one_or_more {a = a} e h s) =
      rw e (Iff.trans (nullable_right s) (Iff.trans repeats_nothing (ends_one_or_more L NotMatch a [])))
  nullable_right (shows_choice {a = a} {b = b} {p = p} {q = q} e h k s t) =
      rw e (Iff.trans (either_tells (nullable p) (nullable q) (nullable_right s) (nullable_right t))
      (ends_choice L NotMatch a b []))
  nullable_right (shows_group {a = a} {b = b} {p = p} {q = q} e h k s t) =
      rw e (Iff.trans (both_tell (nullable p) (nullable q) (nullable_right s) (nullable_right t))
      (Iff.trans joined_nothing (ends_group L NotMatch a b [])))

  -- the tree is completed exactly when a stretch matches the pattern
  completed : {r : ℕ} {p : Tree} → Shows L NotMatch r p → Completes (done p) (Ends L NotMatch (L.pattern r))
  unfolding done
  completed (shows_empty e) = rw e (completes_same (ends_empty L NotMatch) completes_empty)
  completed {r} (shows_leaf {takes = takes} i tells) =
      completes_same (ends_data L NotMatch (L.pattern r) i takes tells) (completes_leaf takes)
  completed (shows_one_or_more {a = a} e h s) =
      rw e (completes_same (ends_one_or_more L NotMatch a) (completes_again (completed s)))
  completed (shows_choice {a = a} {b = b} e h k s t) =
      rw e (completes_same (ends_choice L NotMatch a b) (completes_choice (completed s) (completed t)))
  completed (shows_group {a = a} {b = b} {p = p} {q = q} e h k s t) =
      rw e (completes_same (ends_group L NotMatch a b)
      (completes_group (completed s) (completed t) (nullable p) (nullable q) (nullable_right s) (nullable_right t)))

-- the one stretch of h is m
record Only (h : List Read) (m : Tokens) : Type 0 where
  since : Since h m
  only : (l : Tokens) → Since h l → l ≡ m

only_first : (t : List ℕ) → Only (read true t ∷ []) (t ∷ [])
only_first t = record { since = here refl refl; only = go }
  where
    go : (l : Tokens) → Since (read true t ∷ []) l → l ≡ t ∷ []
    go l (here o f) = rw f
    go l (later s) = elim s [ ]

only_next : (t : List ℕ) {h : List Read} {m : Tokens} → Only h m → Only (read false t ∷ h) (t ∷ m)
only_next t {h} {m} o = record { since = later o.since; only = go }
  where
    go : (l : Tokens) → Since (read false t ∷ h) l → l ≡ t ∷ m
    go l (here e f) = absurd (false≢true e)
    go l (later {m = k} s) = rw (o.only k s)

only_fed : (ts : Tokens) {h : List Read} {m : Tokens} → Only h m → Only (fed h ts) (reverse_aux ts m)
only_fed [] o = o
only_fed (t ∷ ts) o = only_fed ts (only_next t o)

module _ (L : Lookups) (NotMatch : List ℕ → ℕ → Type 0) {r : ℕ} {p : Tree} (shows : Shows L NotMatch r p) where
  accepted : (ts : Tokens) → (accepts p ts ≡ true) ↔ Ends L NotMatch (L.pattern r) (reverse ts)
  accepted [] = nullable_right L NotMatch shows
  accepted (t ∷ ts) = (sound, λ d. c.complete (fed (read true t ∷ []) ts) (reverse (t ∷ ts)) o.since d)
    where
      c : Completes (done p) (Ends L NotMatch (L.pattern r))
      c = completed L NotMatch shows

      o : Only (fed (read true t ∷ []) ts) (reverse (t ∷ ts))
      o = only_fed ts (only_first t)

      sound : done p (fed (read true t ∷ []) ts) ≡ true → Ends L NotMatch (L.pattern r) (reverse (t ∷ ts))
      sound e =
          let f = c.sound (fed (read true t ∷ []) ts) e in
          subst (Ends L NotMatch (L.pattern r)) (o.only f.m f.since) f.holds

  pub accepts_right : (ts : Tokens)
      → (accepts p ts ≡ true) ↔ Match L NotMatch no_attributes (map string ts) (L.pattern r)
  accepts_right ts = rw (reverse-reverse ts) at (accepted ts)
