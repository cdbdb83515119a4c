-- The promise of the match list fixes the answer and every word of the list.
use Prim.Native.Nat.{ℕ}
use mathlib.Core.Path.{◌≡◌, refl, sym, ◌∙◌, ap, ap₂}
use mathlib.Core.Bool.{Bool, true, false}
use mathlib.Core.List.{List}
use mathlib.Core.Logic.{⊎_elim}
use native.Mathlib.Omega.{arith}
use lib.ListN.{length}
use Rattle.std.specs.Prelude.{Result, Ok, Err}
use Rattle.tables.specs.Answers.{Decides}
use Rattle.tables.specs.Tables.{Tables}
use Rattle.tables.specs.Outputs.{laid}
use Rattle.tables.specs.Codes.{refusal_at, Tries, refused, goes_on, verdict_of}
use Rattle.tables.specs.declared.refusals.Code.{Code}
use Rattle.tables.specs.declared.refusals.Refusal.{Refusal}
use Rattle.job.proofs.Decimals.{lt_or_ge}
use Rattle.matching_rules.specs.Listed.{pair_words}
use Rattle.matching_rules.proofs.Uniqueness.{unique}
use Rattle.matching_list.specs.declared.Matches.{Matches}
use Rattle.relaxng.specs.Answers.{pair_count}
use Rattle.relaxng.specs.Matching.{Matched, ListsMatches}
use Rattle.tables.proofs.Codes.{ok_err, err_same}
use Rattle.relaxng.proofs.Refused.{no_code}

-- two verdicts of one chain are the same
tries_same : {code : Code} {P : ℕ → Type 0} {next : Result Unit Refusal → Type 0} {v w : Result Unit Refusal}
    → (next v → next w → v ≡ w) → Tries code P next v → Tries code P next w → v ≡ w
tries_same {code} f (refused p x c) (refused q y d) =
    ap (λ k. Err (refusal_at code k)) (⊎_elim (λ l. absurd (d p l x))
    (λ l. ⊎_elim (λ k. absurd (c q k y)) (λ k. omega arith) (lt_or_ge q p)) (lt_or_ge p q))
tries_same f (refused p x c) (goes_on n y) = absurd (n p x)
tries_same f (goes_on n x) (refused q y d) = absurd (n q y)
tries_same f (goes_on n x) (goes_on m y) = f x y

module _ {J : Tables} {room work : ℕ} {l m after after' : List ℕ} {r q : Result Matches Refusal}
    (a : ListsMatches J room work l after r) (b : ListsMatches J room work m after' q) where
  same_verdict : verdict_of r ≡ verdict_of q
  same_verdict =
      tries_same (tries_same (tries_same (tries_same
      (tries_same (tries_same (tries_same (tries_same (tries_same (tries_same (tries_same (λ x y. x ∙ sym y)))))))))))
      a.refusal b.refusal

  module _ (x : Matched J room l r) (y : Matched J room m q) where
    same_pairs : x.pairs ≡ y.pairs
    same_pairs = unique x.all.rising x.all.lists y.all.rising y.all.lists

    same_words : l ≡ m
    same_words = x.written.words ∙ ap (λ p. laid room (pair_words p)) same_pairs ∙ sym y.written.words

    same_count : pair_count r ≡ pair_count q
    same_count = x.written.counted ∙ ap length same_pairs ∙ sym y.written.counted

-- two answers that say yes of the same say the same
one_answer : (A : Type 0) (x y : Bool) → Decides A x → Decides A y → x ≡ y
one_answer A true true a b = refl
one_answer A true false a b = absurd (b a)
one_answer A false true a b = absurd (a b)
one_answer A false false a b = refl

-- an answer that refuses nothing is its count and valid or not
pub same_answer : {J : Tables} {room work : ℕ} {l m after after' : List ℕ} (r q : Result Matches Refusal)
    → ListsMatches J room work l after r → ListsMatches J room work m after' q → (r ≡ q) × (l ≡ m)
same_answer (Err f) (Err g) a b =
    (ap Err (err_same (same_verdict a b)), a.zeroed (no_code f) ∙ sym (b.zeroed (no_code g)))
same_answer (Err f) (Ok y) a b = absurd (ok_err (sym (same_verdict a b)))
same_answer (Ok x) (Err g) a b = absurd (ok_err (same_verdict a b))
same_answer (Ok x) (Ok y) a b =
    let i = a.matched refl in
    let j = b.matched refl in
    let valid : x.valid ≡ y.valid = one_answer _ x.valid y.valid i.written.derived j.written.derived in
    let pairs : x.pairs ≡ y.pairs = same_count a b i j in
    (ap₂ (λ v n. Ok (record { valid = v; pairs = n })) valid pairs, same_words a b i j)
