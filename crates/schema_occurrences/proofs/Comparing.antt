-- The table of the classes that were compared and share no name: at the start it is empty, and two classes more keep it
-- right.
use Prim.Native.Nat.{ℕ, ◌+◌, ◌*◌, ◌/◌, ◌%◌, ◌^◌, ◌<◌}
use mathlib.Core.Path.{◌≡◌, refl, sym, ◌∙◌, subst}
use mathlib.Core.Bool.{Bool, true, false}
use mathlib.Core.Logic.{⊎_elim}
use mathlib.Core.List.{List}
use native.Mathlib.Omega.{arith}
use lib.Bits.{bit_or}
use lib.Dec.{eqb}
use lib.ListN.{length, get_or, set}
use lib.Seq.{get_or-set_same, get_or-set_other}
use borrow.Author.Tests.{eqb-true, eqb-false}
use Rattle.tables.specs.Outputs.{zeros}
use Rattle.tables.proofs.Fill.{get_or_zeros}
use Rattle.sets.specs.Bits.{bit}
use Rattle.sets.proofs.Bits.{bit_shl}
use Rattle.sets.proofs.Members.{none_has, or_has}
use Rattle.schema_occurrences.specs.Occurrences.{Shared, Compared}

pub compared_none : (s : List ℕ) (n : ℕ) → Compared s (zeros n)
compared_none s n = record { apart = λ c d h e. absurd (none_has (d % 64) (rw (get_or_zeros n (c * 8 + d / 64)) at e)) }

module _ {s m : List ℕ} {c d : ℕ} (known : Compared s m) (low : d < 512)
    (long : c * 8 + d / 64 < length m) (none : ¬ Shared s c d) where
  abbrev place : ℕ
  place = c * 8 + d / 64

  abbrev new : ℕ
  new = bit_or (get_or m place 0) ((1 * 2 ^ (d % 64)) % 2 ^ 64)

  pub compared_more : Compared s (set m place new)
  compared_more = record { apart = λ e f h has. go e f h has (eqb (e * 8 + f / 64) place) refl }
    where
      same : (e f : ℕ) → f < 512 → e * 8 + f / 64 ≡ place → bit new (f % 64) ≡ true → ¬ Shared s e f
      same e f h at has =
          ⊎_elim (λ old. known.apart e f h (subst (λ k. bit (get_or m k 0) (f % 64) ≡ true) (sym at) old)) (λ one.
          let member = eqb-true (f % 64) (d % 64) (sym (bit_shl (d % 64) (f % 64) (omega arith)) ∙ one) in
          let first : c ≡ e = omega (arith, at, low, h) in
          let second : d ≡ f = omega (arith, at, low, h, member) in
          subst (λ x. ¬ Shared s x f) first (subst (λ y. ¬ Shared s c y) second none))
          (or_has (get_or m place 0) ((1 * 2 ^ (d % 64)) % 2 ^ 64) (f % 64) has)

      go : (e f : ℕ) → f < 512 → bit (get_or (set m place new) (e * 8 + f / 64) 0) (f % 64) ≡ true
          → (b : Bool) → eqb (e * 8 + f / 64) place ≡ b → ¬ Shared s e f
      go e f h has true is =
          let at = eqb-true (e * 8 + f / 64) place is in
          same e f h at (subst (λ w. bit w (f % 64) ≡ true) (get_or-set_same m place new 0 long)
          (subst (λ k. bit (get_or (set m place new) k 0) (f % 64) ≡ true) at has))
      go e f h has false is =
          known.apart e f h (subst (λ w. bit w (f % 64) ≡ true)
          (get_or-set_other m place (e * 8 + f / 64) new 0 (eqb-false (e * 8 + f / 64) place is)) has)
