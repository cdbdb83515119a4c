-- The two laws of recursion on falling rows: the answer at a smaller row is its own, and there is none at any other.
use mathlib.Core.Path.{◌≡◌, refl}
use mathlib.Core.Bool.{Bool, false}
use mathlib.Core.Logic.{⊎_elim}
use Prim.Native.Nat.{ℕ, zero, suc, ◌≤◌, ◌<◌}
use native.Mathlib.Nat.{eq-or-lt_of_le}
use native.Mathlib.Omega.{arith}
use borrow.Author.Tests.{eq-eqb, ne_eqb}
use Rattle.schema.specs.Falling.{upto, falling}

module _ (step : ℕ → (ℕ → Bool) → Bool) where
  pub upto_below : (n k : ℕ) → k < n → upto step n k ≡ falling step k
  unfolding upto
  upto_below zero k l = absurd (omega arith)
  upto_below (suc n) k l =
      let le : k ≤ n = omega arith in
      ⊎_elim (λ e. rw (eq-eqb k n e, e))
      (λ lt. rw (ne_eqb k n (λ e. omega arith)) (upto_below n k lt)) (eq-or-lt_of_le le)

  pub upto_above : (n k : ℕ) → n ≤ k → upto step n k ≡ false
  unfolding upto
  upto_above zero k l = refl
  upto_above (suc n) k l = rw (ne_eqb k n (λ e. omega arith)) (upto_above n k (omega arith))
