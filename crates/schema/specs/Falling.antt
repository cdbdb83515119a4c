-- Recursion on falling rows: what holds of a row by what holds of the smaller ones.
use Rattle.std.specs.Prelude.{ℕ, zero, suc, Bool, false, cond, eqb}

-- for k before n, step at k, handed the answers for the rows before k
unfoldable pub upto : (ℕ → (ℕ → Bool) → Bool) → ℕ → ℕ → Bool
upto step zero k = false
upto step (suc n) k = cond (eqb k n) (step n (upto step n)) (upto step n k)

abbrev pub falling : (ℕ → (ℕ → Bool) → Bool) → ℕ → Bool
falling step n = step n (upto step n)
