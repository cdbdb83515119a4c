-- The size of a table, and what a check that looks at it first finds.
use mathlib.Core.Path.{◌≡◌}
use mathlib.Core.List.{List}
use Prim.Native.Nat.{ℕ}
use native.Mathlib.Omega.{arith}
use Rattle.std.specs.Prelude.{Result, Ok, Err, IsErrAnd}
use Rattle.tables.specs.Answers.{Clear}
use Rattle.tables.specs.Checks.{Finds}
use Rattle.tables.proofs.Checks.{found_none, found_first, finds_same}
use Rattle.schema.specs.RowRule.{SizeFault, without_row, too_many_rows, broken_length}
use Rattle.schema.specs.RowRule.{SizeRight, SizedFault, bad_table, bad_place}

-- a wrong size is placed at row 0, so that it comes first among faults of any kind
pub size_first : {s : List ℕ} {P : ℕ → Type 0} {place : ℕ}
    → ((r : ℕ) → SizeFault s r → P r) → SizeFault s place → P place × Clear P place
size_first {s} {P} {place} is f = (is place f, λ k h. absurd (omega (arith, at_zero f)))
  where
    at_zero : {k : ℕ} → SizeFault s k → k ≡ 0
    at_zero (without_row e z) = z
    at_zero (too_many_rows e z) = z
    at_zero (broken_length e z) = z

module _ (s : List ℕ) (P : ℕ → Type 0) where
  -- the check stops at a wrong size
  pub sized_stop : {size : Result Unit ℕ} {place : ℕ} (w : Result Unit ℕ) → Finds (SizeFault s) size
      → size ≡ Err place → IsErrAnd w (λ y. y ≡ place) → Finds (SizedFault s P) w
  sized_stop w f e l = found_first _ w f e l (λ x clear. size_first (λ r. bad_table) x)

  at_place : SizeRight s → (r : ℕ) → SizedFault s P r → P r
  at_place right r (bad_table f) = absurd (right r f)
  at_place right r (bad_place z p) = p

  -- and goes on where the size is right, to find what its code finds
  pub sized_on : {size : Result Unit ℕ} {x : Unit} → Finds (SizeFault s) size
      → size ≡ Ok x → (c : Result Unit ℕ) → Finds P c → Finds (SizedFault s P) c
  sized_on f e c = let right = found_none _ f e in finds_same c (λ r p. bad_place right p) (at_place right)

  -- what it finds in a table of the right size
  pub sized_finds : SizeRight s → (c : Result Unit ℕ) → Finds (SizedFault s P) c → Finds P c
  sized_finds right c = finds_same c (at_place right) (λ r p. bad_place right p)
