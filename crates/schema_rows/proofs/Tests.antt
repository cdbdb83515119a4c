-- What is wrong in a table of the right size.
use mathlib.Core.List.{List}
use Prim.Native.Nat.{ℕ}
use Rattle.schema.specs.RowRule.{WrongRow, SizeRight, RowFault, bad_size, bad_row}

-- with the right size only rows can be wrong
pub only_rows : {s : List ℕ} → SizeRight s → {strings : ℕ} (r : ℕ) → RowFault strings s r → WrongRow strings s r
only_rows right r (bad_size f) = absurd (right r f)
only_rows right r (bad_row f) = f
