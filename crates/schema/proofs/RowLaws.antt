-- Laws of the rule of rows.
use mathlib.Core.Path.{◌≡◌, refl}
use mathlib.Core.Logic.{◌≢◌}
use mathlib.Core.List.{List}
use Prim.Native.Nat.{ℕ, ◌%◌, ◌≤◌, ◌<◌}
use native.Mathlib.Decide.{dec_lt, ℕ_discrete}
use lib.ListN.{length}
use Rattle.tables.proofs.Numbers.{not_less}
use Rattle.schema.specs.Rows.{rows_of, kind_of}
use Rattle.schema.proofs.Children.{kind_past}
use Rattle.schema.specs.RowRule.{max_rows, SizeRight, too_many_rows, broken_length, RowsRight, bad_size}

module _ {s : List ℕ} (right : SizeRight s) where
  pub few_rows : rows_of s ≤ max_rows
  few_rows = not_less (λ h. right 0 (too_many_rows h refl))

  pub whole_rows : length s % 3 ≡ 0
  whole_rows = go (ℕ_discrete (length s % 3) 0)
    where
      go : Dec (length s % 3 ≡ 0) → length s % 3 ≡ 0
      go (yes e) = e
      go (no f) = absurd (right 0 (broken_length f refl))

  -- a row that has a kind is in the table
  pub in_table : {r : ℕ} → kind_of s r ≢ 0 → r < rows_of s
  in_table {r} f = go (dec_lt r (rows_of s))
    where
      go : Dec (r < rows_of s) → r < rows_of s
      go (yes h) = h
      go (no h) = absurd (f (kind_past s r whole_rows (not_less h)))

-- rows that keep their rule are a table of the right size
pub right_size : {strings : ℕ} {s : List ℕ} → RowsRight strings s → SizeRight s
right_size right r f = right r (bad_size f)
