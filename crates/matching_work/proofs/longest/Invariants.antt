-- The invariant: the longest attribute value or text of the rows passed, beside any schema.
use Prim.Native.Nat.{ℕ}
use mathlib.Core.List.{List}
use mathlib.Core.Path.{◌≡◌}
use Rattle.tables.specs.Tables.{string_table, tables_of}
use Rattle.matching_work.specs.Work.{longest_before}
use Rattle.matching_work.proofs.longest.Given as goal

abbrev pub invariant-loop-row : goal.invariant-loop-row
invariant-loop-row l =
    (s : List ℕ) → l.most ≡ longest_before (tables_of (string_table l.bytes l.ends) s l.instance) l.row
