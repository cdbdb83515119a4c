-- The rows before p are right.
use Rattle.tables.specs.Tables.{string_table}
use Rattle.matching_alone.specs.Alone.{Alone}
use Rattle.matching_alone.proofs.fill_rows.Given as goal

abbrev pub invariant-loop-p : goal.invariant-loop-p
invariant-loop-p l = Alone (string_table l.bytes l.ends) l.schema l.alone l.nothing l.p
