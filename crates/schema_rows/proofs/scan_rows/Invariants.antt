-- The invariant: no row before r is wrong.
use Rattle.tables.specs.Answers.{Clear}
use Rattle.schema.specs.RowRule.{WrongRow}
use Rattle.schema_rows.proofs.scan_rows.Given as goal

abbrev pub invariant-loop-r : goal.invariant-loop-r
invariant-loop-r l = Clear (WrongRow l.strings l.schema) l.r
