-- The invariant: the types of the rows passed are known, and none of them clashes.
use native.Mathlib.Omega.{arith}
use Rattle.tables.proofs.Checks.{finds_none}
use Rattle.schema_sequences.proofs.TypeTables.{sequence_row}
use Rattle.schema.proofs.RowLaws.{few_rows}
use Rattle.schema_sequences.proofs.scan_types.Goals as goal

pub overflow_cast-r-end : goal.overflow_cast-r-end
overflow_cast-r-end c = omega (arith, few_rows c.requires.0)

pub returns : goal.returns
returns c =
    finds_none _ c.loop-r.invariant.clear
    (λ k f. omega (arith, sequence_row c.requires.0 f, c.loop-r-test.false))
