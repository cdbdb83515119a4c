-- The invariant: no row passed is at fault.
use native.Mathlib.Omega.{arith}
use borrow.Author.Count.{below_more}
use Rattle.tables.proofs.Answers.{said_no}
use Rattle.tables.proofs.Checks.{finds_none}
use Rattle.schema_occurrences.proofs.Clashes.{attribute_row}
use Rattle.schema.proofs.RowLaws.{few_rows}
use Rattle.schema_occurrences.proofs.scan_attributes.Goals as goal

pub overflow_cast-r-end : goal.overflow_cast-r-end
overflow_cast-r-end c = omega (arith, few_rows c.requires.0)

pub loop-r-preserved : goal.loop-r-preserved
loop-r-preserved c =
    below_more _ _ c.loop-r.invariant
    (said_no c.attribute_fault.ensures c.if-attribute_fault.false)

pub returns : goal.returns
returns c =
    finds_none _ c.loop-r.invariant
    (λ k f. omega (arith, attribute_row c.requires.0 f, c.loop-r-test.false))
