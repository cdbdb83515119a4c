-- The invariant: no row passed is at fault, and the table of comparisons is right.
use native.Mathlib.Omega.{arith}
use borrow.Author.Count.{below_more}
use Rattle.tables.proofs.Answers.{said_no}
use Rattle.tables.proofs.Checks.{finds_none}
use Rattle.schema_occurrences.proofs.Clashes.{interleave_row}
use Rattle.schema.proofs.RowLaws.{few_rows}
use Rattle.schema_occurrences.proofs.scan_interleaves.Goals as goal

pub overflow_cast-r-end : goal.overflow_cast-r-end
overflow_cast-r-end c = omega (arith, few_rows c.requires.0)

pub loop-r-preserved : goal.loop-r-preserved
loop-r-preserved c = (
  below_more _ _ c.loop-r.invariant.0 (said_no c.interleave_fault.ensures.0 c.if-interleave_fault.false),
  c.interleave_fault.ensures.1,
)

pub returns : goal.returns
returns c =
    finds_none _ c.loop-r.invariant.0
    (λ k f. omega (arith, interleave_row c.requires.0 f, c.loop-r-test.false))
