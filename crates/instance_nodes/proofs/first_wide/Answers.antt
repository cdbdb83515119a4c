-- The invariant: no row before e is too wide; the counts of a row are those of its attributes and children.
use native.Mathlib.Omega.{arith}
use borrow.Author.Count.{below_none, below_more}
use Rattle.tables.proofs.Answers.{said_yes, said_no}
use Rattle.tables.proofs.Checks.{finds_none}
use Rattle.instance_nodes.proofs.Counting.{wide_row, tells_wide}
use Rattle.instance_nodes.proofs.first_wide.Goals as goal

pub loop-e-init : goal.loop-e-init
loop-e-init c = (omega arith, below_none _)

pub returns-then-is_wide : goal.returns-then-is_wide
returns-then-is_wide c = (
  said_yes (tells_wide c.args.instance.now c.loop-e.e c.requires.0 c.loop-e-test.true
      c.requires.1 c.requires.2 c.kind.ensures c.at.ensures
      c.at-in-loop-e.ensures c.is_wide.ensures) c.if-is_wide.true,
  c.loop-e.invariant.1,
)

pub loop-e-preserved : goal.loop-e-preserved
loop-e-preserved c = (
  omega (arith, c.loop-e-test.true),
  below_more _ _ c.loop-e.invariant.1 (said_no (tells_wide c.args.instance.now c.loop-e.e
      c.requires.0 c.loop-e-test.true c.requires.1 c.requires.2 c.kind.ensures
      c.at.ensures c.at-in-loop-e.ensures c.is_wide.ensures) c.if-is_wide.false),
)

pub returns : goal.returns
returns c =
    finds_none _ c.loop-e.invariant.1 (λ k f.
    omega (arith, c.loop-e-test.false, wide_row c.args.instance.now k f))
