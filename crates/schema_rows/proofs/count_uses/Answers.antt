-- The invariant: each word counts the uses by the rows passed, at most two for each.
use mathlib.Core.Bool.{true}
use native.Mathlib.Omega.{arith}
use Rattle.tables.proofs.Counting.{counted_low}
use Rattle.schema_rows.proofs.Uses.{uses_none, counts_low, uses_more}
use Rattle.schema_rows.proofs.count_uses.Goals as goal

pub loop-p-init : goal.loop-p-init
loop-p-init c = uses_none c.args.schema.now c.requires.1

pub count_if-requires : goal.count_if-requires
count_if-requires c = omega (arith, counts_low c.loop-p.invariant c.child_a.result)

pub count_if-requires-in-loop-p : goal.count_if-requires-in-loop-p
count_if-requires-in-loop-p c =
    omega (
      arith,
      counted_low true c.child_a.result
          c.loop-p.counts c.count_if.ensures
          (counts_low c.loop-p.invariant) c.child_b.result,
      c.loop-p-test.true,
      c.requires.0,
    )

pub loop-p-preserved : goal.loop-p-preserved
loop-p-preserved c =
    rw (c.count_if-in-loop-p.ensures, c.count_if.ensures)
    (uses_more c.loop-p.invariant c.child_a.ensures c.child_b.ensures)
