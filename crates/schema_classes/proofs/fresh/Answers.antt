-- The invariant: each number passed is mentioned. So the numbers passed are no more than the rows, and the search ends.
use native.Mathlib.Omega.{arith}
use Rattle.schema_classes.proofs.Crowding.{count_low, least_small}
use Rattle.schema_classes.proofs.Searching.{counting_step, next_here}
use Rattle.schema_classes.proofs.fresh.Goals as goal

pub loop-number-preserved : goal.loop-number-preserved
loop-number-preserved c =
    let inv = c.loop-number.invariant in
    counting_step inv (next_here c.next_mention.ensures (omega
    (arith, count_low c.requires _ _ c.args.part inv, least_small c.args.part)) c.loop-number-test.true)

pub loop-number-smaller : goal.loop-number-smaller
loop-number-smaller c = omega (arith, count_low c.requires _ _ c.args.part (loop-number-preserved c))
