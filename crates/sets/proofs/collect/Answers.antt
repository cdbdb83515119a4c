-- The invariant: the set has the positions before k that the test says yes to.
use Rattle.sets.proofs.Collecting.{collects_by_none, collects_by_more}
use Rattle.sets.proofs.collect.Goals as goal

pub loop-k-init : goal.loop-k-init
loop-k-init g c = collects_by_none

pub loop-k-preserved : goal.loop-k-preserved
loop-k-preserved g c = collects_by_more c.loop-k.invariant c.test.ensures c.add_if-set.ensures
