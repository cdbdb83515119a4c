-- The invariant: the members taken out of rest are gathered.
use native.Mathlib.Omega.{arith}
use Rattle.sets.proofs.Least.{rest_lt}
use Rattle.relations.proofs.Gather.{gather_none, gather_more, gathered}
use Rattle.relations.proofs.image.Goals as goal

pub loop-rest-init : goal.loop-rest-init
loop-rest-init c = gather_none _ c.ranges.s.fits

pub loop-rest-smaller : goal.loop-rest-smaller
loop-rest-smaller c = rest_lt c.loop-rest.rest (omega arith)

pub loop-rest-preserved : goal.loop-rest-preserved
loop-rest-preserved c = gather_more c.loop-rest.invariant (omega arith) c.first.ensures c.word-out.ensures

pub returns : goal.returns
returns c = gathered c.loop-rest.invariant c.loop-rest-test.false
