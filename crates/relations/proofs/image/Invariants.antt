-- The invariant: the members taken out of rest are gathered.
use Rattle.relations.proofs.Gather.{Gathered}
use Rattle.relations.proofs.image.Given as goal

abbrev pub invariant-loop-rest : goal.invariant-loop-rest
invariant-loop-rest l = Gathered l.s l.b l.out l.rest

abbrev pub decreases-loop-rest : goal.decreases-loop-rest
decreases-loop-rest l = l.rest
