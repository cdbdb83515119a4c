-- The invariant: the set has the positions before k that the test says yes to.
use Rattle.sets.specs.Collecting.{CollectsBy}
use Rattle.sets.proofs.collect.Given as goal

abbrev pub invariant-loop-k : goal.invariant-loop-k
invariant-loop-k g l = CollectsBy (goal.F-post g l.test) l.k l.set
