-- The invariant: the x rows right after e are its attributes.
use Rattle.matching_contents.proofs.Lists.{AttributesTo}
use Rattle.matching_contents.proofs.attributes.Given as goal

abbrev pub invariant-loop-x : goal.invariant-loop-x
invariant-loop-x l = AttributesTo l.instance l.e l.x
