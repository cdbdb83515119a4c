-- The invariant: no end before k falls.
use Rattle.tables.specs.Answers.{Clear}
use Rattle.strings.specs.Strings.{Falls}
use Rattle.strings.proofs.first_fall.Given as goal

abbrev pub invariant-loop-k : goal.invariant-loop-k
invariant-loop-k l = Clear (Falls l.ends) l.k
