-- The first k entries are told by row a, which is as it was.
use Rattle.matching_alone.specs.Rows.{NotOf}
use Rattle.matching_alone.specs.Rows.{RowOf}
use Rattle.matching_alone.proofs.fill_neither.Given as goal

abbrev pub invariant-loop-k : goal.invariant-loop-k
invariant-loop-k l = RowOf (NotOf l.initial.alone l.a) l.initial.alone l.alone l.p l.k
