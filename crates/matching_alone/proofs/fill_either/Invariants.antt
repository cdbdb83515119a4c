-- The first k entries are told by rows a and b, which are as they were.
use Rattle.matching_alone.specs.Rows.{EitherOf}
use Rattle.matching_alone.specs.Rows.{RowOf}
use Rattle.matching_alone.proofs.fill_either.Given as goal

abbrev pub invariant-loop-k : goal.invariant-loop-k
invariant-loop-k l = RowOf (EitherOf l.initial.alone l.a l.b) l.initial.alone l.alone l.p l.k
