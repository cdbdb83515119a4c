-- The first k entries are what the test says.
use Rattle.matching_alone.specs.Rows.{RowOf, SaidBy}
use Rattle.matching_alone.proofs.fill_by.Given as goal

abbrev pub invariant-loop-k : goal.invariant-loop-k
invariant-loop-k g l = RowOf (SaidBy (goal.F-post g l.test)) l.initial.alone l.alone l.p l.k
