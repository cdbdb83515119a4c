-- The invariant: the rows marked are the children of rows from p on that are sources or below one. When p is passed its
-- own mark is final, since its parents are larger.
use Rattle.schema_places.specs.Marks.{MarksExactly}
use Rattle.schema_places.specs.Sources.{IsSource}
use Rattle.schema_places.proofs.Sweep.{Swept, Passed}
use Rattle.schema_places.proofs.mark_below.Given as goal

abbrev pub invariant-loop-p : goal.invariant-loop-p
invariant-loop-p l = MarksExactly (Swept l.schema (Passed l.schema (IsSource l.schema l.source)) l.p) l.below
