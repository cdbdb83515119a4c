-- The invariant: the rows marked are those that a row from parent on misplaces.
use Rattle.schema_places.specs.Marks.{MarksExactly}
use Rattle.schema_places.specs.Misplaced.{Misplaced}
use Rattle.schema_places.proofs.Sweep.{Swept}
use Rattle.schema_places.proofs.mark_places.Given as goal

abbrev pub invariant-loop-parent : goal.invariant-loop-parent
invariant-loop-parent l = MarksExactly (Swept l.schema (Misplaced l.schema) l.parent) l.bad
