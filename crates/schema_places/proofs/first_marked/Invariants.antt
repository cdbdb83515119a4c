-- The invariant: no row before r is marked with a prohibited kind.
use Rattle.tables.specs.Answers.{Clear}
use Rattle.schema_places.specs.Prohibited.{MarkedKind}
use Rattle.schema_places.proofs.first_marked.Given as goal

abbrev pub invariant-loop-r : goal.invariant-loop-r
invariant-loop-r l = Clear (MarkedKind l.schema l.marks l.prohibition) l.r
