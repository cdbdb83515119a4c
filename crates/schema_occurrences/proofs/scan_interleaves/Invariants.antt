-- The invariant: no row passed is at fault, and the table of comparisons is right.
use Rattle.tables.specs.Answers.{Clear}
use Rattle.schema_occurrences.specs.Interleaves.{InterleaveFault}
use Rattle.schema_occurrences.specs.Occurrences.{Compared}
use Rattle.schema_occurrences.proofs.scan_interleaves.Given as goal

abbrev pub invariant-loop-r : goal.invariant-loop-r
invariant-loop-r l = Clear (InterleaveFault l.schema) l.r × Compared l.schema l.compared
