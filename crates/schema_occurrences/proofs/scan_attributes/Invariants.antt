-- The invariant: no row passed is at fault.
use Rattle.tables.specs.Answers.{Clear}
use Rattle.schema_occurrences.specs.Attributes.{AttributeFault}
use Rattle.schema_occurrences.proofs.scan_attributes.Given as goal

abbrev pub invariant-loop-r : goal.invariant-loop-r
invariant-loop-r l = Clear (AttributeFault l.schema) l.r
