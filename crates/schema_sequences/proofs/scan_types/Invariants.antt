-- The invariant: the types of the rows passed are known, and none of them clashes.
use Rattle.tables.specs.Answers.{Clear}
use Rattle.schema_sequences.specs.Content.{SequenceFault}
use Rattle.schema_sequences.specs.TypeTable.{Types}
use Rattle.schema_sequences.proofs.scan_types.Given as goal

abbrev pub invariant-loop-r : goal.invariant-loop-r
invariant-loop-r l = record {
  types : Types l.schema l.types l.r;
  clear : Clear (SequenceFault l.schema) l.r;
}
