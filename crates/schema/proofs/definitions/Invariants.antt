-- The invariant: the first n words are the definitions among the rows before d, and the others are as they were.
use mathlib.Core.Path.{◌≡◌}
use lib.ListN.{drop}
use Rattle.schema.specs.Definitions.{DefinitionsBefore}
use Rattle.schema.proofs.definitions.Given as goal

abbrev pub invariant-loop-d : goal.invariant-loop-d
invariant-loop-d l = record {
  before : DefinitionsBefore l.schema l.rows l.n l.d;
  rest : drop l.n l.rows ≡ drop l.n l.initial.rows;
}
