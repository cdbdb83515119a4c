-- The invariant: the first n words are the definitions among the rows before d, and the others are as they were.
use native.Mathlib.Omega.{arith}
use Rattle.schema.proofs.DefinitionRows.{definitions_more}
use Rattle.schema.proofs.definitions.Goals as goal

pub loop-d-preserved : goal.loop-d-preserved
loop-d-preserved c =
    let i = c.loop-d.invariant in
    let few = i.before.few in
    let more = definitions_more i.before (omega arith) _ i.rest
    c.add_definition-n.ensures.value c.add_definition-n.ensures.stored in
    record { before = more.1; rest = more.2 }
