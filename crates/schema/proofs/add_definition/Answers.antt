-- By whether the row is a definition.
use mathlib.Core.Path.{◌≡◌, sym, ◌∙◌}
use mathlib.Core.Bool.{true, false}
use native.Mathlib.Omega.{arith}
use Rattle.schema.specs.Definitions.{is_definition}
use Rattle.schema.proofs.DefinitionRows.{is_definition_lem, no_definition}
use Rattle.schema.proofs.add_definition.Goals as goal

pub returns-then-kind-eq-ELEMENT : goal.returns-then-kind-eq-ELEMENT
returns-then-kind-eq-ELEMENT c =
    let s = c.args in
    let z : is_definition s.schema.now s.d
    ≡ true = is_definition_lem s.schema.now s.d (sym c.kind.ensures
    ∙ c.if-kind-eq-ELEMENT.true) in
    record { value = rw z; stored = c.put.ensures ∙ rw z }

pub returns : goal.returns
returns c =
    let s = c.args in
    let z : is_definition s.schema.now s.d
    ≡ false = no_definition s.schema.now s.d (λ e. c.if-kind-eq-ELEMENT.false (c.kind.ensures ∙ e)) in
    record { value = rw z (omega arith); stored = rw z }
