-- One that is no element has no entry.
use Rattle.matching_pairs.proofs.Entries.{filling_row, filling_past}
use mathlib.Core.Path.{sym, ◌∙◌}
use borrow.Author.Tests.{eq-eqb, ne_eqb}
use Rattle.matching_pairs.proofs.pair_node.Goals as goal

pub pair_element-requires : goal.pair_element-requires
pair_element-requires c =
    let q = c.requires in
    (q.0, q.1, eq-eqb _ 1 (sym c.kind.ensures ∙ c.if-kind-eq-ELEMENT.true), q.2)

pub returns-then-kind-eq-ELEMENT : goal.returns-then-kind-eq-ELEMENT
returns-then-kind-eq-ELEMENT c = λ T f. filling_row f (c.pair_element.ensures T f)

pub returns-else-kind-eq-ELEMENT : goal.returns-else-kind-eq-ELEMENT
returns-else-kind-eq-ELEMENT c =
    λ T f. filling_past (ne_eqb _ 1 (λ z. c.if-kind-eq-ELEMENT.false (c.kind.ensures ∙ z))) f
