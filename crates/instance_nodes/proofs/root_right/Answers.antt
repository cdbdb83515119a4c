-- Row 0 is an element, or has no right parent.
use mathlib.Core.Path.{◌∙◌, sym}
use borrow.Author.Tests.{ne_eqb}
use Rattle.instance.proofs.Ancestors.{told_by_eqb, root_right, root_told}
use Rattle.instance_nodes.proofs.root_right.Goals as goal

pub returns-then-kind-eq-ELEMENT : goal.returns-then-kind-eq-ELEMENT
returns-then-kind-eq-ELEMENT c =
    told_by_eqb _ _
    (λ e. root_right _ (sym c.kind.ensures ∙ c.if-kind-eq-ELEMENT.true) (sym c.parent.ensures ∙ e))
    (λ n right. n (c.parent.ensures ∙ (root_told _ right).1))

pub returns-else-kind-eq-ELEMENT : goal.returns-else-kind-eq-ELEMENT
returns-else-kind-eq-ELEMENT c =
    rw (ne_eqb _ _ c.if-kind-eq-ELEMENT.false)
    (λ right. c.if-kind-eq-ELEMENT.false (c.kind.ensures ∙ (root_told _ right).0))
