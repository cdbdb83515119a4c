-- The kind of the last child of the parent tells whether an attribute is late and whether a text follows a text.
use native.Mathlib.Omega.{arith}
use borrow.Author.Tests.{ne_eqb}
use Rattle.instance.proofs.Ancestors.{told_by_eqb}
use Rattle.instance.proofs.Order.{late, after_parent, attribute_told_wrong, text_follows, text_right}
use Rattle.instance_nodes.proofs.misplaced.Goals as goal

pub returns-then-before-ne0 : goal.returns-then-before-ne0
returns-then-before-ne0 c =
    λ strings fields. rw (ne_eqb _ _ c.if-before-ne0.true)
    (late c.requires c.kind-k.ensures c.parent-p.ensures c.at-before.ensures c.in-2.is c.if-before-ne0.true)

pub repeats_name-requires : goal.repeats_name-requires
repeats_name-requires c = (
  after_parent c.requires
      c.kind-k.ensures c.parent-p.ensures
      c.at-before.ensures (omega (arith, c.in-2.is)),
  omega (arith, c.requires.few),
)

pub returns-else-before-ne0 : goal.returns-else-before-ne0
returns-else-before-ne0 c =
    λ strings fields. attribute_told_wrong c.requires
    c.kind-k.ensures c.parent-p.ensures c.at-before.ensures strings fields
    c.in-2.is c.if-before-ne0.false c.repeats_name.result c.repeats_name.ensures

pub returns-in-3 : goal.returns-in-3
returns-in-3 c =
    λ strings fields. told_by_eqb _ _
    (text_follows c.requires c.kind-k.ensures c.parent-p.ensures c.at-before.ensures c.in-3.is)
    (text_right c.requires c.kind-k.ensures c.parent-p.ensures c.at-before.ensures strings fields c.in-3.is)
