-- A group or interleave is at fault by two attributes that share a name, an attribute by an infinite class outside of a
-- oneOrMore.
use mathlib.Core.Path.{sym, ◌∙◌}
use Rattle.schema_occurrences.proofs.Clashes.{sharing_decides, no_attribute_fault}
use Rattle.schema_occurrences.proofs.Clashes.{repeated_right, infinite_decides}
use Rattle.schema_occurrences.proofs.Comparing.{compared_none}
use Rattle.schema_occurrences.proofs.attribute_fault.Goals as goal

pub occurs-requires : goal.occurs-requires
occurs-requires c = (c.requires.0, compared_none _ 1)

pub returns-then-is_sharing : goal.returns-then-is_sharing
returns-then-is_sharing c =
    let a = c.args in
    sharing_decides a.schema.now a.r (rw (← c.kind-kind.ensures)
    (sym c.is_sharing.ensures ∙ c.if-is_sharing.true)) c.occurs.result
    (rw (c.child_b.ensures, c.child_a.ensures) at c.occurs.ensures.0)

pub returns-then-kind-ne-ATTRIBUTE : goal.returns-then-kind-ne-ATTRIBUTE
returns-then-kind-ne-ATTRIBUTE c =
    no_attribute_fault c.args.schema.now c.args.r
    (rw (← c.kind-kind.ensures) (sym c.is_sharing.ensures ∙ c.if-is_sharing.false))
    (λ e. c.if-kind-ne-ATTRIBUTE.true (c.kind-kind.ensures ∙ e))

pub returns-then-at-eq1 : goal.returns-then-at-eq1
returns-then-at-eq1 c =
    repeated_right c.args.schema.now c.args.r c.requires.1
    (sym c.kind-kind.ensures ∙ c.if-kind-ne-ATTRIBUTE.false)
    (sym c.at.ensures ∙ c.if-at-eq1.true)

pub returns : goal.returns
returns c =
    infinite_decides c.args.schema.now c.args.r
    c.requires.1 (sym c.kind-kind.ensures ∙ c.if-kind-ne-ATTRIBUTE.false)
    (λ m. c.if-at-eq1.false (c.at.ensures ∙ m))
    c.infinite.result (rw c.child_a-2.ensures at c.infinite.ensures)
