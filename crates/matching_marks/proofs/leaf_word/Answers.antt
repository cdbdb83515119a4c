-- Each arm of the match gives its kind; what is left takes nothing.
use Rattle.matching_marks.proofs.Leaves.{leaf_strings, leaf_ref, leaf_attribute, leaf_none}
use mathlib.Core.Path.{sym, ◌∙◌}
use native.Mathlib.Omega.{arith}
use Rattle.matching_marks.proofs.leaf_word.Goals as goal

pub returns-in-7 : goal.returns-in-7
returns-in-7 c =
    λ T g row.
    leaf_attribute g c.args.p
    row (sym c.kind.ensures ∙ c.in-7.is) c.field_a-a.ensures
    c.field_b-b.ensures c.attributes_named.ensures c.attributes_fitting.ensures

pub returns-in-8 : goal.returns-in-8
returns-in-8 c =
    λ T g row. leaf_ref g c.args.p
    row (sym c.kind.ensures ∙ c.in-8.is)
    (rw c.field_a-a.ensures at c.elements_paired.ensures)

pub returns-in-3-to-6 : goal.returns-in-3-to-6
returns-in-3-to-6 c =
    λ T g row.
    leaf_strings g c.args.p
    row (omega (arith, c.kind.ensures)) (omega (arith, c.kind.ensures)) c.strings_alone.ensures

pub returns-in_default : goal.returns-in_default
returns-in_default c =
    λ T g row. leaf_none g
    c.args.p
    row (λ h l. omega (arith, c.kind.ensures))
    (λ z. omega (arith, c.kind.ensures)) (λ z. omega (arith, c.kind.ensures))

pub returns-in_default-2 : goal.returns-in_default-2
returns-in_default-2 c =
    λ T g row. leaf_none g c.args.p
    row (λ h l. omega (arith, c.kind.ensures))
    (λ z. omega (arith, c.kind.ensures)) (λ z. omega (arith, c.kind.ensures))
