-- The operand by the kind of the row.
use mathlib.Core.Path.{sym, ◌∙◌}
use native.Mathlib.Omega.{arith}
use Rattle.matching_marks.proofs.Marking.{first_is, first_none}
use Rattle.matching_marks.proofs.first_operand.Goals as goal

pub returns-in-9-to-12 : goal.returns-in-9-to-12
returns-in-9-to-12 c =
    c.field_a.ensures ∙ sym (first_is c.args.schema.now
    c.args.p (omega (arith, c.kind.ensures)) (omega (arith, c.kind.ensures)))

pub returns-in_default : goal.returns-in_default
returns-in_default c =
    let a = c.args in
    sym (first_none a.schema.now a.p (λ h l. omega (arith, c.kind.ensures)))

pub returns-in_default-2 : goal.returns-in_default-2
returns-in_default-2 c =
    let a = c.args in
    sym (first_none a.schema.now a.p (λ h l. omega (arith, c.kind.ensures)))
