-- The operand by the kind of the row.
use mathlib.Core.Path.{sym, ◌∙◌}
use native.Mathlib.Omega.{arith}
use Rattle.matching_marks.proofs.Marking.{second_is, second_none}
use Rattle.matching_marks.proofs.second_operand.Goals as goal

pub returns-in-10-to-12 : goal.returns-in-10-to-12
returns-in-10-to-12 c =
    c.field_b.ensures ∙ sym (second_is c.args.schema.now
    c.args.p (omega (arith, c.kind.ensures)) (omega (arith, c.kind.ensures)))

pub returns-in_default : goal.returns-in_default
returns-in_default c =
    let a = c.args in
    sym (second_none a.schema.now a.p (λ h l. omega (arith, c.kind.ensures)))

pub returns-in_default-2 : goal.returns-in_default-2
returns-in_default-2 c =
    let a = c.args in
    sym (second_none a.schema.now a.p (λ h l. omega (arith, c.kind.ensures)))
