-- Each arm of the match gives its kind; what is left has no operand.
use Rattle.matching_marks.proofs.Operands.{joined_one, joined_two, joined_none}
use mathlib.Core.Path.{sym, ◌∙◌, ap₂}
use lib.Bits.{bit_or}
use native.Mathlib.Omega.{arith}
use Rattle.matching_marks.proofs.operand_words.Goals as goal

pub returns-in-9 : goal.returns-in-9
returns-in-9 c =
    c.word-first.ensures ∙ rw c.field_a.ensures
    (sym (joined_one _ _ _ (sym c.kind.ensures ∙ c.in-9.is)))

pub returns-in-10-to-12 : goal.returns-in-10-to-12
returns-in-10-to-12 c =
    ap₂ bit_or (rw c.field_a.ensures at c.word-first.ensures)
    (rw c.field_b.ensures at c.word-second.ensures)
    ∙ sym (joined_two _ _ _ (omega (arith, c.kind.ensures)) (omega (arith, c.kind.ensures)))

pub returns-in_default : goal.returns-in_default
returns-in_default c = sym (joined_none _ _ _ (λ h l. omega (arith, c.kind.ensures)))

pub returns-in_default-2 : goal.returns-in_default-2
returns-in_default-2 c = sym (joined_none _ _ _ (λ h l. omega (arith, c.kind.ensures)))
