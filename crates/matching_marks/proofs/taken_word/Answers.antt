-- Each arm of the match gives its kind; what is left takes by its operands.
use Rattle.tables.specs.Tables.{tables_of}
use Rattle.matching_marks.proofs.Reaching.{taken_strings, taken_ref, taken_other}
use mathlib.Core.Path.{sym, ◌∙◌}
use native.Mathlib.Omega.{arith}
use Rattle.matching_marks.proofs.taken_word.Goals as goal
use Rattle.matching_marks.proofs.taken_word.Goals.{in_default-via-then-this-lt3}
use Rattle.matching_marks.proofs.taken_word.Goals.{in_default-via-else-this-lt3+else-this-lt7}

pub returns-in-8 : goal.returns-in-8
returns-in-8 c =
    let a = c.args in
    λ T pass below. taken_ref (tables_of T a.schema.now a.instance.now) pass a.p
    a.items.now a.texts (sym c.kind.ensures ∙ c.in-8.is)
    (rw (c.field_a-c.ensures, c.field_a-d.ensures) at c.elements_named.ensures)

pub returns-in-3-to-6 : goal.returns-in-3-to-6
returns-in-3-to-6 c =
    let a = c.args in
    λ T pass below. taken_strings (tables_of T a.schema.now a.instance.now) pass a.p
    a.items.now a.texts (omega (arith, c.kind.ensures))
    (omega (arith, c.kind.ensures))

pub returns-in_default : goal.returns-in_default
returns-in_default c =
    let a = c.args in
    λ T pass below.
    taken_other (tables_of T a.schema.now a.instance.now) pass a.p a.items.now a.texts
    a.taken.now (λ h l. elim c.in_default.branch [
      | in_default-via-then-this-lt3 w ↦ omega (arith, c.kind.ensures)
      | in_default-via-else-this-lt3+else-this-lt7 w ↦ omega (arith, c.kind.ensures)
    ])
    (λ z. omega (arith, c.kind.ensures)) c.operand_words.ensures below
