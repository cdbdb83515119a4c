-- An attribute pattern by its class, and any other by its operands.
use Rattle.tables.specs.Tables.{tables_of}
use Rattle.matching_marks.proofs.Reaching.{named_attribute, named_other}
use mathlib.Core.Path.{sym, ◌∙◌}
use Rattle.matching_marks.proofs.named_word.Goals as goal

pub returns-in-7 : goal.returns-in-7
returns-in-7 c =
    let a = c.args in
    λ T pass below. named_attribute (tables_of T a.schema.now a.instance.now) pass a.p
    a.e a.attributes (sym c.kind.ensures ∙ c.in-7.is)
    (rw c.field_a-a.ensures at c.attributes_named.ensures)

pub returns-in_default : goal.returns-in_default
returns-in_default c =
    let a = c.args in
    λ T pass below. named_other (tables_of T a.schema.now a.instance.now)
    pass a.p a.e a.attributes a.named.now
    (λ z. c.in_default.in_default-own.rest.1 (c.kind.ensures ∙ z)) c.operand_words.ensures below
