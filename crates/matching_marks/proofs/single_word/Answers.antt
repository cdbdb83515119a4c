-- Each arm of the match gives its kind; what is left matches no attribute alone.
use Rattle.tables.specs.Tables.{tables_of}
use Rattle.matching_marks.proofs.Singles.{single_attribute, single_operands, single_none}
use mathlib.Core.Path.{sym, ◌∙◌}
use native.Mathlib.Omega.{arith}
use Rattle.matching_marks.proofs.single_word.Goals as goal

pub returns-in-7 : goal.returns-in-7
returns-in-7 c =
    let a = c.args in
    λ T t e attributes pass leaf below. single_attribute (tables_of T a.schema.now t)
    e attributes pass a.p a.leaf (sym c.kind.ensures ∙ c.in-7.is) leaf

pub returns-in-9-to-10 : goal.returns-in-9-to-10
returns-in-9-to-10 c =
    λ T t e attributes pass leaf below. single_operands (tables_of T c.args.schema.now t)
    e attributes pass c.args.p c.args.single.now
    (omega (arith, c.kind.ensures)) (omega (arith, c.kind.ensures)) c.operand_words.ensures below

pub returns-in_default : goal.returns-in_default
returns-in_default c =
    let a = c.args in
    λ T t e attributes pass leaf below. single_none (tables_of T a.schema.now t) e attributes pass a.p
    (λ z. omega (arith, c.kind.ensures)) (λ h l. omega (arith, c.kind.ensures))

pub returns-in_default-2 : goal.returns-in_default-2
returns-in_default-2 c =
    λ T t e attributes pass leaf below. single_none (tables_of T c.args.schema.now t)
    e attributes pass c.args.p
    (λ z. omega (arith, c.kind.ensures)) (λ h l. omega (arith, c.kind.ensures))
