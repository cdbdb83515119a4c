-- The measure is the row. What a pattern of each kind does with a token are the laws of Leaves.
use Prim.Native.Nat.{ℕ}
use mathlib.Core.Path.{◌≡◌, sym, ◌∙◌, subst}
use mathlib.Core.List.{[], ◌∷◌}
use mathlib.Core.Logic.{◌≢◌}
use native.Mathlib.Omega.{arith}
use borrow.Author.Tests.{eq-eqb}
use Rattle.tables.specs.Answers.{Decides}
use Rattle.tables.specs.Tables.{string_table}
use Rattle.strings.specs.Strings.{text_of}
use Rattle.schema.specs.Kinds as kind
use Rattle.schema.specs.Rows.{kind_of, b_of}
use Rattle.matching_rules.specs.Items.{string}
use Rattle.matching_rules.specs.Job.{datatype_equal}
use Rattle.matching_tokens.specs.MarkTable.{PlainAt}
use Rattle.matching_tokens.specs.Tokens.{DecidesAt}
use Rattle.matching_tokens.proofs.Leaves.{except_falls, choice_falls_a, choice_falls_b}
use Rattle.matching_tokens.proofs.Leaves.{except_plain, choice_plain, fits_all, fits_value}
use Rattle.matching_tokens.proofs.Leaves.{fits_but, fits_first, fits_second, fits_none}
use Rattle.matching_tokens.proofs.+fits.Goals as goal

pub returns-then-b : goal.returns-then-b
returns-then-b t c =
    let a = c.args in
    rw (eq-eqb _ _ c.if-b.true) (fits_all (string_table a.bytes.now a.ends.now) a.schema.now a.p a.token.now
    (sym c.kind-kind.ensures ∙ c.in-4.is)
    (sym c.field_b-b.ensures ∙ c.if-b.true))

pub fits-requires : goal.fits-requires
fits-requires t c =
    let a = c.args in
    let T = string_table a.bytes.now a.ends.now in
    let s = a.schema.now in
    let ready = c.requires.0 in
    let k : kind_of s a.p ≡ kind.«data» = sym c.kind-kind.ensures ∙ c.in-4.is in
    let b = c.field_b-b.ensures in
    let some : b_of s a.p ≢ kind.no_row = (λ z. c.if-b.false (b ∙ z)) in (
      omega (arith, b, except_falls T s ready.passes a.p k some),
      (ready, subst (PlainAt T s) (sym b) (except_plain T s ready.passes a.p k some)),
    )

pub same_value-requires : goal.same_value-requires
same_value-requires t c =
    let ready = c.requires.0 in
    (ready.placed, ready.is_token)

pub fits-requires-in-10 : goal.fits-requires-in-10
fits-requires-in-10 t c =
    let a = c.args in
    let T = string_table a.bytes.now a.ends.now in
    let s = a.schema.now in
    let ready = c.requires.0 in
    let k : kind_of s a.p ≡ kind.choice = sym c.kind-kind.ensures ∙ c.in-10.is in
    let x = c.field_a-a.ensures in (
      omega (arith, x, choice_falls_a T s ready.passes a.p k),
      (ready, subst (PlainAt T s) (sym x) (choice_plain T s a.p c.requires.1 k).0),
    )

pub returns-then-fits : goal.returns-then-fits
returns-then-fits t c =
    let a = c.args in
    let T = string_table a.bytes.now a.ends.now in
    let s = a.schema.now in
    let f = c.fits-in-10 in
    rw c.if-fits.true (fits_first T s a.p a.token.now (sym c.kind-kind.ensures ∙ c.in-10.is)
    (subst (λ (q : ℕ). DecidesAt T s q (string a.token.now ∷ []) f.result)
    c.field_a-a.ensures f.ensures) c.if-fits.true)

pub fits-requires-else-fits : goal.fits-requires-else-fits
fits-requires-else-fits t c =
    let a = c.args in
    let T = string_table a.bytes.now a.ends.now in
    let s = a.schema.now in
    let ready = c.requires.0 in
    let k : kind_of s a.p ≡ kind.choice = sym c.kind-kind.ensures ∙ c.in-10.is in
    let x = c.field_b-b.ensures in (
      omega (arith, x, choice_falls_b T s ready.passes a.p k),
      (ready, subst (PlainAt T s) (sym x) (choice_plain T s a.p c.requires.1 k).1),
    )

pub returns-else-b : goal.returns-else-b
returns-else-b t c =
    let a = c.args in
    let T = string_table a.bytes.now a.ends.now in
    let s = a.schema.now in
    let b = c.field_b-b.ensures in
    fits_but T s a.p a.token.now c.requires.0.passes
    (sym c.kind-kind.ensures ∙ c.in-4.is)
    (λ z. c.if-b.false (b ∙ z)) c.fits.result
    (subst (λ (q : ℕ). DecidesAt T s q (string a.token.now ∷ []) c.fits.result) b c.fits.ensures)

pub returns-in-5 : goal.returns-in-5
returns-in-5 t c =
    let a = c.args in
    let T = string_table a.bytes.now a.ends.now in
    let s = a.schema.now in
    let r = c.same_value.result in
    fits_value T s a.p a.token.now (sym c.kind-kind.ensures ∙ c.in-5.is) r
    (subst (λ (d : ℕ). Decides (datatype_equal d a.token.now (text_of T (b_of s a.p))) r)
    c.field_a-a.ensures
    (subst (λ (v : ℕ). Decides (datatype_equal c.field_a-a.result a.token.now (text_of T v)) r)
    c.field_b-b.ensures c.same_value.ensures))

pub returns-else-fits : goal.returns-else-fits
returns-else-fits t c =
    let a = c.args in
    let T = string_table a.bytes.now a.ends.now in
    let s = a.schema.now in
    let f = c.fits-in-10 in
    fits_second T s a.p a.token.now (sym c.kind-kind.ensures ∙ c.in-10.is)
    (subst (λ (q : ℕ). DecidesAt T s q (string a.token.now ∷ []) f.result)
    c.field_a-a.ensures f.ensures) c.if-fits.false
    c.fits-else-fits.result (subst (λ (q : ℕ). DecidesAt T s q (string a.token.now ∷ []) c.fits-else-fits.result)
    c.field_b-b.ensures c.fits-else-fits.ensures)

pub returns-in_default : goal.returns-in_default
returns-in_default t c =
    let a = c.args in
    let e = c.kind-kind.ensures in
    let rest = c.in_default.in_default-own.rest in
    fits_none (string_table a.bytes.now a.ends.now) a.schema.now a.p a.token.now c.requires.1
    (λ z. rest.0.0.1 (e ∙ z)) (λ z. rest.0.1 (e ∙ z)) (λ z. rest.1 (e ∙ z))
