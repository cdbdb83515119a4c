-- The measure of a row is above that of its parts, which is above those of smaller rows; and what each function of the
-- cycle claims of the calls that it makes.

-- The needs of each function of the cycle. What a token does at a row of each kind are the laws of Stepping.
use Prim.Native.Nat.{ℕ, ◌<◌}
use Prim.Native.Nat.{ℕ, ◌<◌}
use mathlib.Core.Path.{◌≡◌, refl, sym, ◌∙◌, ap, subst}
use mathlib.Core.Bool.{◌&&◌, ◌||◌}
use native.Mathlib.Omega.{arith}
use Rattle.tables.specs.Tables.{string_table, tables_of}
use Rattle.schema.specs.Kinds as kind
use Rattle.schema.specs.Rows.{kind_of, a_of, b_of}
use Rattle.schema.specs.Views as pattern
use Rattle.matching_tokens.specs.MarkTable.{marked}
use Rattle.schema.proofs.Patterns as patterns
use Rattle.matching_tokens.proofs.Leaves.{repeat_falls, choice_falls_a, choice_falls_b}
use Rattle.matching_tokens.proofs.Leaves.{group_falls_a, group_falls_b, leaf_plain, leaf_kind}
use Rattle.matching_tokens.proofs.Shapes.{childless}
use Rattle.matching_tokens.proofs.Stepping.{nulls_below, stepped_empty, stepped_leaf, stepped_one_or_more}
use Rattle.matching_tokens.proofs.Stepping.{two_stepped, stepped_choice, stepped_group}
use Rattle.matching_tokens.proofs.+group_one_or_more_step_two_parts.Goals as goal

pub group-two_parts-requires : goal.group-two_parts-requires
group-two_parts-requires t c =
    let a = c.args in
    let T = string_table a.bytes.now a.ends.now in
    let s = a.schema.now in
    let passes = c.requires.0.passes in (
      omega arith,
      (
        c.requires.0,
        c.requires.1,
        group_falls_a T s passes a.p c.requires.2,
        group_falls_b T s passes a.p c.requires.2,
      ),
    )

pub group-returns : goal.group-returns
group-returns t c =
    let a = c.args in
    let T = string_table a.bytes.now a.ends.now in
    let s = a.schema.now in
    let d = c.two_parts in
    let k = c.requires.2 in
    let passes = c.requires.0.passes in
    let x = c.field_a-a.ensures in
    let g = c.both_or-onward in
    let z = c.is_marked-last in
    let entered : g.result
    ≡ (a.enter && marked a.nothing.now (a_of s a.p) || marked a.marks.now (a_of s a.p)) =
    g.ensures ∙ rw (
      c.is_marked-free.ensures ∙ ap (marked a.nothing.now) x,
      c.is_marked-before.ensures ∙ ap (marked a.marks.now) x,
    ) refl in
    let ended : z.result ≡ marked a.nothing.now (b_of s a.p) =
    z.ensures ∙ ap (marked a.nothing.now) c.field_b.ensures in
    stepped_group T s a.p a.enter a.token.now a.marks.now
    d.new.marks d.result a.nothing.now c.requires.1
    (group_falls_a T s passes a.p k) (group_falls_b T s passes a.p k) g.result
    z.result entered ended d.ensures (patterns.group_at s a.p k)

pub one_or_more-step-done-requires : goal.one_or_more-step-done-requires
one_or_more-step-done-requires t c =
    let a = c.args in
    let T = string_table a.bytes.now a.ends.now in
    let s = a.schema.now in
    let x = c.field_a-a.ensures in
    let l = repeat_falls T s c.requires.0.passes a.p c.requires.2 in
    (omega (arith, x, l), (c.requires.0, nulls_below T s a.nothing.now c.requires.1 (omega (arith, x, l))))

pub one_or_more-returns : goal.one_or_more-returns
one_or_more-returns t c =
    let a = c.args in
    let T = string_table a.bytes.now a.ends.now in
    let s = a.schema.now in
    let x = c.field_a-a in
    let g = c.both_or-inner in
    let d = c.step-done in
    let l = repeat_falls T s c.requires.0.passes a.p c.requires.2 in
    stepped_one_or_more T s a.p a.enter a.token.now x.result g.result a.marks.now
    d.new.marks c.put.new.marks d.result
    (g.ensures ∙ rw c.is_marked-again.ensures refl) d.ensures c.put.ensures
    (patterns.one_or_more_at s a.p c.requires.2 ∙ ap pattern.one_or_more (sym x.ensures))
    (subst (λ (n : ℕ). n < a.p) (sym x.ensures) l)

pub step-one_or_more-requires : goal.step-one_or_more-requires
step-one_or_more-requires t c = (omega arith, (c.requires.0, c.requires.1, sym c.kind-kind.ensures ∙ c.in-9.is))

pub step-two_parts-requires : goal.step-two_parts-requires
step-two_parts-requires t c =
    let a = c.args in
    let T = string_table a.bytes.now a.ends.now in
    let s = a.schema.now in
    let k : kind_of s a.p ≡ kind.choice = sym c.kind-kind.ensures ∙ c.in-10.is in
    let passes = c.requires.0.passes in (
      omega arith,
      (c.requires.0, c.requires.1, choice_falls_a T s passes a.p k, choice_falls_b T s passes a.p k),
    )

pub step-group-requires : goal.step-group-requires
step-group-requires t c = (omega arith, (c.requires.0, c.requires.1, sym c.kind-kind.ensures ∙ c.in-11.is))

pub step-leaf-requires : goal.step-leaf-requires
step-leaf-requires t c =
    let a = c.args in
    let T = string_table a.bytes.now a.ends.now in
    let s = a.schema.now in
    let e = c.kind-kind.ensures in
    (c.requires.0, leaf_plain T s c.requires.0.passes a.p (omega (arith, e)) (omega (arith, e)))

pub step-returns-in-9 : goal.step-returns-in-9
step-returns-in-9 t c = c.one_or_more.ensures

pub step-returns-in-10 : goal.step-returns-in-10
step-returns-in-10 t c =
    let a = c.args in
    let T = string_table a.bytes.now a.ends.now in
    let s = a.schema.now in
    let d = c.two_parts in
    stepped_choice T s a.p a.enter a.token.now a.marks.now d.new.marks
    d.result d.ensures (patterns.choice_at s a.p (sym c.kind-kind.ensures ∙ c.in-10.is))

pub step-returns-in-11 : goal.step-returns-in-11
step-returns-in-11 t c = c.group.ensures

pub step-returns-in-4 : goal.step-returns-in-4
step-returns-in-4 t c =
    let a = c.args in
    let T = string_table a.bytes.now a.ends.now in
    let s = a.schema.now in
    let e = c.kind-kind.ensures in
    stepped_leaf T s a.p a.enter a.token.now
    (leaf_kind s a.p (omega (arith, e)) (omega (arith, e))) c.leaf.ensures

pub step-returns-in_default : goal.step-returns-in_default
step-returns-in_default t c =
    let a = c.args in
    let T = string_table a.bytes.now a.ends.now in
    let s = a.schema.now in
    let e = c.kind-kind.ensures in
    let rest = c.in_default.in_default-own.rest in
    stepped_empty T s a.p a.enter a.token.now a.marks.now
    (λ i. childless (tables_of T s i) a.p (λ z. omega (arith, e)) (λ z. omega (arith, e))
    (λ z. rest.0.0.1 (e ∙ z)) (λ z. rest.0.1 (e ∙ z)) (λ z. rest.1 (e ∙ z)))

pub step-returns-in_default-2 : goal.step-returns-in_default-2
step-returns-in_default-2 t c =
    let a = c.args in
    let T = string_table a.bytes.now a.ends.now in
    let s = a.schema.now in
    let e = c.kind-kind.ensures in
    let rest = c.in_default.in_default-own.rest in
    stepped_empty T s a.p a.enter a.token.now a.marks.now
    (λ i. childless (tables_of T s i) a.p (λ z. omega (arith, e)) (λ z. omega (arith, e))
    (λ z. rest.0.0.1 (e ∙ z)) (λ z. rest.0.1 (e ∙ z)) (λ z. rest.1 (e ∙ z)))

pub two_parts-step-first-requires : goal.two_parts-step-first-requires
two_parts-step-first-requires t c =
    let a = c.args in
    let T = string_table a.bytes.now a.ends.now in
    let s = a.schema.now in
    let x = c.field_a-a.ensures in (
      omega (arith, x, c.requires.2),
      (c.requires.0, nulls_below T s a.nothing.now c.requires.1 (omega (arith, x, c.requires.2))),
    )

pub two_parts-step-then-requires : goal.two_parts-step-then-requires
two_parts-step-then-requires t c =
    let a = c.args in
    let T = string_table a.bytes.now a.ends.now in
    let s = a.schema.now in
    let x = c.field_b-b.ensures in (
      omega (arith, x, c.requires.3),
      (c.requires.0, nulls_below T s a.nothing.now c.requires.1 (omega (arith, x, c.requires.3))),
    )

pub two_parts-returns : goal.two_parts-returns
two_parts-returns t c =
    let a = c.args in
    let T = string_table a.bytes.now a.ends.now in
    let s = a.schema.now in
    let x = c.field_a-a in
    let y = c.field_b-b in
    let d = c.step-first in
    let e = c.step-then in
    let g = c.both_or-done in
    two_stepped T s a.p a.enter a.token.now x.result y.result
    a.onward a.last d.result e.result g.result a.marks.now
    d.new.marks e.new.marks c.put.new.marks
    x.ensures y.ensures c.requires.2 c.requires.3 d.ensures
    e.ensures g.ensures c.put.ensures
