-- One law a kind.
use mathlib.Core.Path.{refl, sym, ◌∙◌}
use mathlib.Core.Logic.{inl, inr, ⊎_elim}
use native.Mathlib.Omega.{arith}
use Rattle.tables.proofs.Answers.{decides_same, said_yes, said_no}
use Rattle.matching_alone.proofs.Entries.{byte_told, marked_told}
use Rattle.matching_alone.proofs.Entries.{nothing_empty, nothing_text, nothing_one_or_more, nothing_choice}
use Rattle.matching_alone.proofs.Entries.{nothing_both, nothing_rest}
use Rattle.matching_alone.proofs.nothing_at.Goals as goal

pub returns-in-1 : goal.returns-in-1
returns-in-1 c =
    let a = c.args in
    ⊎_elim (λ e. nothing_empty a.schema.now a.nothing.now a.p (sym c.kind-kind.ensures ∙ e) refl)
    (λ e. nothing_text a.schema.now a.nothing.now a.p (sym c.kind-kind.ensures ∙ e) refl) c.in-1.is

pub returns-in-9 : goal.returns-in-9
returns-in-9 c =
    let a = c.args in
    nothing_one_or_more a.schema.now a.nothing.now a.p (sym c.kind-kind.ensures ∙ c.in-9.is)
    (byte_told c.is_marked-a.result (marked_told a.nothing.now c.is_marked-a.ensures c.field_a.ensures))

pub returns-then-a : goal.returns-then-a
returns-then-a c =
    let a = c.args in
    let first = marked_told a.nothing.now c.is_marked-a.ensures c.field_a.ensures in
    nothing_choice a.schema.now a.nothing.now a.p (sym c.kind-kind.ensures ∙ c.in-10.is)
    (byte_told c.is_marked-a.result (decides_same c.is_marked-a.result inl (λ d. said_yes first c.if-a.true) first))

pub returns-else-a : goal.returns-else-a
returns-else-a c =
    let a = c.args in
    let first = marked_told a.nothing.now c.is_marked-a.ensures c.field_a.ensures in
    nothing_choice a.schema.now a.nothing.now a.p (sym c.kind-kind.ensures ∙ c.in-10.is)
    (byte_told c.is_marked-b.result (decides_same c.is_marked-b.result inr
    (⊎_elim (λ d. absurd (said_no first c.if-a.false d)) (λ d. d))
    (marked_told a.nothing.now c.is_marked-b.ensures c.field_b.ensures)))

pub returns-then-a-2 : goal.returns-then-a-2
returns-then-a-2 c =
    let a = c.args in
    let first = marked_told a.nothing.now c.is_marked-a.ensures c.field_a.ensures in
    let second = marked_told a.nothing.now c.is_marked-b.ensures c.field_b.ensures in
    nothing_both a.schema.now a.nothing.now a.p (λ n. omega (arith, c.kind-kind.ensures))
    (byte_told c.is_marked-b.result
    (decides_same c.is_marked-b.result (λ d. (said_yes first c.if-a-2.true, d)) (λ d. d.1) second))

pub returns-else-a-2 : goal.returns-else-a-2
returns-else-a-2 c =
    let a = c.args in
    let first = marked_told a.nothing.now c.is_marked-a.ensures c.field_a.ensures in
    nothing_both a.schema.now a.nothing.now a.p (λ n. omega (arith, c.kind-kind.ensures))
    (byte_told c.is_marked-a.result
    (decides_same c.is_marked-a.result (λ d. absurd (said_no first c.if-a-2.false d)) (λ d. d.0) first))

pub returns-in_default : goal.returns-in_default
returns-in_default c =
    let k = c.kind-kind.ensures in
    nothing_rest c.args.schema.now c.args.nothing.now c.args.p (record {
      no_text = λ e. grind arith;
      no_repeat = λ e. omega arith;
      no_choice = λ e. omega arith;
      no_group = λ e. omega arith;
      no_interleave = λ e. omega arith;
    }) (λ e. grind arith) refl

pub returns-in_default-2 : goal.returns-in_default-2
returns-in_default-2 c =
    let k = c.kind-kind.ensures in
    nothing_rest c.args.schema.now c.args.nothing.now c.args.p (record {
      no_text = λ e. omega arith;
      no_repeat = λ e. omega arith;
      no_choice = λ e. omega arith;
      no_group = λ e. omega arith;
      no_interleave = λ e. omega arith;
    }) (λ e. omega arith) refl
