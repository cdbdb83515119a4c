-- The measure of a row is above that of its operands.
use native.Mathlib.Omega.{arith}
use mathlib.Core.Path.{refl, sym, ◌∙◌, ap}
use lib.ListN.{get_or}
use Rattle.matching_list.proofs.Root.{tells_ref, tells_first, tells_second, first_less}
use Rattle.matching_list.proofs.Root.{second_less, first_asked, second_asked, tells_nothing}
use Prim.Native.Nat.{ℕ}
use Rattle.matching_list.proofs.+matches_either_root_matches.Goals as goal

pub matches_either-root_matches-requires : goal.matches_either-root_matches-requires
matches_either-root_matches-requires t c =
    let a = c.args in
    let r = c.requires in
    let m = c.decreases in
    let l = first_less a.schema.now a.pairs.now a.p r.0
    c.field_a-first.ensures c.field_b-second.ensures r.1 in (
      omega arith,
      first_asked a.schema.now a.pairs.now a.p r.0
          c.field_a-first.ensures c.field_b-second.ensures r.1,
    )

pub matches_either-returns-then-root_matches : goal.matches_either-returns-then-root_matches
matches_either-returns-then-root_matches t c =
    let a = c.args in
    rw c.if-root_matches.true (tells_first a.schema.now a.pairs.now a.p c.requires.0
    c.field_a-first.ensures c.field_b-second.ensures
    _ c.if-root_matches.true c.root_matches.ensures)

pub matches_either-root_matches-requires-else-root_matches : goal.matches_either-root_matches-requires-else-root_matches
matches_either-root_matches-requires-else-root_matches t c =
    let a = c.args in
    let r = c.requires in
    let m = c.decreases in
    let l = second_less a.schema.now a.pairs.now a.p r.0
    c.field_a-first.ensures c.field_b-second.ensures r.1 in (
      omega arith,
      second_asked a.schema.now a.pairs.now a.p r.0
          c.field_a-first.ensures c.field_b-second.ensures r.1,
    )

pub matches_either-returns-else-root_matches : goal.matches_either-returns-else-root_matches
matches_either-returns-else-root_matches t c =
    let a = c.args in
    tells_second a.schema.now a.pairs.now a.p c.requires.0
    c.field_a-first.ensures c.field_b-second.ensures _ c.root_matches-else-root_matches.result
    c.if-root_matches.false c.root_matches.ensures c.root_matches-else-root_matches.ensures

pub root_matches-matches_either-requires : goal.root_matches-matches_either-requires
root_matches-matches_either-requires t c =
    let q = c.decreases in
    (omega arith, (sym c.kind-kind.ensures ∙ c.in-10.is, c.requires))

pub root_matches-returns-in-8 : goal.root_matches-returns-in-8
root_matches-returns-in-8 t c =
    let a = c.args in
    tells_ref a.schema.now a.pairs.now a.p _
    (sym c.kind-kind.ensures ∙ c.in-8.is)
    (c.at.ensures ∙ ap (λ (i : ℕ). get_or a.pairs.now i 0) c.field_a.ensures) refl

pub root_matches-returns-in-10 : goal.root_matches-returns-in-10
root_matches-returns-in-10 t c = c.matches_either.ensures

pub root_matches-returns-in_default : goal.root_matches-returns-in_default
root_matches-returns-in_default t c =
    tells_nothing c.args.schema.now
    c.args.pairs.now c.args.p
    (λ e. c.in_default.in_default-own.rest.0.1 (c.kind-kind.ensures ∙ e))
    (λ e. c.in_default.in_default-own.rest.1 (c.kind-kind.ensures ∙ e))
