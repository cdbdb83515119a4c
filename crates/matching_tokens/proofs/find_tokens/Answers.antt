-- The invariant: the strings passed have their places.
use Prim.Native.Nat.{◌≤◌}
use mathlib.Core.Path.{◌≡◌, sym, subst}
use native.Mathlib.Nat.{le_trans}
use native.Mathlib.Omega.{arith}
use lib.ListN.{length}
use Rattle.tables.specs.Tables.{string_table}
use Rattle.matching_tokens.specs.Tokens.{OneToken}
use Rattle.matching_tokens.proofs.Places.{short_text, PlacedTo, placed_more, placed_all}
use Rattle.matching_tokens.proofs.find_tokens.Goals as goal

pub one_token-one-requires : goal.one_token-one-requires
one_token-one-requires c =
    le_trans (subst (λ l. length l ≤ length c.args.bytes.now) (sym c.text.ensures.holds)
    (short_text (string_table c.args.bytes.now c.args.ends.now) c.loop-k.k))
    c.requires.few_bytes

pub loop-k-init : goal.loop-k-init
loop-k-init c = λ k h. absurd (omega arith)

pub loop-k-preserved : goal.loop-k-preserved
loop-k-preserved c =
    let l = c.loop-k in
    let o = c.one_token-one in
    let T = string_table c.args.bytes.now c.args.ends.now in
    placed_more T l.places l.k o.result.start o.result.end
    (omega (arith, c.requires.long)) l.invariant
    (subst (λ s. OneToken s o.result.start o.result.end) c.text.ensures.holds o.ensures.0)

pub returns : goal.returns
returns c =
    let l = c.loop-k in
    let T = string_table c.args.bytes.now c.args.ends.now in
    let e : l.k ≡ length c.args.ends.now = omega arith in
    placed_all T l.places (subst (PlacedTo T l.places) e l.invariant)
