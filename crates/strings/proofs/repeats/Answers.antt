-- The invariant: no string from m on has the text of string k, and the one before m has its hash.
use mathlib.Core.Path.{◌≡◌, sym, ◌∙◌}
use Prim.Native.Nat.{suc, ◌-◌}
use native.Mathlib.Omega.{arith}
use Rattle.std.specs.Cmp.Lexicographic.{same_text, other_text}
use Rattle.strings.proofs.Chains.{walk_start, walk_step}
use Rattle.strings.proofs.repeats.Goals as goal

pub loop-m-init : goal.loop-m-init
loop-m-init c = walk_start c.requires.2

pub returns-then-eq : goal.returns-then-eq
returns-then-eq c =
    let i = c.loop-m.invariant in
    let l = i.low in (
      c.requires.0,
      (
        c.loop-m.m - 1,
        omega arith,
        sym c.text.ensures.holds ∙ same_text _ _ c.if-eq.ensures
            ∙ c.text-own.ensures.holds,
      ),
    )

pub loop-m-smaller : goal.loop-m-smaller
loop-m-smaller c =
    let i = c.loop-m.invariant in
    let b = i.low in
    let l = (c.requires.3
    (c.loop-m.m - 1) (omega arith)).low in
    omega arith

pub loop-m-preserved : goal.loop-m-preserved
loop-m-preserved c =
    let e : suc (c.loop-m.m - 1) ≡ c.loop-m.m = omega arith in
    walk_step c.args.prior.now (c.loop-m.m - 1) e c.requires.3
    (λ z. other_text _ _ c.if-eq.ensures
    (c.text.ensures.holds ∙ z ∙ sym c.text-own.ensures.holds)) c.loop-m.invariant

pub returns : goal.returns
returns c = λ r. c.loop-m.invariant.later r.1.0 (omega arith) r.1.1 r.1.2
