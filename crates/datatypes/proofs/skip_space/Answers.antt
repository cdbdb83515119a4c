-- The invariant: trimming gives the same from the position reached as from the start.
use mathlib.Core.Path.{refl, sym, ◌∙◌}
use native.Mathlib.Nat.{le-max_left}
use native.Mathlib.Omega.{arith}
use Rattle.datatypes.proofs.Positions.{search_end, pass, stop, stop_end}
use Rattle.datatypes.proofs.skip_space.Goals as goal

pub loop-i-init : goal.loop-i-init
loop-i-init c = record { onward = omega arith; within = le-max_left _ _; same = refl }

pub returns-then-not-is_space : goal.returns-then-not-is_space
returns-then-not-is_space c =
    stop c.loop-i.invariant (omega arith)
    (sym c.is_space.ensures ∙ c.if-not-is_space.true)

pub loop-i-preserved : goal.loop-i-preserved
loop-i-preserved c =
    pass c.loop-i.invariant (omega arith)
    (sym c.is_space.ensures ∙ c.if-not-is_space.false)

pub returns : goal.returns
returns c =
    let passed = c.loop-i.invariant in
    rw (c.max.ensures, ← search_end passed.onward passed.within c.loop-i-test.false)
    (stop_end passed c.loop-i-test.false)
