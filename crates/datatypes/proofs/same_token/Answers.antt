-- The invariant: the texts are equal as tokens exactly when what remains of their normalized forms is. The measure:
-- what is left of a.
use native.Mathlib.Omega.{arith}
use Rattle.datatypes.proofs.Tokens.{remains_all, remains_end}
use Rattle.datatypes.proofs.Tokens.{remains_longer, remains_other, remains_next}
use Rattle.datatypes.proofs.same_token.Goals as goal

pub loop-c-init : goal.loop-c-init
loop-c-init c = remains_all _ _ _ _ c.skip_space-i.ensures.trimmed c.skip_space-j.ensures.trimmed

pub returns-in_default : goal.returns-in_default
returns-in_default c =
    remains_end c.loop-c.invariant c.next-next_b.result c.is_none.result
    c.in_default.is c.next-next_a.ensures c.next-next_b.ensures c.is_none.ensures

pub returns-in_default-next_b : goal.returns-in_default-next_b
returns-in_default-next_b c =
    remains_longer c.loop-c.invariant c.in-Some.is
    c.next-next_a.ensures c.in_default-next_b.is c.next-next_b.ensures

pub returns-then-c-d : goal.returns-then-c-d
returns-then-c-d c =
    remains_other c.loop-c.invariant
    c.in-Some.is c.next-next_a.ensures
    c.in-Some-next_b.is c.next-next_b.ensures c.if-c-d.true

pub loop-c-smaller : goal.loop-c-smaller
loop-c-smaller c = omega (arith, rw c.in-Some.is at c.next-next_a.ensures)

pub loop-c-preserved : goal.loop-c-preserved
loop-c-preserved c =
    remains_next c.loop-c.invariant
    c.in-Some.is c.next-next_a.ensures
    c.in-Some-next_b.is c.next-next_b.ensures c.if-c-d.false
