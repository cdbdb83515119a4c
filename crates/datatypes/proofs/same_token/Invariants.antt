-- The invariant: the texts are equal as tokens exactly when what remains of their normalized forms is. The measure:
-- what is left of a.
use Prim.Native.Nat.{◌-◌}
use lib.ListN.{length}
use Rattle.datatypes.proofs.Tokens.{Remains}
use Rattle.datatypes.proofs.same_token.Given as goal

abbrev pub invariant-loop-c : goal.invariant-loop-c
invariant-loop-c l = Remains l.a l.b l.i l.j

abbrev pub decreases-loop-c : goal.decreases-loop-c
decreases-loop-c l = length l.a - l.i
