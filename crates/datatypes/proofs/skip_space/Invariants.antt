-- The invariant: trimming gives the same from the position reached as from the start.
use Rattle.datatypes.proofs.Positions.{Passed}
use Rattle.datatypes.proofs.skip_space.Given as goal

abbrev pub invariant-loop-i : goal.invariant-loop-i
invariant-loop-i l = Passed l.s l.from l.i
