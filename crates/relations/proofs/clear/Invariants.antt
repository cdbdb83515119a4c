-- The invariant: the words from i on are empty.
use Rattle.relations.proofs.Words.{WrittenWords}
use Rattle.relations.specs.Words.{Empty}
use Rattle.relations.proofs.clear.Given as goal

abbrev pub invariant-loop-i : goal.invariant-loop-i
invariant-loop-i l = WrittenWords l.m Empty l.initial.w l.w l.i
