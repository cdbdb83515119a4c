-- The invariant: the words from i on hold the gaps from i on, and gap has those from i.
use Rattle.relations.proofs.Words.{Row, WrittenWords}
use Rattle.relations.specs.Words.{Gap}
use Rattle.relations.proofs.gaps.Given as goal

abbrev pub invariant-loop-i : goal.invariant-loop-i
invariant-loop-i l = WrittenWords l.m (Gap l.m l.stop) l.initial.w l.w l.i × Row (Gap l.m l.stop) l.i l.gap
