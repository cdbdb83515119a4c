-- The invariant: the words from i on hold the singles from i on; gap and single have the gaps and the singles from i.
use Rattle.relations.proofs.Words.{Row, WrittenWords}
use Rattle.relations.specs.Words.{Gap, Single}
use Rattle.relations.proofs.singles.Given as goal

abbrev pub invariant-loop-i : goal.invariant-loop-i
invariant-loop-i l = WrittenWords l.m (Single l.m l.all l.marked) l.initial.w l.w l.i × Row (Gap l.m l.all) l.i l.gap
    × Row (Single l.m l.all l.marked) l.i l.single
