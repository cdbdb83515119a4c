-- The invariant: the words from i on hold the union, and the others are as they were.
use Rattle.relations.proofs.Words.{WrittenWords}
use Rattle.relations.specs.Relations.{Or}
use Rattle.relations.specs.Words.{WordsRelate, front, next}
use Rattle.relations.proofs.union.Given as goal

abbrev pub invariant-loop-i : goal.invariant-loop-i
invariant-loop-i l =
    WrittenWords l.m (Or (WordsRelate (front l.m l.initial.w)) (WordsRelate (next l.m l.initial.w))) l.initial.w l.w l.i
