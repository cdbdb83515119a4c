-- The invariant: the words from i on are closed, and the others are as they were.
use Rattle.relations.proofs.Words.{WrittenWords}
use Rattle.relations.specs.Relations.{Plus}
use Rattle.relations.specs.Words.{WordsRelate, front}
use Rattle.relations.proofs.close.Given as goal

abbrev pub invariant-loop-i : goal.invariant-loop-i
invariant-loop-i l = WrittenWords l.m (Plus (WordsRelate (front l.m l.initial.w))) l.initial.w l.w l.i
