-- The invariant: the words from i on hold the composition, and the others are as they were.
use Rattle.relations.proofs.Words.{WrittenWords}
use Rattle.relations.specs.Relations.{Then}
use Rattle.relations.specs.Words.{WordsRelate, front, next}
use Rattle.relations.proofs.compose.Given as goal

abbrev pub invariant-loop-i : goal.invariant-loop-i
invariant-loop-i l = WrittenWords l.m (Then (WordsRelate (front l.m l.initial.w))
    (WordsRelate (next l.m l.initial.w))) l.initial.w l.w l.i
