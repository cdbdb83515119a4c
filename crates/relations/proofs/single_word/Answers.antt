-- The cases of the definition are those of the code.
use mathlib.Core.Path.{refl}
use Rattle.relations.proofs.single_word.Goals as goal

pub returns-then-has-2 : goal.returns-then-has-2
returns-then-has-2 c =
    rw (
      ← c.has.ensures,
      c.if-has.true,
      ← c.has-then-has.ensures,
      c.if-has-2.true,
    ) refl

pub returns-then-has : goal.returns-then-has
returns-then-has c =
    rw (
      ← c.has.ensures,
      c.if-has.true,
      ← c.has-then-has.ensures,
      c.if-has-2.false,
    ) refl

pub returns : goal.returns
returns c = rw (← c.has.ensures, c.if-has.false) refl
