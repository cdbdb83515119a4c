-- A stop at i ends every gap from i but the empty one.
use mathlib.Core.Path.{refl}
use Rattle.sets.proofs.Bits.{one_shl}
use Rattle.relations.proofs.gap_word.Goals as goal

pub returns-then-has : goal.returns-then-has
returns-then-has c = rw (← c.has.ensures, c.if-has.true) (one_shl c.args.i c.requires)

pub returns : goal.returns
returns c = rw (← c.has.ensures, c.if-has.false, one_shl c.args.i c.requires) refl
