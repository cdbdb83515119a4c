-- The shift stays in the word, so that it is the one position k.
use Rattle.sets.proofs.Bits.{one_shl}
use Rattle.sets.proofs.Collecting.{added, not_added}
use Rattle.sets.proofs.add_if.Goals as goal

pub returns-then-said : goal.returns-then-said
returns-then-said c = let a = c.args in rw (one_shl a.k c.requires) (added a.s a.k c.if-said.true)

pub returns : goal.returns
returns c = not_added _ _ c.if-said.false
