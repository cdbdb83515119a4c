-- The number is read off the text.
use Rattle.strings.specs.Chains.{hash_of}
use Rattle.strings.proofs.hash.Goals as goal

pub returns : goal.returns
unfolding hash_of
returns c = rw (← c.at-first.ensures, ← c.at-second.ensures, ← c.at-middle.ensures)
