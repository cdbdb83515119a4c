-- The part runs from the start of the string to its end.
use Rattle.strings.proofs.text.Goals as goal

pub returns : goal.returns
returns c = rw (← c.start-from.ensures, ← c.at-to.ensures) c.part.ensures
