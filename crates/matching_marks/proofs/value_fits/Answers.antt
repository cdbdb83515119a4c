-- The tests of the definition are those of the code.
use Rattle.matching_marks.proofs.value_fits.Goals as goal

pub returns : goal.returns
returns c = rw (c.is_set.ensures, c.at.ensures, c.at-2.ensures)
