-- The entry is the byte that is read.
use Rattle.matching_marks.proofs.is_set.Goals as goal

pub returns : goal.returns
returns c = rw c.at.ensures
