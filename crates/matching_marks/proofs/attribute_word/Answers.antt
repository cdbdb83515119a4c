-- The row of attribute x is e + 1 + x.
use native.Mathlib.Numerals.{add-one}
use Rattle.matching_marks.proofs.attribute_word.Goals as goal

pub returns : goal.returns
returns c = rw (← add-one c.args.e) c.at.ensures
