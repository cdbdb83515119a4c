-- The two words of the name are those of the row of attribute x.
use Rattle.matching_marks.proofs.attribute_named.Goals as goal

pub returns : goal.returns
returns c = rw (c.in_class.ensures, c.attribute_word-2.ensures, c.attribute_word.ensures)
