-- The two words of the name are those of the row.
use Rattle.matching_marks.proofs.row_named.Goals as goal

pub returns : goal.returns
returns c = rw (c.in_class.ensures, c.field_b.ensures, c.field_a.ensures)
