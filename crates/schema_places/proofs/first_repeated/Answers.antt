-- First the rows below a oneOrMore are marked, then those below a group or interleave among them.
use Rattle.schema_places.proofs.Faults.{finds_below, marks_repeated}
use Rattle.schema_places.proofs.first_repeated.Goals as goal

pub returns : goal.returns
returns c =
    let repeated = c.mark_under in
    let below = c.mark_below in
    let marks = marks_repeated repeated.ensures below.ensures in
    finds_below _ c.first_marked.result marks c.first_marked.ensures
