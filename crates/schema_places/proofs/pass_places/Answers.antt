-- Each child is wanted where p misplaces it.
use Rattle.schema_places.proofs.Marks.{adds_those}
use Rattle.schema_places.proofs.pass_places.Goals as goal

pub returns : goal.returns
returns c =
    let pre = c.requires in
    let first = c.misplaced-a in
    let second = c.misplaced-b in
    adds_those pre.0 pre.1 _ first.result second.result
    (rw c.child_a.ensures at first.ensures)
    (rw c.child_b.ensures at second.ensures)
    c.mark_children.ensures
