-- Both children are wanted where p is a source or below one.
use Rattle.schema_places.proofs.Marks.{adds_those}
use Rattle.schema_places.proofs.pass_below.Goals as goal

pub returns : goal.returns
returns c =
    let pre = c.requires in
    let passes = c.passes-on in
    adds_those pre.0 pre.1 _ passes.result passes.result passes.ensures
    passes.ensures c.mark_children.ensures
