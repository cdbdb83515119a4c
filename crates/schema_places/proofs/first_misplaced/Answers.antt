-- The marked rows are the faults of code 3, whatever their kinds.
use mathlib.Core.Path.{refl}
use Rattle.tables.proofs.Checks.{finds_same}
use Rattle.schema_places.proofs.first_misplaced.Goals as goal

pub returns : goal.returns
returns c =
    let marks = c.mark_places.ensures in
    finds_same c.first_marked.result
    (λ r f. marks.sound r f.mark)
    (λ r f. record { mark = marks.complete r f; prohibited = refl })
    c.first_marked.ensures
