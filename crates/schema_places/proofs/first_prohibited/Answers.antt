-- Code 5 is what may not stand below an attribute, a group or interleave in a oneOrMore, a list, a data, and the start.
use Rattle.tables.proofs.Checks.{finds_same}
use Rattle.schema_places.proofs.Faults.{finds_earliest, path_fault, fault_path}
use Rattle.schema_places.proofs.first_prohibited.Goals as goal

pub returns : goal.returns
returns c =
    let attribute = c.first_below-attribute in
    let repeated = c.first_repeated-repeated in
    let list = c.first_below-list in
    let except = c.first_below-except in
    let start = c.first_below-start in
    let first = c.earlier in
    let last = c.earlier-2 in
    let second = c.earlier-3 in
    finds_same c.earlier-4.result path_fault fault_path
    (finds_earliest _ _ first.result second.result c.earlier-4.ensures
    (finds_earliest _ _ attribute.result repeated.result
    first.ensures attribute.ensures repeated.ensures)
    (finds_earliest _ _ list.result last.result second.ensures list.ensures
    (finds_earliest _ _ except.result start.result last.ensures except.ensures start.ensures)))
