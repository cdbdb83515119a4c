-- Code 4 is what may not stand below an anyName, and what may not stand below an nsName.
use Rattle.tables.proofs.Checks.{finds_same}
use Rattle.schema_places.proofs.Faults.{finds_earliest, name_fault, fault_name}
use Rattle.schema_places.proofs.first_name.Goals as goal

pub returns : goal.returns
returns c =
    let any = c.first_below-any in
    let ns = c.first_below-ns in
    finds_same c.earlier.result name_fault fault_name
    (finds_earliest _ _ any.result ns.result c.earlier.ensures any.ensures ns.ensures)
