-- What is found in a table of the right size.
use Rattle.tables.proofs.Checks.{found_none}
use Rattle.schema.proofs.RowLaws.{few_rows}
use Rattle.schema.proofs.Sizes.{sized_on}
use Rattle.schema_places.proofs.check_paths.Goals as goal

pub first_prohibited-requires : goal.first_prohibited-requires
first_prohibited-requires c = few_rows (found_none _ c.check_size.ensures c.in_ok-check_size.was)

pub returns : goal.returns
returns c =
    sized_on _ _ c.check_size.ensures c.in_ok-check_size.was c.first_prohibited.result c.first_prohibited.ensures
