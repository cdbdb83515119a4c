-- What is found in a table of the right size.
use Rattle.tables.proofs.Checks.{found_none}
use Rattle.schema.proofs.RowLaws.{few_rows}
use Rattle.schema.proofs.Sizes.{sized_on}
use Rattle.schema_places.proofs.check_names.Goals as goal

pub first_name-requires : goal.first_name-requires
first_name-requires c = few_rows (found_none _ c.check_size.ensures c.in_ok-check_size.was)

pub returns : goal.returns
returns c = sized_on _ _ c.check_size.ensures c.in_ok-check_size.was c.first_name.result c.first_name.ensures
