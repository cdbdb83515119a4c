-- A wrong size comes first; with the right size only rows can be wrong.
use Rattle.tables.proofs.Checks.{found_none, finds_same}
use Rattle.schema.specs.RowRule.{bad_row}
use Rattle.schema.proofs.RowLaws.{few_rows}
use Rattle.schema_rows.proofs.Tests.{only_rows}
use Rattle.schema_rows.proofs.check_rows.Goals as goal

pub first_wrong_row-requires : goal.first_wrong_row-requires
first_wrong_row-requires c = few_rows (found_none _ c.check_size.ensures c.in_ok-check_size.was)

pub returns : goal.returns
returns c =
    let right = found_none _ c.check_size.ensures c.in_ok-check_size.was in
    finds_same c.first_wrong_row.result (λ r f. bad_row f) (only_rows right) c.first_wrong_row.ensures
