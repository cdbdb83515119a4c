-- There is a least name in common exactly when there is one.
use Rattle.schema.proofs.RowLaws.{few_rows}
use Rattle.schema_occurrences.proofs.share_name.Goals as goal

pub least_common-requires : goal.least_common-requires
least_common-requires c = few_rows c.requires
