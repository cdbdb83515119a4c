-- The table of rows below a oneOrMore has a word for every row.
use mathlib.Core.Path.{refl}
use Rattle.schema.proofs.RowLaws.{few_rows}
use Rattle.schema_occurrences.proofs.first_attribute.Goals as goal

pub mark_under-requires : goal.mark_under-requires
mark_under-requires c = record { few = few_rows c.requires; room = refl }
