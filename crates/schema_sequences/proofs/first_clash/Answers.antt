-- The rows below a list are marked before the rows are judged.
use mathlib.Core.Path.{refl}
use Rattle.schema.proofs.RowLaws.{few_rows}
use Rattle.schema_sequences.proofs.first_clash.Goals as goal

pub mark_under-requires : goal.mark_under-requires
mark_under-requires c = record { few = few_rows c.requires; room = refl }
