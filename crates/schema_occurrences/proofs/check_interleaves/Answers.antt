-- A wrong size, or what is found in a table of the right size.
use Rattle.schema.proofs.Sizes.{sized_on}
use Rattle.schema_occurrences.proofs.check_interleaves.Goals as goal

pub returns : goal.returns
returns c =
    sized_on _ _ c.check_size.ensures
    c.in_ok-check_size.was c.first_interleave.result c.first_interleave.ensures
