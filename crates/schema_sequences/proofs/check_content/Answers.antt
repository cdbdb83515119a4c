-- What is found in a table of the right size.
use Rattle.schema.proofs.Sizes.{sized_on}
use Rattle.schema_sequences.proofs.check_content.Goals as goal

pub returns : goal.returns
returns c = sized_on _ _ c.check_size.ensures c.in_ok-check_size.was c.first_clash.result c.first_clash.ensures
