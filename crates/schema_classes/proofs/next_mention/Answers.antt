-- What the second class mentions lowers the best of the first.
use Rattle.schema_classes.proofs.Lowering.{lowered_either}
use Rattle.schema_classes.proofs.next_mention.Goals as goal

pub returns : goal.returns
returns c = lowered_either c.mention-best.ensures c.mention.ensures
