-- The measure of a class is above that of its fields, and that of a field above those of the classes at smaller rows.
-- What a class of each kind mentions are the laws of Mentions.
use Prim.Native.Nat.{◌*◌, ◌+◌}
use Rattle.schema_classes.proofs.+mention_smaller_mention.Given as goal

abbrev pub decreases-mention : goal.decreases-mention
decreases-mention l = 2 * l.row + 1

abbrev pub decreases-smaller_mention : goal.decreases-smaller_mention
decreases-smaller_mention l = 2 * l.parent
