-- The measure of a class is above that of its members, and that of a member above those of the classes at smaller rows.
use Prim.Native.Nat.{◌*◌, ◌+◌}
use Rattle.schema_classes.proofs.+apart_smaller_apart.Given as goal

abbrev pub decreases-apart : goal.decreases-apart
decreases-apart l = 2 * l.row + 1

abbrev pub decreases-smaller_apart : goal.decreases-smaller_apart
decreases-smaller_apart l = 2 * l.parent
