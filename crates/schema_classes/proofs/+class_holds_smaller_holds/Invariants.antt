-- The measure of a class is above that of its fields, and that of a field above those of the classes at smaller rows.
-- What a class of each kind says are the laws of Judging.
use Prim.Native.Nat.{◌*◌, ◌+◌}
use Rattle.schema_classes.proofs.+class_holds_smaller_holds.Given as goal

abbrev pub decreases-class_holds : goal.decreases-class_holds
decreases-class_holds l = 2 * l.row + 1

abbrev pub decreases-smaller_holds : goal.decreases-smaller_holds
decreases-smaller_holds l = 2 * l.parent
