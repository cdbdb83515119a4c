-- The row number falls at each call. A class is infinite itself or by a child.
use Prim.Native.Nat.{◌+◌, ◌*◌}
use Rattle.schema_occurrences.proofs.+infinite_infinite_child.Given as goal

abbrev pub decreases-infinite : goal.decreases-infinite
decreases-infinite l = 2 * l.class + 1

abbrev pub decreases-infinite_child : goal.decreases-infinite_child
decreases-infinite_child l = 2 * l.parent
