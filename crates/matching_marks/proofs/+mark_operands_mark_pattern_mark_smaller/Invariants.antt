-- The measure of a row is above that of its operands, which are smaller rows.
use Prim.Native.Nat.{◌+◌, ◌*◌}
use Rattle.matching_marks.proofs.+mark_operands_mark_pattern_mark_smaller.Given as goal

abbrev pub decreases-mark_operands : goal.decreases-mark_operands
decreases-mark_operands l = 3 * l.p + 1

abbrev pub decreases-mark_pattern : goal.decreases-mark_pattern
decreases-mark_pattern l = 3 * l.p + 2

abbrev pub decreases-mark_smaller : goal.decreases-mark_smaller
decreases-mark_smaller l = 3 * l.p
