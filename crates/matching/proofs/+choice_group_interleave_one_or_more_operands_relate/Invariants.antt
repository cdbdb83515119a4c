-- The measure of a row is above that of its parts, which is above those of smaller rows; and what each function of the
-- cycle claims of the calls that it makes.

-- The needs of each function of the cycle. What the words of each kind answer are the laws of Answering.
use Prim.Native.Nat.{◌+◌, ◌*◌}
use Rattle.matching.proofs.+choice_group_interleave_one_or_more_operands_relate.Given as goal

abbrev pub decreases-choice : goal.decreases-choice
decreases-choice l = 3 * l.p + 1

abbrev pub decreases-group : goal.decreases-group
decreases-group l = 3 * l.p + 1

abbrev pub decreases-interleave : goal.decreases-interleave
decreases-interleave l = 3 * l.p + 1

abbrev pub decreases-one_or_more : goal.decreases-one_or_more
decreases-one_or_more l = 3 * l.p + 1

abbrev pub decreases-operands : goal.decreases-operands
decreases-operands l = 3 * l.p

abbrev pub decreases-relate : goal.decreases-relate
decreases-relate l = 3 * l.p + 2
