-- The measure of a row is above that of its parts, which is above those of smaller rows; and what each function of the
-- cycle claims of the calls that it makes.

-- The needs of each function of the cycle. What a token does at a row of each kind are the laws of Stepping.
use Prim.Native.Nat.{◌+◌, ◌*◌}
use Rattle.matching_tokens.proofs.+group_one_or_more_step_two_parts.Given as goal

abbrev pub decreases-group : goal.decreases-group
decreases-group l = 3 * l.p + 1

abbrev pub decreases-one_or_more : goal.decreases-one_or_more
decreases-one_or_more l = 3 * l.p + 1

abbrev pub decreases-step : goal.decreases-step
decreases-step l = 3 * l.p + 2

abbrev pub decreases-two_parts : goal.decreases-two_parts
decreases-two_parts l = 3 * l.p
