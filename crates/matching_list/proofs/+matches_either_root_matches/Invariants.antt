-- The measure of a row is above that of its operands.
use Prim.Native.Nat.{◌+◌, ◌*◌}
use Rattle.matching_list.proofs.+matches_either_root_matches.Given as goal

abbrev pub decreases-matches_either : goal.decreases-matches_either
decreases-matches_either l = 2 * l.p

abbrev pub decreases-root_matches : goal.decreases-root_matches
decreases-root_matches l = 2 * l.p + 1
