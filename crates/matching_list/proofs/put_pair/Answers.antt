-- The two words of a pair.
use Rattle.matching_list.proofs.Putting.{put_both}
use Rattle.matching_list.proofs.put_pair.Goals as goal

pub returns : goal.returns
returns c = rw (c.put-2.ensures, c.put.ensures) (put_both _ _ _ _)
