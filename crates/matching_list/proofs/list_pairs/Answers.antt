-- The marked pairs are put into zeros, and kept where they fit.
use Rattle.matching_list.proofs.Putting.{kept_list}
use Rattle.matching_list.proofs.list_pairs.Goals as goal

pub returns : goal.returns
returns c =
    kept_list c.zero.ensures
    c.put_rows-n.ensures c.keep_listed.ensures
