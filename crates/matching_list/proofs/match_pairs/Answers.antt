-- The table of pairs has an entry for every row.
use Prim.Native.Nat.{ℕ}
use mathlib.Core.Path.{sym}
use lib.ListN.{length-replicate}
use Rattle.matching_list.proofs.MatchList.{whole_table}
use Rattle.matching_list.proofs.match_pairs.Goals as goal

pub slice_bounds-list_matches-end : goal.slice_bounds-list_matches-end
slice_bounds-list_matches-end c = sym (length-replicate {A = ℕ} 524288 0)

pub list_matches-requires : goal.list_matches-requires
list_matches-requires c = whole_table c.requires
