-- Valid or not is told of the table of pairs.
use Prim.Native.Nat.{ℕ}
use mathlib.Core.Path.{sym}
use lib.ListN.{length-replicate}
use Rattle.matching_list.proofs.MatchList.{whole_table}
use Rattle.matching_list.proofs.is_valid.Goals as goal

pub slice_bounds-pair_table-end : goal.slice_bounds-pair_table-end
slice_bounds-pair_table-end c = sym (length-replicate {A = ℕ} 524288 0)

pub pair_table-requires : goal.pair_table-requires
pair_table-requires c = whole_table c.requires

pub slice_bounds-valid-end : goal.slice_bounds-valid-end
slice_bounds-valid-end c = sym c.pairs-2-1.given

pub valid-requires : goal.valid-requires
valid-requires c =
    record {
      strings = _;
      instance = _;
      pass = c.requires;
      right = c.pair_table.ensures;
    }

pub returns : goal.returns
returns c =
    c.valid.ensures.tells _ _ c.requires
    c.pair_table.ensures
