-- The marked ones among the first k definitions are put.
use Rattle.matching_list.proofs.Putting.{put_as, put_none, without_row, row_more}
use Rattle.matching_list.specs.Listing.{row_pairs}
use mathlib.Core.Path.{◌≡◌, sym, ap}
use native.Mathlib.Omega.{arith}
use lib.ListN.{length}
use Rattle.matching_list.proofs.put_row.Goals as goal

pub loop-k-init : goal.loop-k-init
loop-k-init c = (omega arith, put_as (sym (without_row _ _ _)) (put_none _ _))

pub put_marked-m-requires : goal.put_marked-m-requires
put_marked-m-requires c = let x = c.loop-k.invariant.0 in omega arith

pub loop-k-preserved : goal.loop-k-preserved
loop-k-preserved c =
    let a = c.args in
    let i = c.loop-k.invariant in
    let x = i.0 in
    let z = c.put_marked-m.ensures.one in
    (omega arith, row_more a.table.now a.definitions.now a.e c.loop-k.k i.1 c.put_marked-m.ensures.put_pairs)

pub returns : goal.returns
returns c =
    let a = c.args in
    let i = c.loop-k.invariant in
    let x = i.0 in
    let z : c.loop-k.k ≡ length a.definitions.now = omega arith in
    record { put_pairs = put_as (ap (row_pairs a.table.now a.definitions.now a.e) z) i.1; few = omega arith }
