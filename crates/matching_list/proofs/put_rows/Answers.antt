-- The marked pairs of the rows before e are put.
use Rattle.matching_list.proofs.Putting.{put_as, put_none, no_rows, rows_more}
use Rattle.matching_list.specs.Listing.{marked_pairs}
use mathlib.Core.Path.{◌≡◌, sym, ap}
use native.Mathlib.Omega.{arith}
use Rattle.matching_list.proofs.put_rows.Goals as goal

pub loop-e-init : goal.loop-e-init
loop-e-init c = (omega arith, put_as (sym (no_rows _ _)) (put_none _ _))

pub put_row-n-requires : goal.put_row-n-requires
put_row-n-requires c =
    let x = c.loop-e.invariant.0 in
    (omega arith, omega arith, omega arith)

pub loop-e-preserved : goal.loop-e-preserved
loop-e-preserved c =
    let i = c.loop-e.invariant in
    let x = i.0 in
    let k = c.put_row-n.ensures.few in
    (omega arith, rows_more c.args.table.now c.args.definitions.now c.loop-e.e i.1 c.put_row-n.ensures.put_pairs)

pub returns : goal.returns
returns c =
    let a = c.args in
    let z : c.loop-e.e ≡ a.rows = omega arith in
    put_as (ap (marked_pairs a.table.now a.definitions.now) z) c.loop-e.invariant.1
