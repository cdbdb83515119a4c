-- The report is within the output that is lent to it.
use Prim.Native.Nat.{ℕ}
use mathlib.Core.Path.{sym}
use native.Mathlib.Omega.{arith}
use lib.ListN.{length-replicate}
use lib.Seq.{length-take-le}
use Rattle.validator.proofs.main.Goals as goal

pub slice_bounds-out-end : goal.slice_bounds-out-end
slice_bounds-out-end c =
    let l = c.out-2-1.given in
    let r = c.report-length.ensures.within in
    let s = length-replicate {A = ℕ} 131072 0 in
    omega arith

pub slice_bounds-write_all-end : goal.slice_bounds-write_all-end
slice_bounds-write_all-end c =
    let l = c.out-2-1.given in
    let r = c.report-length.ensures.within in
    let s = length-replicate {A = ℕ} 131072 0 in
    sym (length-take-le c.report-length.result c.report-length.new.out (omega arith))
