use Prim.Native.Nat.{◌*◌}
use mathlib.Core.Path.{sym}
use native.Mathlib.Omega.{arith}
use lib.Seq.{length-take-le}
use Rattle.report.proofs.write_pairs.Goals as goal

pub slice_bounds-write_matches-end : goal.slice_bounds-write_matches-end
slice_bounds-write_matches-end c =
    let a = c.args in
    sym (length-take-le (a.pairs * 2) a.list.now (omega arith))

pub write_matches-requires : goal.write_matches-requires
write_matches-requires c =
    let a = c.args in
    let e = length-take-le (a.pairs * 2) a.list.now (omega arith) in (omega arith, omega arith)

pub returns : goal.returns
returns c = c.write_matches.ensures
