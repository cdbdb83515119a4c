-- Each way out holds the repetitions: an attribute that does not match alone leaves none; without attributes they are
-- the closure; beside attributes no item will do too.
use Prim.Native.Nat.{◌-◌}
use native.Mathlib.Omega.{arith}
use lib.ListN.{length}
use Rattle.matching.proofs.Conditions.{repeats_none, repeats_items, repeats_beside}
use Rattle.matching.proofs.repeated.Goals as goal

pub returns-then-a-alone-ne0 : goal.returns-then-a-alone-ne0
returns-then-a-alone-ne0 c =
    repeats_none c.args.m _ c.args.k _ _ c.ranges.a.fits c.ranges.alone.fits
    c.if-a-alone-ne0.true c.clear.ensures.is

pub returns-then-a-eq0 : goal.returns-then-a-eq0
returns-then-a-eq0 c =
    repeats_items c.args.m _ c.args.k _ _ c.ranges.a.fits c.ranges.alone.fits
    c.if-a-eq0.true c.close.ensures.is

pub returns : goal.returns
returns c =
    let v = c.close.new.w in
    repeats_beside c.args.m _ c.args.k _ _ c.ranges.a.fits c.ranges.alone.fits (omega arith)
    (length v - 64) v c.gaps.new.w (omega arith) (omega arith) c.if-a-alone-ne0.false
    (omega arith) c.close.ensures.is c.gaps.ensures.is c.union.ensures.is
