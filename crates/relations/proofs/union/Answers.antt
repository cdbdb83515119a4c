-- The invariant: the words from i on hold the union, and the others are as they were.
use native.Mathlib.Omega.{arith}
use Rattle.relations.proofs.Rows.{or_row, or_low}
use Rattle.relations.proofs.Words.{room_front, write_none, write_more, written, kept}
use Rattle.relations.proofs.union.Goals as goal

pub loop-i-init : goal.loop-i-init
loop-i-init c = write_none (room_front c.requires)

pub loop-i-preserved : goal.loop-i-preserved
loop-i-preserved c =
    let s = c.args in
    let g = c.loop-i.invariant in
    write_more g (omega arith)
    (or_row s.m s.w.now (omega (arith, g.within)) (g.before _ (omega arith)) (kept g _))

pub shape_of-w : goal.shape_of-w
shape_of-w c = c.loop-i.invariant.rest.size

pub returns : goal.returns
returns c = record {
  is = written c.loop-i.invariant c.loop-i-test.false (or_low _ c.args.w.now);
  rest = c.loop-i.invariant.rest;
}
