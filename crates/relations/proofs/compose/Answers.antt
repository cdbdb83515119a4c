-- The invariant: the words from i on hold the composition, and the others are as they were.
use native.Mathlib.Omega.{arith}
use mathlib.Core.Path.{refl}
use Rattle.relations.proofs.Rows.{then_row, then_low}
use Rattle.relations.proofs.Words.{room_front, write_none, write_more, written, next_kept}
use Rattle.relations.proofs.compose.Goals as goal

pub loop-i-init : goal.loop-i-init
loop-i-init c = write_none (room_front c.requires)

pub loop-i-preserved : goal.loop-i-preserved
loop-i-preserved c =
    let s = c.args in
    let l = c.loop-i in
    let g = l.invariant in
    write_more g (omega arith) (then_row s.m s.w.now l.w (omega (arith, g.within))
    (g.before _ (omega arith)) (next_kept g) refl c.image-r.ensures)

pub shape_of-w : goal.shape_of-w
shape_of-w c = c.loop-i.invariant.rest.size

pub returns : goal.returns
returns c = record {
  is = written c.loop-i.invariant c.loop-i-test.false (then_low _ c.args.w.now);
  rest = c.loop-i.invariant.rest;
}
