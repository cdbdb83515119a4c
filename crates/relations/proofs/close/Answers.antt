-- The invariant: the words from i on are closed, and the others are as they were.
use native.Mathlib.Omega.{arith}
use mathlib.Core.Path.{refl, sym}
use lib.Seq.{length-take-le}
use Rattle.relations.proofs.Closure.{plus_low, plus_row}
use Rattle.relations.proofs.Words.{write_none, write_more, written}
use Rattle.relations.proofs.close.Goals as goal

pub loop-i-init : goal.loop-i-init
loop-i-init c = write_none c.requires.0

pub slice_bounds-image-end-in-loop-i : goal.slice_bounds-image-end-in-loop-i
slice_bounds-image-end-in-loop-i c = sym (length-take-le _ c.loop-i.w (omega arith))

pub loop-i-preserved : goal.loop-i-preserved
loop-i-preserved c =
    let g = c.loop-i.invariant in
    write_more g (omega arith)
    (plus_row c.requires.1 _ g (omega arith) refl c.image-r.ensures)

pub shape_of-w : goal.shape_of-w
shape_of-w c = c.loop-i.invariant.rest.size

pub returns : goal.returns
returns c =
    let g = c.loop-i.invariant in
    record { is = written g c.loop-i-test.false (plus_low _ c.args.w.now); rest = g.rest }
