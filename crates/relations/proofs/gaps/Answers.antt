-- The invariant: the words from i on hold the gaps from i on, and gap has those from i.
use native.Mathlib.Omega.{arith}
use Rattle.relations.proofs.Leaves.{gap_row, gap_end, gap_low}
use Rattle.relations.proofs.Words.{write_none, write_more, written}
use Rattle.relations.proofs.gaps.Goals as goal

pub loop-i-init : goal.loop-i-init
loop-i-init c = (write_none c.requires, gap_end _ _)

pub loop-i-preserved : goal.loop-i-preserved
loop-i-preserved c =
    let g = c.loop-i.invariant in
    let row = gap_row _ _ _ g.1 (omega arith) (omega (arith, g.0.within)) c.gap_word-gap.ensures in
    (write_more g.0 (omega arith) row, row)

pub shape_of-w : goal.shape_of-w
shape_of-w c = c.loop-i.invariant.0.rest.size

pub returns : goal.returns
returns c =
    record { is = written c.loop-i.invariant.0 c.loop-i-test.false (gap_low _ _); rest = c.loop-i.invariant.0.rest }
