-- The invariant: the words from i on hold the singles from i on; gap and single have the gaps and the singles from i.
use native.Mathlib.Omega.{arith}
use Rattle.relations.proofs.Leaves.{gap_row, gap_end, single_row, single_end, single_low}
use Rattle.relations.proofs.Words.{write_none, write_more, written}
use Rattle.relations.proofs.singles.Goals as goal

pub loop-i-init : goal.loop-i-init
loop-i-init c = (write_none c.requires, gap_end _ _, single_end _ _ _)

pub loop-i-preserved : goal.loop-i-preserved
loop-i-preserved c =
    let g = c.loop-i.invariant in
    let row = single_row _ _ _ _ g.1 g.2 (omega arith) c.single_word-single.ensures in (
      write_more g.0 (omega arith) row,
      gap_row _ _ _ g.1 (omega arith) (omega (arith, g.0.within)) c.gap_word-gap.ensures,
      row,
    )

pub shape_of-w : goal.shape_of-w
shape_of-w c = c.loop-i.invariant.0.rest.size

pub returns : goal.returns
returns c = record {
  is = written c.loop-i.invariant.0 c.loop-i-test.false (single_low _ _ _);
  rest = c.loop-i.invariant.0.rest;
}
