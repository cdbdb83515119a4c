-- The invariant: the words from i on are empty.
use native.Mathlib.Omega.{arith}
use Rattle.relations.proofs.Rows.{empty_row}
use Rattle.relations.proofs.Words.{write_none, write_more, written}
use Rattle.relations.proofs.clear.Goals as goal

pub loop-i-init : goal.loop-i-init
loop-i-init c = write_none c.requires

pub loop-i-preserved : goal.loop-i-preserved
loop-i-preserved c = write_more c.loop-i.invariant (omega arith) (empty_row _)

pub shape_of-w : goal.shape_of-w
shape_of-w c = c.loop-i.invariant.rest.size

pub returns : goal.returns
returns c =
    record { is = written c.loop-i.invariant c.loop-i-test.false (λ k j r. absurd r); rest = c.loop-i.invariant.rest }
