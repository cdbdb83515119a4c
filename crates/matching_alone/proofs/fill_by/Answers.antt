-- The first k entries are what the test says.
use native.Mathlib.Omega.{arith}
use Rattle.std.proofs.Common.{rules}
use Rattle.matching_alone.proofs.Filling.{row_none, row_more}
use Rattle.matching_alone.proofs.fill_by.Goals as goal

pub loop-k-init : goal.loop-k-init
loop-k-init g c = row_none _

pub loop-k-preserved : goal.loop-k-preserved
loop-k-preserved g c =
    row_more _ (omega (arith, c.requires.room))
    (c.test.result, c.test.ensures, search rules) c.loop-k.invariant
