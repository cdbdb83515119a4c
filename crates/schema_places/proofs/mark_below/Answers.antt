-- The invariant: the rows marked are the children of rows from p on that are sources or below one. When p is passed its
-- own mark is final, since its parents are larger.
use native.Mathlib.Omega.{arith}
use lib.ListN.{length}
use Rattle.schema_places.proofs.Sweep.{row_end, sweep_none, sweep_below, sweep_end}
use Rattle.schema_places.proofs.mark_below.Goals as goal

pub loop-p-init : goal.loop-p-init
loop-p-init c = rw c.zero.ensures (sweep_none (length c.args.below.now) (row_end c.requires.few))

pub loop-p-preserved : goal.loop-p-preserved
loop-p-preserved c = sweep_below (omega arith) c.loop-p.invariant c.pass_below.ensures

pub returns : goal.returns
returns c = sweep_end (omega arith) c.loop-p.invariant
