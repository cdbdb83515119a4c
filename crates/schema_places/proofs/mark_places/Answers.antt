-- The invariant: the rows marked are those that a row from parent on misplaces.
use native.Mathlib.Omega.{arith}
use lib.ListN.{length}
use Rattle.schema_places.proofs.Sweep.{row_end, sweep_none, sweep_more}
use Rattle.schema_places.proofs.Places.{marks_places}
use Rattle.schema_places.proofs.mark_places.Goals as goal

pub loop-parent-init : goal.loop-parent-init
loop-parent-init c = rw c.zero.ensures (sweep_none (length c.args.bad.now) (row_end c.requires.few))

pub loop-parent-preserved : goal.loop-parent-preserved
loop-parent-preserved c = sweep_more (omega arith) c.loop-parent.invariant c.pass_places.ensures

pub returns : goal.returns
returns c = marks_places (omega arith) c.loop-parent.invariant
