-- The entries passed are those of the run.
use native.Mathlib.Omega.{arith}
use Rattle.tables.proofs.Padded.{run_entries}
use Rattle.tables.proofs.lay.Goals as goal

pub returns : goal.returns
returns g c =
    run_entries g.T.Entry.zero c.args.run.now c.loop-i.out c.loop-i.auto.out
    (λ k h. c.loop-i.invariant k (omega (arith, h, c.loop-i-test.false, c.loop-i.auto.out)))
