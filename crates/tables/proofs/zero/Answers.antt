-- The entries passed are 0.
use native.Mathlib.Omega.{arith}
use Rattle.tables.proofs.Padded.{all_entries}
use Rattle.tables.proofs.zero.Goals as goal

pub returns : goal.returns
returns g c =
    all_entries g.T.Entry.zero c.loop-entry.table c.loop-entry.auto.table
    (λ k h. c.loop-entry.invariant k (omega (arith, h, c.loop-entry-test.false, c.loop-entry.auto.table)))
