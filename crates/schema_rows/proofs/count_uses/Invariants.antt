-- The invariant: each word counts the uses by the rows passed, at most two for each.
use Rattle.schema_rows.specs.Counts.{UsesCounted}
use Rattle.schema_rows.proofs.count_uses.Given as goal

abbrev pub invariant-loop-p : goal.invariant-loop-p
invariant-loop-p l = UsesCounted l.schema l.counts l.p
