-- The rows before p are right.
use mathlib.Core.Path.{◌≡◌}
use native.Mathlib.Omega.{arith}
use Rattle.std.proofs.Common.{rules}
use Rattle.matching_tokens.specs.MarkTable.{mark}
use Rattle.matching_alone.proofs.Filling.{rows_none, rows_more}
use Rattle.matching_alone.proofs.fill_rows.Goals as goal

pub loop-p-init : goal.loop-p-init
loop-p-init c = rows_none

pub loop-p-preserved : goal.loop-p-preserved
loop-p-preserved c =
    let stored : c.from.result ≡ mark c.nothing_at-v.result = search rules in
    rows_more (omega (arith, c.requires.2)) (omega (arith, c.requires)) c.requires.5
    c.loop-p.invariant c.fill_row.ensures (rw stored c.nothing_at-v.ensures)
