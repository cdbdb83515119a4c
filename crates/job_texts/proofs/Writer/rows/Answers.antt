-- The lines of the rows before an index are put.
use mathlib.Core.Path.{◌≡◌, sym}
use Prim.Native.Nat.{◌+◌, ◌-◌, ◌*◌}
use native.Mathlib.Omega.{arith}
use Rattle.job_texts.proofs.Lines.{no_rows, puts_row}
use Rattle.job_texts.proofs.Writing.{puts_none, puts_as}
use Rattle.job_texts.proofs.Writer.rows.Goals as goal

pub loop-i-init : goal.loop-i-init
loop-i-init c = (omega arith, puts_as (sym (no_rows _ _ _)) (puts_none _))

pub loop-i-preserved : goal.loop-i-preserved
loop-i-preserved c =
    let a = c.args in
    let i = c.loop-i.invariant in
    let x = i.0 in
    let n = c.row.ensures.near in
    let first = c.loop-i.i * a.width in
    let e : first + a.width - first ≡ a.width = omega arith in (
      omega arith,
      puts_row a.key.now a.width c.loop-i.i a.table.now i.1 (rw e at c.row.ensures.puts),
    )
