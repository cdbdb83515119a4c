-- The invariant: so many rows are read.
use native.Mathlib.Omega.{arith}
use Rattle.job_lines.proofs.Passing.{stopped}
use Rattle.job_lines.proofs.Progress.{rows_missing, rows_stop, rows_more, rows_done}
use Rattle.job_lines.proofs.read_rows.Goals as goal

pub returns-in_err-e : goal.returns-in_err-e
returns-in_err-e c =
    let s = stopped c.line_end.result c.from_residual.result c.in_err-e.ensures.value c.from_residual.ensures.1 in
    rw s.1 (rows_missing c.loop-k.invariant c.loop-k-test.true (rw s.0 at c.line_end.ensures))

pub returns-in_err-to : goal.returns-in_err-to
returns-in_err-to c =
    let s = stopped c.row_line.result c.from_residual-in_err-to.result
    c.in_err-to.ensures.value c.from_residual-in_err-to.ensures.1 in
    rw s.1 (rows_stop c.loop-k.invariant c.loop-k-test.true (rw c.in_ok-e.ensures.ok_part at c.line_end.ensures)
    (rw s.0 at c.row_line.ensures))

pub loop-k-preserved : goal.loop-k-preserved
loop-k-preserved c =
    rows_more c.loop-k.invariant c.loop-k-test.true (rw c.in_ok-e.ensures.ok_part at c.line_end.ensures)
    (rw c.in_ok-to.ensures.ok_part at c.row_line.ensures) (omega arith)

pub returns : goal.returns
returns c = rows_done c.loop-k.invariant (omega arith) (omega arith)
