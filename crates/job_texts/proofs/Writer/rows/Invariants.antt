-- The lines of the rows before an index are put.
use Prim.Native.Nat.{◌+◌, ◌*◌, ◌≤◌}
use Rattle.job.specs.Lines.{text_of_lines}
use Rattle.job.specs.Written.{row_lines}
use Rattle.job_texts.specs.Writing.{Puts}
use Rattle.job_texts.proofs.Writer.rows.Given as goal

abbrev pub invariant-loop-i : goal.invariant-loop-i
invariant-loop-i l = (l.self.at ≤ l.fn.self.at + 100 * l.i)
    × Puts l.fn.self (text_of_lines (row_lines l.key l.width l.i l.table)) l.self
