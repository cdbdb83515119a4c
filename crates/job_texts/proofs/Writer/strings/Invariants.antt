-- The lines of the strings before k are put.
use Prim.Native.Nat.{◌+◌, ◌*◌, ◌≤◌}
use Rattle.job.specs.Lines.{text_of_lines}
use Rattle.job.specs.Written.{string_lines}
use Rattle.job_texts.specs.Writing.{Puts}
use Rattle.tables.specs.Tables.{string_table}
use Rattle.job_texts.proofs.Writer.strings.Given as goal

abbrev pub invariant-loop-k : goal.invariant-loop-k
invariant-loop-k l = (l.self.at ≤ l.fn.self.at + 40000 * l.k)
    × Puts l.fn.self (text_of_lines (string_lines (string_table l.bytes l.ends) 0 l.k)) l.self
