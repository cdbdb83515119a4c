-- The invariant: so many rows are read.
use lib.ListN.{drop}
use Rattle.job.specs.Lines.{lines_of}
use Rattle.job_lines.proofs.Progress.{RowsRead}
use Rattle.job_lines.proofs.read_rows.Given as goal

abbrev pub invariant-loop-k : goal.invariant-loop-k
invariant-loop-k l =
    RowsRead l.key l.width l.count l.line (lines_of (drop l.at l.file)) l.file l.initial.out l.out l.start l.k l.used
