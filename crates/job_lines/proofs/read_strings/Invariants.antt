-- The invariant: so many strings are read.
use lib.ListN.{drop}
use Rattle.job.specs.Lines.{lines_of}
use Rattle.job_lines.proofs.Progress.{StringsRead}
use Rattle.job_lines.proofs.read_strings.Given as goal

abbrev pub invariant-loop-k : goal.invariant-loop-k
invariant-loop-k l =
    StringsRead l.count l.line
    (lines_of (drop l.at l.file)) l.file l.initial.bytes l.initial.ends l.bytes l.ends l.start l.k l.used
