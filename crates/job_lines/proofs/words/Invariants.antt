-- The invariant: the words of the fields passed are stored, and the fields from the start of the next are to be read.
use Prim.Native.Nat.{◌+◌, ◌-◌}
use Rattle.job.specs.Lines.{fields_of}
use Rattle.job.specs.Reading.{words_of}
use Rattle.job_lines.specs.Parts.{fields_from}
use Rattle.job_lines.proofs.Stored.{Storing}
use Rattle.job_lines.proofs.words.Given as goal

abbrev pub invariant-loop-i : goal.invariant-loop-i
invariant-loop-i l =
    Storing (words_of l.width (fields_of l.text)) l.initial.out l.from l.out (l.from + l.i)
    (words_of (l.width - l.i) (fields_from l.text l.start))
