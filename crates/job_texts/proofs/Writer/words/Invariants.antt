-- The words before an index of those after the first are put.
use mathlib.Core.List.{◌∷◌}
use lib.ListN.{take, get_or}
use Rattle.job.specs.Numbers.{words_text}
use Rattle.job_texts.specs.Writing.{Puts}
use Rattle.job_texts.proofs.Writer.words.Given as goal

abbrev pub invariant-loop-w : goal.invariant-loop-w
invariant-loop-w l = Puts l.fn.self (words_text (get_or l.row 0 0 ∷ take l.w-index l.rest)) l.self
