-- The bytes before an index are put.
use lib.ListN.{take}
use Rattle.job_texts.specs.Writing.{Puts}
use Rattle.job_texts.proofs.Writer.text.Given as goal

abbrev pub invariant-loop-b : goal.invariant-loop-b
invariant-loop-b l = Puts l.fn.self (take l.b-index l.text) l.self
