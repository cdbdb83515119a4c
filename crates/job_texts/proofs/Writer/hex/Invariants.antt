-- The bytes before an index are put, two digits each.
use lib.ListN.{take}
use Rattle.job.specs.Numbers.{hex_text}
use Rattle.job_texts.specs.Writing.{Puts}
use Rattle.job_texts.proofs.Writer.hex.Given as goal

abbrev pub invariant-loop-b : goal.invariant-loop-b
invariant-loop-b l = Puts l.fn.self (hex_text (take l.b-index l.text)) l.self
