-- The invariant: the words of the fields passed are stored, and the fields from the start of the next are to be read.
use mathlib.Core.Path.{sym}
use Prim.Native.Nat.{◌+◌, ◌-◌}
use native.Mathlib.Omega.{arith}
use Rattle.job_lines.proofs.Stored.{storing_more, storing_fails}
use Rattle.job_lines.proofs.Fields.{words_left, words_more}
use Rattle.job_lines.proofs.words.Goals as goal

pub loop-i-preserved : goal.loop-i-preserved
loop-i-preserved c =
    let i = c.loop-i.i in
    storing_more c.loop-i.invariant c.in_ok-w.w (words_more c.field_end-end.ensures (c.args.width - i)
    (c.args.width - (i + 1)) (omega arith) (sym c.in_ok-w.ensures)) c.put.ensures (omega arith)

pub returns-then-start-text : goal.returns-then-start-text
returns-then-start-text c =
    storing_fails c.loop-i.invariant (words_left c.args.text.now c.loop-i.start (c.args.width - c.loop-i.i)
    (omega arith) c.if-start-text.true)
