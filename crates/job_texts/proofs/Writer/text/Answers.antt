-- The bytes before an index are put.
use mathlib.Core.Path.{refl}
use Rattle.job_texts.proofs.Writing.{puts_next}
use Rattle.job_texts.proofs.Writer.text.Goals as goal

pub loop-b-preserved : goal.loop-b-preserved
loop-b-preserved c =
    puts_next (λ l. l) c.args.text.now c.loop-b.b-index c.loop-b-test.true refl c.loop-b.invariant c.byte.ensures
