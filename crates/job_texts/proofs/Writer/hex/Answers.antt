-- The bytes before an index are put, two digits each.
use mathlib.Core.List.{[], ◌∷◌}
use mathlib.Core.Path.{ap}
use lib.ListN.{take, get_or}
use lib.Seq.{length-take-le}
use native.Mathlib.Omega.{arith}
use Rattle.job.specs.Numbers.{hex_text}
use Rattle.job_texts.proofs.Writing.{puts_more, puts_as, puts_next, hex_append, hex_length}
use Rattle.job_texts.proofs.Writer.hex.Goals as goal

pub byte-requires : goal.byte-requires
byte-requires c =
    let m = c.loop-b.invariant.wrote.moves in
    let l = length-take-le c.loop-b.b-index c.args.text.now (omega arith) in
    let h = hex_length (take c.loop-b.b-index c.args.text.now) in
    omega arith

pub byte-requires-in-loop-b : goal.byte-requires-in-loop-b
byte-requires-in-loop-b c =
    let e = c.byte.ensures.wrote.moves in
    let m = c.loop-b.invariant.wrote.moves in
    let l = length-take-le c.loop-b.b-index c.args.text.now (omega arith) in
    let h = hex_length (take c.loop-b.b-index c.args.text.now) in
    omega arith

pub loop-b-preserved : goal.loop-b-preserved
loop-b-preserved c =
    let text = c.args.text.now in
    let i = c.loop-b.b-index in
    puts_next hex_text text i c.loop-b-test.true (hex_append (take i text) (get_or text i 0)) c.loop-b.invariant
    (puts_more (puts_as (ap (λ d. d ∷ []) c.hex_digit.ensures) c.byte.ensures)
    (puts_as (ap (λ d. d ∷ []) c.hex_digit-in-loop-b.ensures) c.byte-in-loop-b.ensures))
