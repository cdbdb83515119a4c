-- Key, digits, line feed.
use native.Mathlib.Omega.{arith}
use Rattle.job.proofs.Decimals.{decimal_length}
use Rattle.job_texts.proofs.Writing.{puts_more}
use Rattle.job_texts.proofs.Writer.count.Goals as goal

pub byte-requires : goal.byte-requires
byte-requires c =
    let d = decimal_length c.args.n in
    let e = c.text.ensures.wrote.moves in
    let f = c.number.ensures.wrote.moves in
    omega arith

pub returns : goal.returns
returns c =
    let d = decimal_length c.args.n in
    let e = c.text.ensures.wrote.moves in
    let f = c.number.ensures.wrote.moves in
    let g = c.byte.ensures.wrote.moves in
    record { puts = puts_more (puts_more c.text.ensures c.number.ensures) c.byte.ensures; near = omega arith }
