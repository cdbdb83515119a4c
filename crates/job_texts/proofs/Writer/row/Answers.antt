-- Key, words, line feed.
use native.Mathlib.Omega.{arith}
use Rattle.job_texts.proofs.Writing.{puts_more, words_length}
use Rattle.job_texts.proofs.Writer.row.Goals as goal

pub byte-requires : goal.byte-requires
byte-requires c =
    let l = words_length c.args.row.now in
    let e = c.text.ensures.wrote.moves in
    let f = c.words.ensures.wrote.moves in
    omega arith

pub returns : goal.returns
returns c =
    let l = words_length c.args.row.now in
    let e = c.text.ensures.wrote.moves in
    let f = c.words.ensures.wrote.moves in
    let g = c.byte.ensures.wrote.moves in
    record { puts = puts_more (puts_more c.text.ensures c.words.ensures) c.byte.ensures; near = omega arith }
