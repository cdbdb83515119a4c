-- The words before an index of those after the first are put.
use mathlib.Core.List.{◌∷◌}
use lib.ListN.{take, drop, length, get_or, length-take}
use native.Mathlib.Omega.{arith}
use Prim.Native.Nat.{◌-◌}
use Rattle.job.specs.Numbers.{words_text}
use Rattle.job_texts.proofs.Writing.{puts_more, puts_next, words_append, words_length}
use Rattle.job_texts.proofs.Writer.words.Goals as goal

pub byte-requires : goal.byte-requires
byte-requires c =
    let row = c.args.row.now in
    let rest = take (length row - 1) (drop 1 row) in
    let i = c.loop-w.w-index in
    let m = c.loop-w.invariant.wrote.moves in
    let l = length-take i rest in
    let h = words_length (get_or row 0 0 ∷ take i rest) in
    omega arith

pub word-requires-in-loop-w : goal.word-requires-in-loop-w
word-requires-in-loop-w c =
    let row = c.args.row.now in
    let rest = take (length row - 1) (drop 1 row) in
    let i = c.loop-w.w-index in
    let e = c.byte.ensures.wrote.moves in
    let m = c.loop-w.invariant.wrote.moves in
    let l = length-take i rest in
    let h = words_length (get_or row 0 0 ∷ take i rest) in
    omega arith

pub loop-w-preserved : goal.loop-w-preserved
loop-w-preserved c =
    let row = c.args.row.now in
    let rest = take (length row - 1) (drop 1 row) in
    let i = c.loop-w.w-index in
    puts_next (λ l. words_text (get_or row 0 0 ∷ l)) rest i c.loop-w-test.true
    (words_append (get_or row 0 0 ∷ take i rest) (get_or rest i 0) (omega arith))
    c.loop-w.invariant (puts_more c.byte.ensures c.word-in-loop-w.ensures)
