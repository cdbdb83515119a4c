-- Key, code, comma, place, line feed.
use borrow.Author.Rules.{rules}
use native.Mathlib.Omega.{arith}
use Rattle.job.proofs.Decimals.{decimal_length}
use Rattle.job_texts.proofs.Lines.{puts_refusal}
use Rattle.job_texts.proofs.put_refusal.Goals as goal

pub byte-requires : goal.byte-requires
byte-requires c =
    let d = decimal_length c.args.code in
    let m0 = c.number.ensures.wrote.moves in
    let m1 = c.text.ensures.wrote.moves in
    omega arith

pub number-requires-2 : goal.number-requires-2
number-requires-2 c =
    let d = decimal_length c.args.code in
    let m0 = c.byte.ensures.wrote.moves in
    let m1 = c.number.ensures.wrote.moves in
    let m2 = c.text.ensures.wrote.moves in
    omega arith

pub byte-requires-2 : goal.byte-requires-2
byte-requires-2 c =
    let d = decimal_length c.args.code in
    let e = decimal_length c.args.place in
    let m0 = c.number-2.ensures.wrote.moves in
    let m1 = c.byte.ensures.wrote.moves in
    let m2 = c.number.ensures.wrote.moves in
    let m3 = c.text.ensures.wrote.moves in
    omega arith

pub returns-clause-wrote : goal.returns-clause-wrote
returns-clause-wrote c =
    let p = puts_refusal c.args.code c.args.place c.text.ensures c.number.ensures c.byte.ensures
    c.number-2.ensures c.byte-2.ensures in
    record { holds = search (rules, p.wrote.holds, p.same); moves = p.wrote.moves }

pub returns-clause-near : goal.returns-clause-near
returns-clause-near c =
    let d = decimal_length c.args.code in
    let e = decimal_length c.args.place in
    let m0 = c.byte-2.ensures.wrote.moves in
    let m1 = c.number-2.ensures.wrote.moves in
    let m2 = c.byte.ensures.wrote.moves in
    let m3 = c.number.ensures.wrote.moves in
    let m4 = c.text.ensures.wrote.moves in
    omega arith
