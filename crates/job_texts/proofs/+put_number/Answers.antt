-- The digits of a tenth, then the last digit.
use mathlib.Core.Path.{sym}
use native.Mathlib.Omega.{arith}
use Prim.Native.Nat.{◌/◌}
use Rattle.job.proofs.Decimals.{decimal_short, decimal_long, decimal_length}
use Rattle.job_texts.proofs.Writing.{wrote_byte, wrote_more, wrote_as}
use Rattle.job_texts.proofs.+put_number.Goals as goal

pub returns-then-n-lt10 : goal.returns-then-n-lt10
returns-then-n-lt10 t c = wrote_as (sym (decimal_short c.args.n (omega arith))) (wrote_byte c.put.ensures)

pub overflow_add-result-2 : goal.overflow_add-result-2
overflow_add-result-2 t c =
    let m = c.put_number-to.ensures.moves in
    let d = decimal_length (c.args.n / 10) in
    omega arith

pub returns : goal.returns
returns t c =
    wrote_as (sym (decimal_long c.args.n (omega arith) (omega arith)))
    (wrote_more c.put_number-to.ensures (wrote_byte c.put-2.ensures))
