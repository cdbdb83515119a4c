-- A count is a number after its key that keeps the limit.
use mathlib.Core.Path.{sym}
use native.Mathlib.Omega.{arith}
use Rattle.std.specs.Prelude.{None, Some}
use Rattle.job_lines.proofs.Passing.{count_no_key, count_no_number, count_over, count_is}
use Rattle.job_lines.proofs.Keys.{stripped}
use Rattle.job_lines.proofs.count_of.Goals as goal

pub returns-in_err-strip_prefix : goal.returns-in_err-strip_prefix
returns-in_err-strip_prefix c =
    let args = c.args in
    rw c.from_residual.ensures (sym (count_no_key args.key.now args.limit args.line.now
    (stripped args.key.now args.line.now None c.in_err-strip_prefix.ensures.cases)))

pub returns-in_err-n : goal.returns-in_err-n
returns-in_err-n c =
    let args = c.args in
    let rest = c.in_ok-strip_prefix in
    rw c.from_residual-in_err-n.ensures (sym (count_no_number args.key.now args.limit args.line.now
    (stripped args.key.now args.line.now (Some rest.field-0) rest.ensures.cases) (sym c.in_err-n.ensures)))

pub returns-then-limit-n : goal.returns-then-limit-n
returns-then-limit-n c =
    let args = c.args in
    let rest = c.in_ok-strip_prefix in
    sym (count_over args.key.now args.limit args.line.now
    (stripped args.key.now args.line.now (Some rest.field-0) rest.ensures.cases)
    (sym c.in_ok-n.ensures) (omega arith))

pub returns : goal.returns
returns c =
    let args = c.args in
    let rest = c.in_ok-strip_prefix in
    sym (count_is args.key.now args.limit args.line.now
    (stripped args.key.now args.line.now (Some rest.field-0) rest.ensures.cases)
    (sym c.in_ok-n.ensures) (omega arith))
