-- The invariant: so many strings are read.
use native.Mathlib.Omega.{arith}
use Rattle.tables.specs.Place.{between}
use Rattle.job_lines.proofs.Progress.{strings_missing, strings_stop, strings_more, strings_done}
use Rattle.job_lines.proofs.Passing.{stopped, string_keeps}
use Rattle.job_lines.proofs.read_strings.Goals as goal

pub returns-in_err-e : goal.returns-in_err-e
returns-in_err-e c =
    let s = stopped c.line_end.result c.from_residual.result c.in_err-e.ensures.value c.from_residual.ensures.1 in
    rw s.1 (strings_missing c.loop-k.invariant c.loop-k-test.true (rw s.0 at c.line_end.ensures))

pub returns-in_err-to : goal.returns-in_err-to
returns-in_err-to c =
    let s = stopped c.string_line.result c.from_residual-in_err-to.result
    c.in_err-to.ensures.value c.from_residual-in_err-to.ensures.1 in
    rw s.1 (strings_stop c.loop-k.invariant c.loop-k-test.true (rw c.in_ok-e.ensures.ok_part at c.line_end.ensures)
    (rw s.0 at c.string_line.ensures))

pub overflow_cast-to : goal.overflow_cast-to
overflow_cast-to c =
    let r = rw c.in_ok-to.ensures.ok_part at c.string_line.ensures in
    omega (arith, r.ends, string_keeps c.loop-k.used (between c.args.file.now c.loop-k.start c.in_ok-e.e) r.is)

pub loop-k-preserved : goal.loop-k-preserved
loop-k-preserved c =
    strings_more c.loop-k.invariant c.loop-k-test.true (rw c.in_ok-e.ensures.ok_part at c.line_end.ensures)
    (rw c.in_ok-to.ensures.ok_part at c.string_line.ensures) c.put.ensures

pub returns : goal.returns
returns c = strings_done c.loop-k.invariant (omega arith) (omega arith)
