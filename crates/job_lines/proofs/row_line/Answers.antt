-- The words of a row line are those of the fields after its key.
use Rattle.std.specs.Prelude.{None, Some}
use Rattle.job_lines.proofs.Passing.{row_no_key, row_is}
use Rattle.job_lines.proofs.Keys.{stripped}
use Rattle.job_lines.proofs.row_line.Goals as goal

pub returns-in_err-strip_prefix : goal.returns-in_err-strip_prefix
returns-in_err-strip_prefix c =
    let args = c.args in
    rw c.from_residual.ensures (row_no_key args.key.now args.width args.line.now
    (stripped args.key.now args.line.now None c.in_err-strip_prefix.ensures.cases))

pub returns : goal.returns
returns c =
    let args = c.args in
    let rest = c.in_ok-strip_prefix in
    rw (row_is args.key.now args.width args.line.now
    (stripped args.key.now args.line.now (Some rest.field-0) rest.ensures.cases)) c.words.ensures
