-- The front and the back of a file make its lines.
use Rattle.std.proofs.lemmas.Result.{err_from_is_err_and}
use Rattle.job_lines.proofs.Whole.{no_front, no_back, lines_done}
use Rattle.job_lines.proofs.read_lines.Goals as goal

pub returns-in_err-front : goal.returns-in_err-front
returns-in_err-front c =
    let p = err_from_is_err_and c.from_residual.result c.from_residual.ensures.1 in
    rw (p.1, p.2) (no_front c.args.file.now c.if-file-gt-MAX_FILE.false c.in_err-front.ensures)

pub returns-in_err-back : goal.returns-in_err-back
returns-in_err-back c =
    let p = err_from_is_err_and c.from_residual-in_err-back.result c.from_residual-in_err-back.ensures.1 in
    rw (p.1, p.2) (no_back c.args.file.now c.if-file-gt-MAX_FILE.false c.in_ok-front.ensures c.in_err-back.ensures)

pub returns : goal.returns
returns c = lines_done c.args.file.now c.if-file-gt-MAX_FILE.false c.in_ok-front.ensures c.in_ok-back.ensures
