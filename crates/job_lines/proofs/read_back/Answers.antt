-- Schema, instance and the last line, each after the one before.
use lib.ListN.{drop}
use Rattle.std.proofs.lemmas.Result.{err_from_is_err_and}
use Rattle.job.specs.Lines.{lines_of}
use Rattle.job_lines.proofs.Whole.{back_no_rows, back_no_nodes, back_no_end, back_done}
use Rattle.job_lines.proofs.read_back.Goals as goal

pub returns-in_err-rows : goal.returns-in_err-rows
returns-in_err-rows c =
    let args = c.args in
    let p = err_from_is_err_and c.from_residual.result c.from_residual.ensures.1 in
    rw (p.1, p.2) (back_no_rows args.file.now args.line (lines_of (drop args.at args.file.now)) c.in_err-rows.ensures)

pub returns-in_err-nodes : goal.returns-in_err-nodes
returns-in_err-nodes c =
    let args = c.args in
    let p = err_from_is_err_and c.from_residual-in_err-nodes.result c.from_residual-in_err-nodes.ensures.1 in
    rw (p.1, p.2) (back_no_nodes args.file.now args.line (lines_of (drop args.at args.file.now))
    c.in_ok-rows.ensures c.in_err-nodes.ensures)

pub returns-in_err-end_line : goal.returns-in_err-end_line
returns-in_err-end_line c =
    let args = c.args in
    let p = err_from_is_err_and c.from_residual-in_err-end_line.result c.from_residual-in_err-end_line.ensures.1 in
    rw (p.1, p.2) (back_no_end args.file.now args.line (lines_of (drop args.at args.file.now))
    c.in_ok-rows.ensures c.in_ok-nodes.ensures c.in_err-end_line.ensures)

pub returns : goal.returns
returns c =
    let args = c.args in
    back_done args.file.now args.line (lines_of (drop args.at args.file.now))
    c.in_ok-rows.ensures c.in_ok-nodes.ensures c.in_ok-end_line.ensures
