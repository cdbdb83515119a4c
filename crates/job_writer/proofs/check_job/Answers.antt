-- Each check stops the chain or lets it go on.
use Rattle.tables.proofs.Codes.{stops, on, last_code}
use Rattle.job_writer.proofs.check_job.Goals as goal

pub returns-in_err-judge : goal.returns-in_err-judge
returns-in_err-judge c =
    stops c.check_strings.result c.check_strings.ensures c.judge.ensures c.in_err-judge.was c.from_residual.ensures.1

pub returns-in_err-judge-2 : goal.returns-in_err-judge-2
returns-in_err-judge-2 c =
    on c.check_strings.result c.check_strings.ensures c.judge.ensures c.in_ok-judge.was
    (stops c.check_table.result c.check_table.ensures c.judge-2.ensures c.in_err-judge-2.was
    c.from_residual-in_err-judge-2.ensures.1)

pub returns : goal.returns
returns c =
    on c.check_strings.result c.check_strings.ensures c.judge.ensures c.in_ok-judge.was
    (on c.check_table.result c.check_table.ensures c.judge-2.ensures c.in_ok-judge-2.was
    (last_code c.check_table-2.result c.check_table-2.ensures c.judge-3.ensures))
