-- Where nothing is refused the tables pass, and valid or not is told of them.
use Rattle.relaxng.proofs.Matched.{tables_pass, refused_verdict, whole_verdict}
use Rattle.relaxng.proofs.verdict.Goals as goal

pub returns-in_err-work_verdict : goal.returns-in_err-work_verdict
returns-in_err-work_verdict c =
    refused_verdict _ c.work_verdict.ensures.cleared c.work_verdict.ensures.work_refusal
    c.in_err-work_verdict.was c.from_residual.ensures.1

pub is_valid-requires : goal.is_valid-requires
is_valid-requires c = tables_pass c.in_ok-work_verdict.was c.work_verdict.ensures.work_refusal

pub returns : goal.returns
returns c =
    whole_verdict _ c.work_verdict.ensures.cleared c.work_verdict.ensures.work_refusal
    c.in_ok-work_verdict.was c.is_valid.result c.is_valid.ensures
