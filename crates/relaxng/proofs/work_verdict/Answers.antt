-- Codes 1 to 10 stand; where they find nothing the tables are few enough to ask for the room.
use Rattle.schema.proofs.RowLaws.{few_rows, right_size}
use Rattle.instance.proofs.Size.{few_nodes}
use Rattle.instance.specs.NodeRule.{bad_size}
use Rattle.relaxng.proofs.Matched.{tables_pass, work_refused, work_judged}
use Rattle.relaxng.proofs.work_verdict.Goals as goal

pub returns-in_err-instance_verdict : goal.returns-in_err-instance_verdict
returns-in_err-instance_verdict c = record {
  work_refusal =
      work_refused _ _ c.in_err-instance_verdict.was c.instance_verdict.ensures c.from_residual.ensures.1;
  cleared = c.zero.ensures;
}

pub check_work-requires : goal.check_work-requires
check_work-requires c =
    let pass = tables_pass c.in_ok-instance_verdict.was c.instance_verdict.ensures in
    (few_rows (right_size pass.schema.rows), few_nodes (λ k i. pass.nodes k (bad_size i)))

pub returns : goal.returns
returns c = record {
  work_refusal = work_judged _ c.check_work.result c.in_ok-instance_verdict.was c.instance_verdict.ensures
      c.check_work.ensures c.judge.ensures;
  cleared = c.zero.ensures;
}
