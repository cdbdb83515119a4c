-- A chain of the schema's verdict and two checks.
use Rattle.relaxng.proofs.Matched.{instance_schema, nodes_few, nodes_stop, nodes_on}
use Rattle.relaxng.proofs.instance_verdict.Goals as goal

pub returns-in_err-schema_verdict : goal.returns-in_err-schema_verdict
returns-in_err-schema_verdict c =
    instance_schema _ c.in_err-schema_verdict.was c.schema_verdict.ensures c.from_residual.ensures.1

pub returns-in_err-judge : goal.returns-in_err-judge
returns-in_err-judge c =
    nodes_stop _ c.in_ok-schema_verdict.was c.schema_verdict.ensures
    c.check_nodes.ensures c.judge.ensures c.in_err-judge.was c.from_residual-in_err-judge.ensures.1

pub check_width-requires : goal.check_width-requires
check_width-requires c =
    nodes_few _ _ c.check_nodes.result c.check_nodes.ensures c.judge.ensures c.in_ok-judge.was

pub returns : goal.returns
returns c =
    nodes_on _ c.check_width.result c.in_ok-schema_verdict.was c.schema_verdict.ensures
    c.check_nodes.ensures c.judge.ensures c.in_ok-judge.was c.check_width.ensures c.judge-2.ensures
