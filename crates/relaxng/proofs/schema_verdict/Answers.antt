-- A chain of two checks.
use Rattle.tables.proofs.Codes.{stops, on}
use Rattle.relaxng.proofs.schema_verdict.Goals as goal

pub returns-in_err-judge : goal.returns-in_err-judge
returns-in_err-judge c =
    stops _ c.check_strings.ensures c.judge.ensures c.in_err-judge.was c.from_residual.ensures.1

pub returns : goal.returns
returns c = on _ c.check_strings.ensures c.judge.ensures c.in_ok-judge.was c.check_schema.ensures
