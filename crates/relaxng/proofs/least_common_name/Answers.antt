-- A refusal of the schema stands; a schema that passes leaves code 11 and the search, which has few enough rows.
use mathlib.Core.Path.{sym, ◌∙◌}
use native.Mathlib.Omega.{arith}
use Rattle.schema.proofs.RowLaws.{few_rows, right_size}
use Rattle.relaxng.proofs.Refused.{schema_passed, passed_rows, refused_name, no_first, no_second, both_classes}
use Rattle.relaxng.proofs.least_common_name.Goals as goal

pub returns-in_err-schema_verdict : goal.returns-in_err-schema_verdict
returns-in_err-schema_verdict c =
    refused_name c.schema_verdict.ensures c.in_err-schema_verdict.was c.from_residual.ensures.1

pub returns-then-not-is_class_row : goal.returns-then-not-is_class_row
returns-then-not-is_class_row c =
    let a = c.args in
    rw c.at.ensures (record {
      refusal = schema_passed c.in_ok-schema_verdict.was c.schema_verdict.ensures
          (no_first a.schema.now a.first a.second (sym c.is_class_row.ensures ∙ c.if-not-is_class_row.true));
      answer = λ q. absurd (omega arith);
    })

pub returns-then-not-is_class_row-2 : goal.returns-then-not-is_class_row-2
returns-then-not-is_class_row-2 c =
    let a = c.args in
    rw c.at-then-not-is_class_row-2.ensures (record {
      refusal = schema_passed c.in_ok-schema_verdict.was c.schema_verdict.ensures
          (no_second a.schema.now a.first a.second (sym c.is_class_row.ensures ∙ c.if-not-is_class_row.false)
          (sym c.is_class_row-2.ensures ∙ c.if-not-is_class_row-2.true));
      answer = λ q. absurd (omega arith);
    })

pub least_common-requires : goal.least_common-requires
least_common-requires c = few_rows (right_size (passed_rows c.in_ok-schema_verdict.was c.schema_verdict.ensures))

pub returns : goal.returns
returns c =
    let a = c.args in
    record {
      refusal = schema_passed c.in_ok-schema_verdict.was c.schema_verdict.ensures
          (both_classes a.schema.now a.first a.second
          (sym c.is_class_row.ensures ∙ c.if-not-is_class_row.false)
          (sym c.is_class_row-2.ensures ∙ c.if-not-is_class_row-2.false));
      answer = λ q. c.least_common.ensures;
    }
