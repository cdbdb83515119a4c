-- A refusal of the schema stands; a schema that passes leaves code 11 and what the class says.
use mathlib.Core.Path.{refl, sym, ◌∙◌}
use native.Mathlib.Omega.{arith}
use Rattle.relaxng.proofs.Refused.{schema_passed, refused_member, no_class, says}
use Rattle.relaxng.proofs.name_in_class.Goals as goal

pub returns-in_err-schema_verdict : goal.returns-in_err-schema_verdict
returns-in_err-schema_verdict c =
    refused_member c.schema_verdict.ensures c.in_err-schema_verdict.was c.from_residual.ensures.1

pub returns-then-not-is_class_row : goal.returns-then-not-is_class_row
returns-then-not-is_class_row c =
    let a = c.args in
    rw c.at.ensures (record {
      refusal = schema_passed c.in_ok-schema_verdict.was c.schema_verdict.ensures
          (no_class a.schema.now a.class (sym c.is_class_row.ensures ∙ c.if-not-is_class_row.true));
      answer = refl;
      row = λ q. absurd (omega arith);
      without_row = λ q. refl;
    })

pub returns : goal.returns
returns c =
    says c.schema_verdict.ensures c.in_ok-schema_verdict.was
    (sym c.is_class_row.ensures ∙ c.if-not-is_class_row.false) c.membership.result c.membership.ensures
