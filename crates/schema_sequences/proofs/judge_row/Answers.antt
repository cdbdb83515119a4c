-- A clash is a fault outside lists; without a clash there is none.
use mathlib.Core.Path.{subst⁻¹}
use Rattle.tables.specs.Answers.{Decides}
use Rattle.tables.proofs.Answers.{said_yes, said_no}
use Rattle.schema_sequences.specs.Content.{SequenceFault}
use Rattle.schema_sequences.proofs.TypeTables.{clash_judged}
use Rattle.schema_sequences.proofs.judge_row.Goals as goal

pub returns-then-type_row : goal.returns-then-type_row
returns-then-type_row c =
    let typed = c.type_row.ensures in
    (clash_judged c.requires.1 (said_yes typed.0 c.if-type_row.true) c.at.ensures, typed.1)

pub returns-else-type_row : goal.returns-else-type_row
returns-else-type_row c =
    let typed = c.type_row.ensures in
    let args = c.args in (
      subst⁻¹ (Decides (SequenceFault args.schema.now args.r)) c.if-type_row.false
          (λ fault. said_no typed.0 c.if-type_row.false fault.clash),
      typed.1,
    )
