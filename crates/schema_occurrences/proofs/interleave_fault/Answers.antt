-- An interleave is at fault by two refs that share a name, or by text on both sides. Each search leaves the table of
-- comparisons right.
use mathlib.Core.Path.{sym, ◌∙◌}
use Rattle.tables.proofs.Answers.{said_yes, said_no}
use Rattle.schema_occurrences.proofs.Clashes.{no_interleave_fault, element_fault, text_decides, no_text_fault}
use Rattle.schema_occurrences.proofs.interleave_fault.Goals as goal

pub returns-then-kind-ne-INTERLEAVE : goal.returns-then-kind-ne-INTERLEAVE
returns-then-kind-ne-INTERLEAVE c = (
  no_interleave_fault c.args.schema.now
      c.args.r (λ e. c.if-kind-ne-INTERLEAVE.true (c.kind-kind.ensures ∙ e)),
  c.requires.1,
)

pub returns-then-occurs : goal.returns-then-occurs
returns-then-occurs c = (
  element_fault c.args.schema.now
      c.args.r
      (sym c.kind-kind.ensures ∙ c.if-kind-ne-INTERLEAVE.false) c.child_a-a.ensures
      c.child_b-b.ensures (said_yes c.occurs.ensures.0 c.if-occurs.true),
  c.occurs.ensures.1,
)

pub occurs-requires-2 : goal.occurs-requires-2
occurs-requires-2 c = (c.requires.0, c.occurs.ensures.1)

pub occurs-requires-then-occurs-2 : goal.occurs-requires-then-occurs-2
occurs-requires-then-occurs-2 c = (
  c.requires.0,
  c.occurs-2.ensures.1,
)

pub returns-then-occurs-2 : goal.returns-then-occurs-2
returns-then-occurs-2 c = (
  text_decides c.args.schema.now c.args.r
      (sym c.kind-kind.ensures ∙ c.if-kind-ne-INTERLEAVE.false) c.child_a-a.ensures
      c.child_b-b.ensures (said_no c.occurs.ensures.0 c.if-occurs.false)
      (said_yes c.occurs-2.ensures.0 c.if-occurs-2.true)
      c.occurs-then-occurs-2.result c.occurs-then-occurs-2.ensures.0,
  c.occurs-then-occurs-2.ensures.1,
)

pub returns-else-occurs-2 : goal.returns-else-occurs-2
returns-else-occurs-2 c = (
  no_text_fault c.args.schema.now
      c.args.r (sym c.kind-kind.ensures
      ∙ c.if-kind-ne-INTERLEAVE.false) c.child_a-a.ensures c.child_b-b.ensures
      (said_no c.occurs.ensures.0 c.if-occurs.false)
      (said_no c.occurs-2.ensures.0 c.if-occurs-2.false),
  c.occurs-2.ensures.1,
)
