-- The measure of a class is above that of its fields, and that of a field above those of the classes at smaller rows.
-- What a class of each kind mentions are the laws of Mentions.
use native.Mathlib.Omega.{arith}
use Rattle.schema_classes.proofs.Holds.{Read}
use Rattle.schema_classes.proofs.Lowering.{lowered_none, lowered_same, lowered_both}
use Rattle.schema_classes.proofs.Mentions.{of_any, any_of, of_ns, of_name, name_of, of_choice, of_no_class}
use Rattle.schema_classes.proofs.+mention_smaller_mention.Goals as goal

pub mention-smaller_mention-requires : goal.mention-smaller_mention-requires
mention-smaller_mention-requires t c = (omega arith, tt)

pub mention-smaller_mention-requires-in-17 : goal.mention-smaller_mention-requires-in-17
mention-smaller_mention-requires-in-17 t c = (omega arith, tt)

pub mention-smaller_mention-left-requires : goal.mention-smaller_mention-left-requires
mention-smaller_mention-left-requires t c = (omega arith, tt)

pub mention-smaller_mention-requires-in-19 : goal.mention-smaller_mention-requires-in-19
mention-smaller_mention-requires-in-19 t c = (omega arith, tt)

pub mention-returns-in-16 : goal.mention-returns-in-16
mention-returns-in-16 t c =
    let r : Read c.args.schema.now c.args.row c.kind.result c.field_a-a.result c.field_b-b.result = record {
      kind = c.kind.ensures;
      first = c.field_a-a.ensures;
      second = c.field_b-b.ensures;
    } in
    let e = c.in-16.is in
    lowered_same (of_any _ _ r e) (any_of _ _ r e) c.smaller_mention.ensures

pub mention-returns-in-17 : goal.mention-returns-in-17
mention-returns-in-17 t c =
    lowered_both (of_ns _ _ ((record {
      kind = c.kind.ensures;
      first = c.field_a-a.ensures;
      second = c.field_b-b.ensures;
    })) c.in-17.is)
    c.namespace_mention-own.ensures c.smaller_mention-in-17.ensures

pub mention-returns-in-18 : goal.mention-returns-in-18
mention-returns-in-18 t c =
    let r : Read c.args.schema.now c.args.row c.kind.result c.field_a-a.result c.field_b-b.result = record {
      kind = c.kind.ensures;
      first = c.field_a-a.ensures;
      second = c.field_b-b.ensures;
    } in
    let e = c.in-18.is in
    lowered_same (of_name _ _ r e) (name_of _ _ r e) c.name_mention.ensures

pub mention-returns-in-19 : goal.mention-returns-in-19
mention-returns-in-19 t c =
    lowered_both (of_choice _ _ ((record {
      kind = c.kind.ensures;
      first = c.field_a-a.ensures;
      second = c.field_b-b.ensures;
    })) c.in-19.is)
    c.smaller_mention-left.ensures c.smaller_mention-in-19.ensures

pub mention-returns-in_default : goal.mention-returns-in_default
mention-returns-in_default t c =
    let rest = c.in_default.in_default-own.rest in
    lowered_none (of_no_class _ _ ((record {
      kind = c.kind.ensures;
      first = c.field_a-a.ensures;
      second = c.field_b-b.ensures;
    })) rest.0.0.0.1 rest.0.0.1 rest.0.1 rest.1)

pub smaller_mention-mention-requires : goal.smaller_mention-mention-requires
smaller_mention-mention-requires t c = (omega arith, tt)

pub smaller_mention-returns-then-row-parent : goal.smaller_mention-returns-then-row-parent
smaller_mention-returns-then-row-parent t c =
    lowered_same (λ v m. (c.if-row-parent.true, m)) (λ v m. m.1) c.mention.ensures

pub smaller_mention-returns-else-row-parent : goal.smaller_mention-returns-else-row-parent
smaller_mention-returns-else-row-parent t c = lowered_none (λ v m. omega (arith, m.0))
