-- The measure of a class is above that of its fields, and that of a field above those of the classes at smaller rows.
-- What a class of each kind says are the laws of Judging.
use mathlib.Core.Path.{sym, ◌∙◌}
use native.Mathlib.Omega.{arith}
use Rattle.schema_classes.proofs.Judging.{any_judged, ns_judged, ns_other, choice_judged, no_class_says}
use Rattle.schema_classes.proofs.Judging.{smaller_judged, not_smaller}
use Rattle.schema_classes.proofs.+class_holds_smaller_holds.Goals as goal

pub class_holds-smaller_holds-requires : goal.class_holds-smaller_holds-requires
class_holds-smaller_holds-requires t c = (omega arith, c.requires.0)

pub class_holds-smaller_holds-requires-then-namespace-a : goal.class_holds-smaller_holds-requires-then-namespace-a
class_holds-smaller_holds-requires-then-namespace-a t c = (omega arith, c.requires.0)

pub class_holds-smaller_holds-requires-in-19 : goal.class_holds-smaller_holds-requires-in-19
class_holds-smaller_holds-requires-in-19 t c = (omega arith, c.requires.0)

pub class_holds-smaller_holds-requires-in-19-2 : goal.class_holds-smaller_holds-requires-in-19-2
class_holds-smaller_holds-requires-in-19-2 t c = (omega arith, c.requires.0)

pub class_holds-returns-in-16 : goal.class_holds-returns-in-16
class_holds-returns-in-16 t c =
    rw c.unless_excepted.ensures
    (any_judged _ _ _ c.requires.0 ((record {
      kind = c.kind.ensures;
      first = c.field_a-a.ensures;
      second = c.field_b-b.ensures;
    }))
    (omega arith) c.in-16.is c.smaller_holds.ensures)

pub class_holds-returns-then-namespace-a : goal.class_holds-returns-then-namespace-a
class_holds-returns-then-namespace-a t c =
    rw c.unless_excepted-then-namespace-a.ensures
    (ns_judged _ _ _ c.requires.0 ((record {
      kind = c.kind.ensures;
      first = c.field_a-a.ensures;
      second = c.field_b-b.ensures;
    })) (omega arith)
    c.in-17.is c.if-namespace-a.true c.smaller_holds-then-namespace-a.ensures)

pub class_holds-returns-else-namespace-a : goal.class_holds-returns-else-namespace-a
class_holds-returns-else-namespace-a t c =
    ns_other _ _ _ c.requires.0 ((record {
      kind = c.kind.ensures;
      first = c.field_a-a.ensures;
      second = c.field_b-b.ensures;
    }))
    (omega arith) c.in-17.is c.if-namespace-a.false

pub class_holds-returns-in-19 : goal.class_holds-returns-in-19
class_holds-returns-in-19 t c =
    rw c.choice_of.ensures
    (choice_judged _ _ _ c.requires.0 ((record {
      kind = c.kind.ensures;
      first = c.field_a-a.ensures;
      second = c.field_b-b.ensures;
    })) (omega arith)
    c.in-19.is c.smaller_holds-in-19.ensures
    c.smaller_holds-in-19-2.ensures)

pub class_holds-returns-in_default : goal.class_holds-returns-in_default
class_holds-returns-in_default t c =
    let pre = c.requires in
    let rest = c.in_default.in_default-own.rest in
    no_class_says _ _ _ pre.0 ((record {
      kind = c.kind.ensures;
      first = c.field_a-a.ensures;
      second = c.field_b-b.ensures;
    })) rest.0.0.1 rest.0.1
    (λ e. pre.1 (sym c.kind.ensures ∙ e)) rest.1

pub smaller_holds-returns-then-row-parent : goal.smaller_holds-returns-then-row-parent
smaller_holds-returns-then-row-parent t c = not_smaller _ _ _ c.if-row-parent.true

pub smaller_holds-name_holds-requires : goal.smaller_holds-name_holds-requires
smaller_holds-name_holds-requires t c = (c.requires, sym c.kind.ensures ∙ c.if-kind-eq-NAME.true)

pub smaller_holds-returns-then-kind-eq-NAME : goal.smaller_holds-returns-then-kind-eq-NAME
smaller_holds-returns-then-kind-eq-NAME t c = smaller_judged _ _ _ (omega arith) c.name_holds.ensures

pub smaller_holds-class_holds-requires : goal.smaller_holds-class_holds-requires
smaller_holds-class_holds-requires t c = (omega arith, (c.requires, λ e. c.if-kind-eq-NAME.false (c.kind.ensures ∙ e)))

pub smaller_holds-returns-in-Yes : goal.smaller_holds-returns-in-Yes
smaller_holds-returns-in-Yes t c =
    smaller_judged _ _ _ (omega arith)
    (rw c.in-Yes.is at c.class_holds.ensures)

pub smaller_holds-returns-in-No : goal.smaller_holds-returns-in-No
smaller_holds-returns-in-No t c =
    smaller_judged _ _ _ (omega arith)
    (rw c.in-No.is at c.class_holds.ensures)
