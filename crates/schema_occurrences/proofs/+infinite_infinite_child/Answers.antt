-- The row number falls at each call. A class is infinite itself or by a child.
use native.Mathlib.Omega.{arith}
use borrow.Author.Tests.{le-ltb}
use Rattle.schema_occurrences.proofs.Descent.{beside, first_child, second_child}
use Rattle.schema_occurrences.proofs.Infinity.{any_name_infinite, ns_name_infinite, by_children}
use Rattle.schema_occurrences.specs.Attributes.{Infinite}
use Rattle.schema_occurrences.proofs.+infinite_infinite_child.Goals as goal

pub infinite-returns-then-kind-eq-ANY_NAME : goal.infinite-returns-then-kind-eq-ANY_NAME
infinite-returns-then-kind-eq-ANY_NAME t c =
    any_name_infinite c.args.schema.now
    c.args.class c.kind-kind.ensures c.if-kind-eq-ANY_NAME.true

pub infinite-returns-then-kind-eq-NS_NAME : goal.infinite-returns-then-kind-eq-NS_NAME
infinite-returns-then-kind-eq-NS_NAME t c =
    ns_name_infinite c.args.schema.now
    c.args.class c.kind-kind.ensures c.if-kind-eq-NS_NAME.true

pub infinite-returns-then-infinite_child : goal.infinite-returns-then-infinite_child
infinite-returns-then-infinite_child t c =
    first_child (omega arith) c.child_a.ensures
    (by_children c.args.schema.now c.args.class
    c.kind-kind.ensures c.if-kind-eq-ANY_NAME.false c.if-kind-eq-NS_NAME.false)
    c.infinite_child.ensures c.if-infinite_child.true

pub infinite-returns : goal.infinite-returns
infinite-returns t c =
    second_child (omega arith) c.child_a.ensures
    (by_children c.args.schema.now
    c.args.class c.kind-kind.ensures c.if-kind-eq-ANY_NAME.false
    c.if-kind-eq-NS_NAME.false) c.infinite_child.ensures c.if-infinite_child.false
    c.child_b.ensures c.infinite_child-2.result c.infinite_child-2.ensures

pub infinite_child-returns-then-child-parent : goal.infinite_child-returns-then-child-parent
infinite_child-returns-then-child-parent t c =
    beside (Infinite c.args.schema.now c.args.child)
    c.infinite.result c.if-child-parent.true c.infinite.ensures

pub infinite_child-returns-else-child-parent : goal.infinite_child-returns-else-child-parent
infinite_child-returns-else-child-parent t c =
    rw (le-ltb c.args.child c.args.parent c.if-child-parent.false) (λ f. absurd (omega (arith, f.0)))
