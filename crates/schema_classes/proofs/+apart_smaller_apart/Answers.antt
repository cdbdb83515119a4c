-- The measure of a class is above that of its members, and that of a member above those of the classes at smaller rows.
use native.Mathlib.Omega.{arith}
use borrow.Author.Tests.{le-leb}
use Rattle.schema_classes.proofs.LeastNames.{name_apart, choice_apart, member_apart}
use Rattle.schema_classes.proofs.+apart_smaller_apart.Goals as goal

pub apart-smaller_apart-requires : goal.apart-smaller_apart-requires
apart-smaller_apart-requires t c = (omega arith, tt)

pub apart-smaller_apart-requires-then-smaller_apart : goal.apart-smaller_apart-requires-then-smaller_apart
apart-smaller_apart-requires-then-smaller_apart t c = (omega arith, tt)

pub apart-returns-in-18 : goal.apart-returns-in-18
apart-returns-in-18 t c =
    name_apart _ _ _ ((record {
      kind = c.kind.ensures;
      first = c.field_a-a.ensures;
      second = c.field_b-b.ensures;
    })) c.in-18.is c.in_class.result c.in_class.ensures

pub apart-returns-then-smaller_apart : goal.apart-returns-then-smaller_apart
apart-returns-then-smaller_apart t c =
    choice_apart _ _ _ ((record {
      kind = c.kind.ensures;
      first = c.field_a-a.ensures;
      second = c.field_b-b.ensures;
    })) c.in-19.is
    (rw c.if-smaller_apart.true at c.smaller_apart.ensures)
    c.smaller_apart-then-smaller_apart.result c.smaller_apart-then-smaller_apart.ensures

pub smaller_apart-apart-requires : goal.smaller_apart-apart-requires
smaller_apart-apart-requires t c = (omega arith, tt)

pub smaller_apart-returns-then-row-parent : goal.smaller_apart-returns-then-row-parent
smaller_apart-returns-then-row-parent t c =
    rw (le-leb c.args.parent c.args.row c.if-row-parent.true) (λ h. absurd (omega arith))

pub smaller_apart-returns-else-row-parent : goal.smaller_apart-returns-else-row-parent
smaller_apart-returns-else-row-parent t c =
    let a = c.args in
    member_apart a.schema.now a.parent a.row a.class c.apart.result c.apart.ensures
