-- The four words are right, and are stored at the row.
use lib.ListN.{length}
use native.Mathlib.Omega.{arith}
use Rattle.tables.specs.Tables.{tables_of}
use Rattle.matching_marks.specs.Given.{item_at}
use Rattle.matching_marks.proofs.Marking.{row_stored}
use Rattle.matching_marks.proofs.mark_row.Goals as goal

pub offset_bounds-marks-p : goal.offset_bounds-marks-p
offset_bounds-marks-p c =
    omega (
      arith,
      c.ranges.p.fits,
    )

pub offset_bounds-named-p : goal.offset_bounds-named-p
offset_bounds-named-p c =
    omega (
      arith,
      c.ranges.p.fits,
    )

pub offset_bounds-taken-p : goal.offset_bounds-taken-p
offset_bounds-taken-p c =
    omega (
      arith,
      c.ranges.p.fits,
    )

pub offset_bounds-single-p : goal.offset_bounds-single-p
offset_bounds-single-p c =
    omega (
      arith,
      c.ranges.p.fits,
    )

pub returns : goal.returns
returns c =
    λ T g row operands.
    let a = c.args in
    let room = c.requires in
    let leaf = c.leaf_word-leaf.ensures T g row in
    row_stored (tables_of T a.schema.now a.instance.now) a.e
    a.attributes (item_at T a.items.now a.texts) (length a.items.now)
    a.marks.now a.named.now a.taken.now a.single.now a.p _ _ _ _
    room.in_marks room.in_named room.in_taken room.in_single leaf
    (c.named_word-name.ensures T g.passes (λ r o. (operands r o).names))
    (c.taken_word-take.ensures T g.passes (λ r o. (operands r o).takers))
    (c.single_word-only.ensures T a.instance.now a.e a.attributes
    g.passes leaf.attribute_leaves (λ r o. (operands r o).singles))
