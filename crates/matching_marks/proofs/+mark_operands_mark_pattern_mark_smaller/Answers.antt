-- The measure of a row is above that of its operands, which are smaller rows.
use mathlib.Core.Path.{◌∙◌}
use native.Mathlib.Omega.{arith}
use lib.ListN.{length}
use Rattle.tables.specs.Tables.{tables_of}
use Rattle.matching_marks.specs.Given.{item_at}
use Rattle.matching_marks.proofs.Marking.{stays_same, operands_marked, pattern_marked}
use Rattle.matching_marks.proofs.+mark_operands_mark_pattern_mark_smaller.Goals as goal

pub mark_operands-mark_smaller-requires : goal.mark_operands-mark_smaller-requires
mark_operands-mark_smaller-requires t c =
    let room = c.requires in
    let m = c.decreases in (
      omega arith,
      record {
        few_attributes = room.few_attributes;
        few_items = room.few_items;
        in_marks = (let h = room.in_marks in omega arith);
        in_named = (let h = room.in_named in omega arith);
        in_taken = (let h = room.in_taken in omega arith);
        in_single = (let h = room.in_single in omega arith);
      },
    )

pub mark_operands-mark_smaller-requires-2 : goal.mark_operands-mark_smaller-requires-2
mark_operands-mark_smaller-requires-2 t c =
    let pre = c.requires in
    let room = pre in
    let m = c.decreases in (
      omega arith,
      record {
        few_attributes = room.few_attributes;
        few_items = room.few_items;
        in_marks = (let h = room.in_marks in let g0 = c.marks-1.given in omega arith);
        in_named = (let h = room.in_named in let g0 = c.named-1.given in omega arith);
        in_taken = (let h = room.in_taken in let g0 = c.taken-1.given in omega arith);
        in_single = (let h = room.in_single in let g0 = c.single-1.given in omega arith);
      },
    )

pub mark_operands-shape_of-marks : goal.mark_operands-shape_of-marks
mark_operands-shape_of-marks t c =
    c.marks-2-1.given
    ∙ c.marks-1.given

pub mark_operands-shape_of-named : goal.mark_operands-shape_of-named
mark_operands-shape_of-named t c = c.named-2-1.given ∙ c.named-1.given

pub mark_operands-shape_of-taken : goal.mark_operands-shape_of-taken
mark_operands-shape_of-taken t c = c.taken-2-1.given ∙ c.taken-1.given

pub mark_operands-shape_of-single : goal.mark_operands-shape_of-single
mark_operands-shape_of-single t c = c.single-2-1.given ∙ c.single-1.given

pub mark_operands-returns : goal.mark_operands-returns
mark_operands-returns t c =
    λ T g row.
    let a = c.args in
    operands_marked (tables_of T a.schema.now a.instance.now) a.e a.attributes (item_at T
    a.items.now a.texts) (length a.items.now) a.p _ _ c.first_operand-first.ensures
    c.second_operand-second.ensures (c.mark_smaller.ensures T g row) (c.mark_smaller-2.ensures T g row)

pub mark_pattern-mark_operands-requires : goal.mark_pattern-mark_operands-requires
mark_pattern-mark_operands-requires t c =
    let room = c.requires in
    let m = c.decreases in (
      omega arith,
      record {
        few_attributes = room.few_attributes;
        few_items = room.few_items;
        in_marks = (let h = room.in_marks in omega arith);
        in_named = (let h = room.in_named in omega arith);
        in_taken = (let h = room.in_taken in omega arith);
        in_single = (let h = room.in_single in omega arith);
      },
    )

pub mark_pattern-mark_row-requires : goal.mark_pattern-mark_row-requires
mark_pattern-mark_row-requires t c =
    let room = c.requires in
    record {
      few_attributes = room.few_attributes;
      few_items = room.few_items;
      in_marks =
          (let h = room.in_marks in let g0 = c.marks-1.given in omega arith);
      in_named = (let h = room.in_named in let g0 = c.named-1.given in omega arith);
      in_taken = (let h = room.in_taken in let g0 = c.taken-1.given in omega arith);
      in_single = (let h = room.in_single in
          let g0 = c.single-1.given in omega arith);
    }

pub mark_pattern-shape_of-marks : goal.mark_pattern-shape_of-marks
mark_pattern-shape_of-marks t c =
    c.marks-2-1.given
    ∙ c.marks-1.given

pub mark_pattern-shape_of-named : goal.mark_pattern-shape_of-named
mark_pattern-shape_of-named t c = c.named-2-1.given ∙ c.named-1.given

pub mark_pattern-shape_of-taken : goal.mark_pattern-shape_of-taken
mark_pattern-shape_of-taken t c = c.taken-2-1.given ∙ c.taken-1.given

pub mark_pattern-shape_of-single : goal.mark_pattern-shape_of-single
mark_pattern-shape_of-single t c = c.single-2-1.given ∙ c.single-1.given

pub mark_pattern-returns : goal.mark_pattern-returns
mark_pattern-returns t c =
    λ T g row.
    let a = c.args in
    pattern_marked (tables_of T a.schema.now a.instance.now) a.e a.attributes
    (item_at T a.items.now a.texts) (length a.items.now) g.passes.rows
    a.p (c.mark_operands.ensures T g row) (c.mark_row.ensures T g row)

pub mark_smaller-mark_pattern-requires : goal.mark_smaller-mark_pattern-requires
mark_smaller-mark_pattern-requires t c =
    let room = c.requires in
    let m = c.decreases in (
      omega arith,
      record {
        few_attributes = room.few_attributes;
        few_items = room.few_items;
        in_marks = (let h = room.in_marks in omega arith);
        in_named = (let h = room.in_named in omega arith);
        in_taken = (let h = room.in_taken in omega arith);
        in_single = (let h = room.in_single in omega arith);
      },
    )

pub mark_smaller-shape_of-marks : goal.mark_smaller-shape_of-marks
mark_smaller-shape_of-marks t c = c.marks-1.given

pub mark_smaller-shape_of-named : goal.mark_smaller-shape_of-named
mark_smaller-shape_of-named t c = c.named-1.given

pub mark_smaller-shape_of-taken : goal.mark_smaller-shape_of-taken
mark_smaller-shape_of-taken t c = c.taken-1.given

pub mark_smaller-shape_of-single : goal.mark_smaller-shape_of-single
mark_smaller-shape_of-single t c = c.single-1.given

pub mark_smaller-returns-then-q-p : goal.mark_smaller-returns-then-q-p
mark_smaller-returns-then-q-p t c =
    λ T g row.
    let h = c.if-q-p.true in
    let m = c.mark_pattern.ensures T g (omega arith) in
    (m.kept, λ l. m.pattern)

pub mark_smaller-returns-else-q-p : goal.mark_smaller-returns-else-q-p
mark_smaller-returns-else-q-p t c =
    λ T g row.
    let a =
    c.args in (
      stays_same (tables_of T a.schema.now a.instance.now) a.e a.attributes
          (item_at T a.items.now a.texts) (length a.items.now),
      λ l. absurd (let h = c.if-q-p.false in omega arith),
    )
