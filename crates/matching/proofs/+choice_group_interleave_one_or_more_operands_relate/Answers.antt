-- The measure of a row is above that of its parts, which is above those of smaller rows; and what each function of the
-- cycle claims of the calls that it makes.

-- The needs of each function of the cycle. What the words of each kind answer are the laws of Answering.
use Prim.Native.Nat.{◌-◌}
use mathlib.Core.Path.{sym, ◌∙◌}
use native.Mathlib.Omega.{arith}
use lib.ListN.{length}
use Rattle.matching.proofs.Answering.{answers_one_or_more, answers_choice, answers_group}
use Rattle.matching.proofs.Answering.{answers_interleave, choice_shared, group_shared, interleave_shared}
use Rattle.matching.proofs.Answering.{repeated_less, repeated_relatable, repeated_up, first_relatable}
use Rattle.matching.proofs.Answering.{second_relatable, operands_related, not_connective}
use Rattle.matching.proofs.+choice_group_interleave_one_or_more_operands_relate.Goals as goal

pub choice-operands-requires : goal.choice-operands-requires
choice-operands-requires t c =
    let pre = c.requires in
    (omega arith, choice_shared _ _ pre.1 pre.0)

pub choice-union-requires : goal.choice-union-requires
choice-union-requires t c =
    let pre = c.requires in
    let r = pre.1 in
    let f = r.few in
    let h = r.room in
    let l = (choice_shared _ _ r pre.0).first_less in
    record { few = f; room = omega arith }

pub choice-returns : goal.choice-returns
choice-returns t c =
    answers_choice _ _ c.requires.0
    c.operands.ensures c.union.ensures.is

pub group-operands-requires : goal.group-operands-requires
group-operands-requires t c =
    let pre = c.requires in
    (omega arith, group_shared _ _ pre.1 _ pre.0)

pub group-compose-requires : goal.group-compose-requires
group-compose-requires t c =
    let pre = c.requires in
    let r = pre.1 in
    let f = r.few in
    let h = r.room in
    let l = (group_shared _ _ r 0 pre.0).first_less in
    record { few = f; room = omega arith }

pub group-returns : goal.group-returns
group-returns t c =
    answers_group _ _ c.ranges.a.fits
    c.word-n.type_inv c.field_a.ensures c.word-n.ensures
    c.requires.0
    c.operands.ensures
    c.compose.ensures.is

pub interleave-operands-requires : goal.interleave-operands-requires
interleave-operands-requires t c =
    let pre = c.requires in
    (omega arith, interleave_shared _ _ pre.1 _ _ pre.0)

pub interleave-meet-requires : goal.interleave-meet-requires
interleave-meet-requires t c =
    let pre = c.requires in
    let r = pre.1 in
    let f = r.few in
    let h = r.room in
    let l = (interleave_shared _ _ r 0 0 pre.0).first_less in
    record { few = f; room = omega arith }

pub interleave-returns : goal.interleave-returns
interleave-returns t c =
    answers_interleave _ _ c.ranges.a.fits c.word-n.type_inv
    c.field_a-q.ensures c.word-n.ensures
    c.ranges.k.fits c.word-t.type_inv c.word-t.ensures c.requires.0
    c.operands.ensures c.meet.ensures.is

pub one_or_more-relate-requires : goal.one_or_more-relate-requires
one_or_more-relate-requires t c =
    let r = c.requires in
    let l = repeated_less _ _ r.1 r.0 c.field_a-q.ensures in
    (omega arith, repeated_relatable _ _ r.1 r.0 c.field_a-q.ensures)

pub one_or_more-repeated-requires : goal.one_or_more-repeated-requires
one_or_more-repeated-requires t c =
    let r = c.requires in
    let f = r.1.few in
    let h = r.1.room in
    let l = repeated_less _ _ r.1 r.0 c.field_a-q.ensures in (
      record { few = f; room = omega arith },
      repeated_up _ _ r.1 r.0 c.field_a-q.ensures c.relate.ensures,
    )

pub one_or_more-returns : goal.one_or_more-returns
one_or_more-returns t c =
    answers_one_or_more _ _ c.ranges.a.fits c.requires.0
    c.field_a-q.ensures c.word.ensures
    c.relate.ensures c.repeated.ensures

pub operands-relate-requires : goal.operands-relate-requires
operands-relate-requires t c =
    let r = c.requires in
    let l = r.first_less in
    let e = c.field_a-p1.ensures in
    (omega arith, first_relatable _ _ r e)

pub operands-slice_bounds-relate-count : goal.operands-slice_bounds-relate-count
operands-slice_bounds-relate-count t c =
    let r =
    c.requires.room in
    omega arith

pub operands-relate-requires-2 : goal.operands-relate-requires-2
operands-relate-requires-2 t c =
    let r = c.requires in
    let l = r.second_less in
    let h = r.room in
    let e = c.field_b-p2.ensures in
    (omega arith, second_relatable _ _ r e (omega arith))

pub operands-returns : goal.operands-returns
operands-returns t c =
    let v = c.relate.new.work in
    let r = c.requires in
    let f = r.few in
    let h = r.room in
    let l = r.second_less in
    operands_related _ _ f (length v - 64) v
    c.relate-2.new.work (omega arith) (omega arith)
    c.field_a-p1.ensures c.field_b-p2.ensures
    c.relate.ensures c.relate-2.ensures

pub relate-one_or_more-requires : goal.relate-one_or_more-requires
relate-one_or_more-requires t c = (
  omega arith,
  (
    sym c.kind-kind.ensures ∙ c.in-9.is,
    c.requires,
  ),
)

pub relate-choice-requires : goal.relate-choice-requires
relate-choice-requires t c = (
  omega arith,
  (
    sym c.kind-kind.ensures ∙ c.in-10.is,
    c.requires,
  ),
)

pub relate-group-requires : goal.relate-group-requires
relate-group-requires t c = (
  omega arith,
  (
    sym c.kind-kind.ensures ∙ c.in-11.is,
    c.requires,
  ),
)

pub relate-interleave-requires : goal.relate-interleave-requires
relate-interleave-requires t c = (
  omega arith,
  (
    sym c.kind-kind.ensures ∙ c.in-12.is,
    c.requires,
  ),
)

pub relate-leaf-requires : goal.relate-leaf-requires
relate-leaf-requires t c =
    let r = c.requires in
    let f = r.few in
    let h = r.room in
    record { few = f; room = omega arith }

pub relate-returns-in-9 : goal.relate-returns-in-9
relate-returns-in-9 t c = c.one_or_more.ensures

pub relate-returns-in-10 : goal.relate-returns-in-10
relate-returns-in-10 t c = c.choice.ensures

pub relate-returns-in-11 : goal.relate-returns-in-11
relate-returns-in-11 t c = c.group.ensures

pub relate-returns-in-12 : goal.relate-returns-in-12
relate-returns-in-12 t c = c.interleave.ensures

pub relate-returns-in_default : goal.relate-returns-in_default
relate-returns-in_default t c =
    let rest = c.in_default.in_default-own.rest in
    c.leaf.ensures (not_connective c.kind-kind.ensures
    rest.0.0.0.1 rest.0.0.1 rest.0.1 rest.1) _ _ _
