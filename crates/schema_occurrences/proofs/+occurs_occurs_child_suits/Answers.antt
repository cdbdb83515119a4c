-- What is looked for occurs at the pattern or in a child of a connective; the table of comparisons stays right. The row
-- number falls, and a search within a search is of a lower rank.
use mathlib.Core.Logic.{inl, inr}
use mathlib.Core.Path.{sym, ◌∙◌}
use native.Mathlib.Omega.{arith}
use Rattle.tables.proofs.Answers.{said_yes, said_no, decides_eqb}
use Rattle.schema_occurrences.proofs.Descent.{first_child, second_child, beside}
use Rattle.schema_occurrences.proofs.Occurring.{occurs_here, occurs_nowhere, occurs_by_children}
use Rattle.schema_occurrences.proofs.Occurring.{is_connective, not_connective}
use Rattle.schema_occurrences.specs.Interleaves.{class_referred}
use Rattle.schema_occurrences.specs.Occurrences.{Somewhere, Shared, SharingAttribute, SharingRef, Suits}
use Rattle.schema.specs.Rows.{kind_of, child_a}
use Rattle.schema_occurrences.proofs.+occurs_occurs_child_suits.Goals as goal

pub occurs-suits-requires : goal.occurs-suits-requires
occurs-suits-requires t c = (omega arith, c.requires)

pub occurs-returns-then-suits : goal.occurs-returns-then-suits
occurs-returns-then-suits t c =
    let s = c.args.schema.now in (
      occurs_here s (Suits s c.args.wanted)
          c.args.p
          (said_yes c.suits.ensures.0 c.if-suits.true),
      c.suits.ensures.1,
    )

pub occurs-returns-then-kind-lt-ONE_OR_MORE : goal.occurs-returns-then-kind-lt-ONE_OR_MORE
occurs-returns-then-kind-lt-ONE_OR_MORE t c =
    let a = c.args in
    let s = a.schema.now in (
      occurs_nowhere s (Suits s a.wanted) a.p
          (said_no c.suits.ensures.0 c.if-suits.false)
          (not_connective s a.p c.kind-kind.ensures (inl c.if-kind-lt-ONE_OR_MORE.true)),
      c.suits.ensures.1,
    )

pub occurs-returns-then-kind-gt-INTERLEAVE : goal.occurs-returns-then-kind-gt-INTERLEAVE
occurs-returns-then-kind-gt-INTERLEAVE t c =
    let a = c.args in
    let s = a.schema.now in (
      occurs_nowhere s (Suits s a.wanted) a.p
          (said_no c.suits.ensures.0 c.if-suits.false)
          (not_connective s a.p c.kind-kind.ensures (inr c.if-kind-gt-INTERLEAVE.true)),
      c.suits.ensures.1,
    )

pub occurs-occurs_child-requires : goal.occurs-occurs_child-requires
occurs-occurs_child-requires t c =
    let pre = c.requires in
    (omega arith, (pre.0, c.suits.ensures.1))

pub occurs-returns-then-occurs_child : goal.occurs-returns-then-occurs_child
occurs-returns-then-occurs_child t c =
    let a = c.args in
    let s = a.schema.now in (
      first_child (omega arith) c.child_a.ensures (occurs_by_children s
          (Suits s a.wanted) a.p (said_no c.suits.ensures.0 c.if-suits.false)
          (is_connective s a.p c.kind-kind.ensures c.if-kind-lt-ONE_OR_MORE.false c.if-kind-gt-INTERLEAVE.false))
          c.occurs_child.ensures.0 c.if-occurs_child.true,
      c.occurs_child.ensures.1,
    )

pub occurs-occurs_child-requires-2 : goal.occurs-occurs_child-requires-2
occurs-occurs_child-requires-2 t c =
    let pre = c.requires in
    (omega arith, (pre.0, c.occurs_child.ensures.1))

pub occurs-returns : goal.occurs-returns
occurs-returns t c =
    let a = c.args in
    let s = a.schema.now in (
      second_child (omega (arith, c.ranges.p)) c.child_a.ensures (occurs_by_children s (Suits s a.wanted)
          a.p (said_no c.suits.ensures.0 c.if-suits.false)
          (is_connective s a.p c.kind-kind.ensures c.if-kind-lt-ONE_OR_MORE.false c.if-kind-gt-INTERLEAVE.false))
          c.occurs_child.ensures.0 c.if-occurs_child.false
          c.child_b.ensures c.occurs_child-2.result
          c.occurs_child-2.ensures.0,
      c.occurs_child-2.ensures.1,
    )

pub occurs_child-occurs-requires : goal.occurs_child-occurs-requires
occurs_child-occurs-requires t c = (omega arith, c.requires)

pub occurs_child-returns-then-child-parent : goal.occurs_child-returns-then-child-parent
occurs_child-returns-then-child-parent t c =
    let a = c.args in
    let s = a.schema.now in (
      beside (Somewhere s (Suits s a.wanted) a.child) c.occurs.result
          c.if-child-parent.true c.occurs.ensures.0,
      c.occurs.ensures.1,
    )

pub occurs_child-returns-else-child-parent : goal.occurs_child-returns-else-child-parent
occurs_child-returns-else-child-parent t c = (λ x. omega (arith, x.0), c.requires.1)

pub suits-share_name-requires : goal.suits-share_name-requires
suits-share_name-requires t c = c.requires.0

pub suits-share_name_once-requires : goal.suits-share_name_once-requires
suits-share_name_once-requires t c = c.requires

pub suits-occurs-requires : goal.suits-occurs-requires
suits-occurs-requires t c =
    let pre = c.requires in
    (omega (arith, rw c.in-AttributeMeeting.is at c.decreases), pre)

pub suits-occurs-requires-then-kind-eq-REF-2 : goal.suits-occurs-requires-then-kind-eq-REF-2
suits-occurs-requires-then-kind-eq-REF-2 t c =
    let pre = c.requires in
    (omega (arith, rw c.in-RefMeeting.is at c.decreases), pre)

pub suits-returns-in-Text : goal.suits-returns-in-Text
suits-returns-in-Text t c = (
  rw (c.in-Text.is, c.kind-kind.ensures)
      (decides_eqb (kind_of c.args.schema.now c.args.x) 3),
  c.requires.1,
)

pub suits-returns-then-kind-eq-ATTRIBUTE : goal.suits-returns-then-kind-eq-ATTRIBUTE
suits-returns-then-kind-eq-ATTRIBUTE t c =
    let s = c.args.schema.now in (
      rw c.in-AttributeSharing.is (beside (Shared s c.in-AttributeSharing.class (child_a s c.args.x))
          c.share_name.result (sym c.kind-kind.ensures ∙ c.if-kind-eq-ATTRIBUTE.true)
          (rw c.child_a.ensures at c.share_name.ensures)),
      c.requires.1,
    )

pub suits-returns-else-kind-eq-ATTRIBUTE : goal.suits-returns-else-kind-eq-ATTRIBUTE
suits-returns-else-kind-eq-ATTRIBUTE t c = (
  rw c.in-AttributeSharing.is
      (λ x. c.if-kind-eq-ATTRIBUTE.false (c.kind-kind.ensures ∙ x.0)),
  c.requires.1,
)

pub suits-returns-then-kind-eq-REF : goal.suits-returns-then-kind-eq-REF
suits-returns-then-kind-eq-REF t c =
    let a = c.args in
    let s = a.schema.now in (
      rw c.in-RefSharing.is (beside (Shared s c.in-RefSharing.class (class_referred s a.x))
          c.share_name_once.result (sym c.kind-kind.ensures ∙ c.if-kind-eq-REF.true)
          (rw c.class_referred.ensures at c.share_name_once.ensures.0)),
      c.share_name_once.ensures.1,
    )

pub suits-returns-else-kind-eq-REF : goal.suits-returns-else-kind-eq-REF
suits-returns-else-kind-eq-REF t c = (
  rw c.in-RefSharing.is
      (λ x. c.if-kind-eq-REF.false (c.kind-kind.ensures ∙ x.0)),
  c.requires.1,
)

pub suits-returns-then-kind-eq-ATTRIBUTE-2 : goal.suits-returns-then-kind-eq-ATTRIBUTE-2
suits-returns-then-kind-eq-ATTRIBUTE-2 t c =
    let a = c.args in
    let s = a.schema.now in (
      rw c.in-AttributeMeeting.is
          (beside (Somewhere s (SharingAttribute s (child_a s a.x)) c.in-AttributeMeeting.q)
          c.occurs.result (sym c.kind-kind.ensures ∙ c.if-kind-eq-ATTRIBUTE-2.true)
          (rw c.child_a-class.ensures at c.occurs.ensures.0)),
      c.occurs.ensures.1,
    )

pub suits-returns-else-kind-eq-ATTRIBUTE-2 : goal.suits-returns-else-kind-eq-ATTRIBUTE-2
suits-returns-else-kind-eq-ATTRIBUTE-2 t c = (
  rw c.in-AttributeMeeting.is
      (λ x. c.if-kind-eq-ATTRIBUTE-2.false (c.kind-kind.ensures ∙ x.0)),
  c.requires.1,
)

pub suits-returns-then-kind-eq-REF-2 : goal.suits-returns-then-kind-eq-REF-2
suits-returns-then-kind-eq-REF-2 t c =
    let a = c.args in
    let s = a.schema.now in (
      rw c.in-RefMeeting.is
          (beside (Somewhere s (SharingRef s (class_referred s a.x)) c.in-RefMeeting.q)
          c.occurs-then-kind-eq-REF-2.result (sym c.kind-kind.ensures ∙ c.if-kind-eq-REF-2.true)
          (rw c.class_referred-class.ensures at c.occurs-then-kind-eq-REF-2.ensures.0)),
      c.occurs-then-kind-eq-REF-2.ensures.1,
    )

pub suits-returns-else-kind-eq-REF-2 : goal.suits-returns-else-kind-eq-REF-2
suits-returns-else-kind-eq-REF-2 t c = (
  rw c.in-RefMeeting.is
      (λ x. c.if-kind-eq-REF-2.false (c.kind-kind.ensures ∙ x.0)),
  c.requires.1,
)
