-- Each kind by its law of Answering.
use mathlib.Core.Logic.{inl, inr}
use native.Mathlib.Omega.{arith}
use Rattle.matching.proofs.Answering.{answers_empty, answers_text, answers_item}
use Rattle.matching.proofs.Answering.{answers_attribute, answers_nothing}
use Rattle.matching.proofs.leaf.Goals as goal
use Rattle.matching.proofs.leaf.Goals.{in_default-via-then-kind-lt3, in_default-via-else-kind-lt3+else-kind-lt7}
use Rattle.matching.proofs.leaf.Goals.{in-8-1, in_default+else-kind-lt3+then-kind-lt7}

pub returns-in-1 : goal.returns-in-1
returns-in-1 c =
    answers_empty _ _ _ c.kind-kind.ensures
    c.word-mark.ensures
    c.in-1.is c.no_items.ensures

pub returns-in-3 : goal.returns-in-3
returns-in-3 c =
    answers_text _ _ _ c.kind-kind.ensures c.word-mark.ensures
    c.ranges.k.fits
    c.word-mark.type_inv c.in-3.is c.no_items-in-3.ensures

pub returns-in-7 : goal.returns-in-7
returns-in-7 c =
    answers_attribute _ _ _ c.kind-kind.ensures
    c.word-mark.ensures
    c.in-7.is c.one_attribute.ensures

pub returns-in_default : goal.returns-in_default
returns-in_default c =
    let rest = c.in_default-1.rest in
    answers_nothing _ _ _ c.kind-kind.ensures
    c.word-mark.ensures rest.0.0.0.1 rest.0.0.1
    (λ e. elim c.in_default.branch [
      | in_default-via-then-kind-lt3 w ↦ omega arith
      | in_default-via-else-kind-lt3+else-kind-lt7 w ↦ omega arith
    ])
    (λ e. elim c.in_default.branch [
      | in_default-via-then-kind-lt3 w ↦ omega arith
      | in_default-via-else-kind-lt3+else-kind-lt7 w ↦ omega arith
    ])
    (λ e. elim c.in_default.branch [
      | in_default-via-then-kind-lt3 w ↦ omega arith
      | in_default-via-else-kind-lt3+else-kind-lt7 w ↦ omega arith
    ])
    rest.0.1 rest.1 c.clear.ensures.is

pub returns-in-4 : goal.returns-in-4
returns-in-4 c =
    answers_item _ _ _ c.kind-kind.ensures
    c.word-mark.ensures c.one_item.ensures
    (elim c.in-4-1.branch [
      | in-8-1 w ↦ inl (omega arith)
      | in_default+else-kind-lt3+then-kind-lt7 w ↦ inr (omega arith, omega arith)
    ])
