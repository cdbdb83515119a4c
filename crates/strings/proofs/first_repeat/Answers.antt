-- The invariant: no string before k repeats one before it, and the strings before k are linked by their hashes.
use mathlib.Core.Path.{refl}
use native.Mathlib.Omega.{arith}
use Prim.Native.Nat.{ℕ}
use lib.ListN.{length-set, length-replicate}
use borrow.Author.Count.{below_none, below_more}
use Rattle.tables.proofs.Answers.{said_yes, said_no}
use Rattle.tables.proofs.Checks.{finds_none}
use Rattle.strings.proofs.Chains.{told_less, last_told, lasts_none, lasts_told, linked_more}
use Rattle.strings.proofs.first_repeat.Goals as goal

pub loop-k-init : goal.loop-k-init
loop-k-init c = (below_none _, lasts_none, length-replicate {A = ℕ} 512 0, below_none _)

pub offset_bounds-last-h : goal.offset_bounds-last-h
offset_bounds-last-h c = omega (arith, told_less c.text.result.now c.hash-h.ensures)

pub bounds-last-h : goal.bounds-last-h
bounds-last-h c =
    let i = c.loop-k.invariant in
    omega (arith, told_less c.text.result.now c.hash-h.ensures, i.1.size)

pub repeats-requires : goal.repeats-requires
repeats-requires c =
    let i = c.loop-k.invariant in (
      omega arith,
      omega arith,
      last_told c.hash-h.ensures c.text.ensures.holds i.1,
      i.3,
    )

pub returns-then-repeats : goal.returns-then-repeats
returns-then-repeats c = (
  said_yes c.repeats.ensures c.if-repeats.true,
  c.loop-k.invariant.0,
)

pub offset_bounds-last-h-in-loop-k : goal.offset_bounds-last-h-in-loop-k
offset_bounds-last-h-in-loop-k c = omega (arith, told_less c.text.result.now c.hash-h.ensures)

pub bounds-last-h-in-loop-k : goal.bounds-last-h-in-loop-k
bounds-last-h-in-loop-k c =
    let i = c.loop-k.invariant in
    omega (arith, told_less c.text.result.now c.hash-h.ensures, i.1.size)

pub loop-k-preserved : goal.loop-k-preserved
loop-k-preserved c =
    let i = c.loop-k.invariant in (
      below_more _ _ i.0 (said_no c.repeats.ensures c.if-repeats.false),
      lasts_told c.hash-h.ensures c.text.ensures.holds _ refl i.1,
      simp length-set i.2,
      linked_more c.loop-k.prior (omega (arith, i.2))
          (last_told c.hash-h.ensures c.text.ensures.holds i.1) i.3,
    )

pub returns : goal.returns
returns c =
    finds_none _ c.loop-k.invariant.0 (λ k f. omega (arith, f.0, c.loop-k-test.false, c.loop-k.auto.k-end))
