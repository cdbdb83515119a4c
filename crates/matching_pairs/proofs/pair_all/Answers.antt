-- The invariant: the entries from row r on are right.
use native.Mathlib.Omega.{arith}
use Rattle.matching_pairs.proofs.Entries.{nodes_few}
use mathlib.Core.Path.{◌≡◌}
use Prim.Native.Nat.{◌+◌, ◌-◌}
use Rattle.matching_pairs.proofs.pair_all.Goals as goal

pub loop-r-init : goal.loop-r-init
loop-r-init c = λ T f. f

pub overflow_step-r : goal.overflow_step-r
overflow_step-r c =
    let few = nodes_few c.requires.1.filling.pass in
    omega arith

pub pair_node-requires : goal.pair_node-requires
pair_node-requires c =
    let r = c.loop-r.r in
    let long = c.loop-r.auto in
    let q = c.requires in
    let h₁ = q.0.for_marks in
    let h₂ = q.0.for_named in
    let h₃ = q.0.for_taken in
    let h₄ = q.0.for_single in
    let h₅ = q.0.for_work in
    let h₆ = q.1.room in
    let h₇ = q.1.room_items in
    let e : r - 1 + 1 ≡ r = omega arith in (
      record {
        for_marks = omega (arith, long.marks);
        for_named = omega (arith, long.named);
        for_taken = omega (arith, long.taken);
        for_single = omega (arith, long.single);
        for_work = omega (arith, long.work);
      },
      record {
        strings = q.1.strings;
        filling = rw e (c.loop-r.invariant q.1.strings q.1.filling);
        row = omega arith;
        room = omega (arith, long.pairs);
        room_items = omega (arith, long.items);
      },
      q.2,
    )

pub loop-r-preserved : goal.loop-r-preserved
loop-r-preserved c =
    let e : c.loop-r.r - 1 + 1 ≡ c.loop-r.r = omega arith in
    λ T f. c.pair_node.ensures T (rw e (c.loop-r.invariant T f))

pub returns : goal.returns
returns c = λ T f. let e : c.loop-r.r ≡ 0 = omega arith in rw e at (c.loop-r.invariant T f)
