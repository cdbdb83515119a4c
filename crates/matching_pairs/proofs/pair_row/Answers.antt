-- The invariant: the entries at the definitions before i are right.
use mathlib.Core.Path.{◌≡◌, refl}
use mathlib.Core.Bool.{cond}
use native.Mathlib.Omega.{arith}
use lib.ListN.{length}
use Rattle.std.proofs.Common.{rules}
use Rattle.schema.proofs.RowLaws.{few_rows, right_size}
use Rattle.matching_alone.proofs.Entries.{byte_told}
use Rattle.matching_pairs.proofs.Entries.{given_kept, row_none, row_more, row_right_lem}
use Rattle.matching_pairs.proofs.pair_row.Goals as goal

pub loop-i-init : goal.loop-i-init
loop-i-init c = λ T r. row_none

pub pair_at-v-requires : goal.pair_at-v-requires
pair_at-v-requires c =
    let q = c.requires in
    let long = c.loop-i.auto in
    let below = c.loop-i-test.true in
    let h₁ = q.0.for_marks in
    let h₂ = q.0.for_named in
    let h₃ = q.0.for_taken in
    let h₄ = q.0.for_single in
    let h₅ = q.0.for_work in
    let told = c.loop-i.invariant q.1.strings q.1.ready in (
      record {
        for_marks = omega (arith, long.marks);
        for_named = omega (arith, long.named);
        for_taken = omega (arith, long.taken);
        for_single = omega (arith, long.single);
        for_work = omega (arith, long.work);
      },
      record {
        strings = q.1.strings;
        given = given_kept q.1.ready.given q.1.ready.apart told.others;
        shown = q.1.ready.shown;
        element = q.1.element;
        defined = q.2.defined c.loop-i.i below;
        row = q.2.rows c.loop-i.i below;
      },
    )

pub overflow_mul-pairs : goal.overflow_mul-pairs
overflow_mul-pairs c =
    let h = c.requires.1.row in
    omega arith

pub overflow_add-pairs : goal.overflow_add-pairs
overflow_add-pairs c =
    let q = c.requires in
    let few = few_rows (right_size q.1.ready.given.passes.rows) in
    let row = q.2.rows c.loop-i.i c.loop-i-test.true in
    let h = q.1.row in
    omega arith

pub bounds-pairs-e : goal.bounds-pairs-e
bounds-pairs-e c =
    let q = c.requires in
    let few = few_rows (right_size q.1.ready.given.passes.rows) in
    let row = q.2.rows c.loop-i.i c.loop-i-test.true in
    let h = q.1.row in
    let long = q.1.room in
    let size = c.loop-i.auto.pairs in
    omega arith

pub loop-i-preserved : goal.loop-i-preserved
loop-i-preserved c =
    let q = c.requires in
    let few = few_rows (right_size q.1.ready.given.passes.rows) in
    let high = q.1.row in
    let long = q.1.room in
    let size = c.loop-i.auto.pairs in
    let below = c.loop-i-test.true in
    let row = q.2.rows c.loop-i.i below in
    let stored : c.from.result ≡ cond c.pair_at-v.result 1 0 = search rules in
    λ T ready.
    let told = c.loop-i.invariant T ready in
    row_more q.2 below refl (omega arith) (omega arith) (rw stored (byte_told c.pair_at-v.result
    (c.pair_at-v.ensures T (given_kept ready.given ready.apart told.others) ready.shown))) told

pub returns : goal.returns
returns c =
    λ T ready.
    let q = c.requires in
    let few = few_rows (right_size q.1.ready.given.passes.rows) in
    let all : c.loop-i.i ≡ length c.args.definitions.now = omega (arith, c.loop-i-test.false) in
    row_right_lem few q.2 ready.empty (rw all at (c.loop-i.invariant T ready))
