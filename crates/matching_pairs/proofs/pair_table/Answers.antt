-- No entry is told before the last row; what is told at row 0 is the whole table.
use Prim.Native.Nat.{ℕ, ◌≤◌}
use mathlib.Core.Path.{sym, ◌∙◌, subst⁻¹}
use native.Mathlib.Omega.{arith}
use lib.ListN.{length, replicate, length-replicate}
use lib.Seq.{length-take-le}
use Rattle.strings.specs.Strings.{at_front}
use Rattle.strings.proofs.Table.{ends_of, few_bytes, few_strings}
use Rattle.schema.proofs.RowLaws.{few_rows, right_size}
use Rattle.schema.proofs.DefinitionRows.{definitions_part}
use Rattle.matching_pairs.proofs.Entries.{filling_start}
use Rattle.matching_pairs.proofs.pair_table.Goals as goal

whole : 262144 ≤ length (replicate {A = ℕ} 262144 0)
whole = subst⁻¹ (λ n. 262144 ≤ n) (length-replicate {A = ℕ} 262144 0) (omega arith)

pub fill-requires : goal.fill-requires
fill-requires c =
    let pass =
    c.requires.pass in
    record {
      passes = pass.schema;
      few_bytes = few_bytes (λ k x. ends_of pass.strings k (at_front x));
      few_strings = few_strings (λ k x. ends_of pass.strings k (at_front x));
      long_alone = whole;
      long_nothing = omega arith;
      long_blank = omega arith;
    }

pub definitions-n-requires : goal.definitions-n-requires
definitions-n-requires c = (
  few_rows (right_size c.requires.pass.schema.rows),
  omega arith,
)

pub slice_bounds-rows-end : goal.slice_bounds-rows-end
slice_bounds-rows-end c =
    let n = c.definitions-n.ensures.definitions.few in
    let few = few_rows (right_size c.requires.pass.schema.rows) in
    let l = c.rows-2-1.given in
    omega arith

pub slice_bounds-pair_all-end-4 : goal.slice_bounds-pair_all-end-4
slice_bounds-pair_all-end-4 c =
    let n = c.definitions-n.ensures.definitions.few in
    let few = few_rows (right_size c.requires.pass.schema.rows) in
    let l = c.rows-2-1.given in
    sym (length-take-le c.definitions-n.result c.definitions-n.new.rows (omega arith))

pub pair_all-requires : goal.pair_all-requires
pair_all-requires c =
    let pass = c.requires.pass in
    let few = few_rows (right_size pass.schema.rows) in
    let n = c.definitions-n.ensures.definitions.few in
    let l = c.rows-2-1.given in
    let room = c.requires.room in
    let size = c.pairs-1.given in (
      record {
        for_marks = omega arith;
        for_named = omega arith;
        for_taken = omega arith;
        for_single = omega arith;
        for_work = omega arith;
      },
      record {
        strings = _;
        filling = filling_start (length c.args.pairs.now) pass
            c.fill.ensures c.zero.ensures;
        room = omega arith;
        room_items = omega arith;
      },
      definitions_part (omega arith) c.definitions-n.ensures.definitions,
    )

pub shape_of-pairs : goal.shape_of-pairs
shape_of-pairs c = c.pairs-2-1.given ∙ c.pairs-1.given

pub returns : goal.returns
returns c =
    (c.pair_all.ensures _ (filling_start (length c.args.pairs.now)
    c.requires.pass c.fill.ensures c.zero.ensures)).from
