-- The parts of the answer, put together.
use Prim.Native.Nat.{ℕ}
use mathlib.Core.Path.{sym}
use native.Mathlib.Omega.{arith}
use lib.ListN.{length-replicate}
use lib.Seq.{length-take-le}
use Rattle.std.proofs.lemmas.Result.{err_from_is_err_and}
use Rattle.schema.proofs.RowLaws.{few_rows, right_size}
use Rattle.matching_list.proofs.MatchList.{nodes_few, too_short, told}
use Rattle.matching_list.specs.declared.Matches.{Matches}
use Rattle.matching_list.specs.declared.TooShort.{TooShort}
use Rattle.matching_list.proofs.list_matches.Goals as goal

pub pair_table-requires : goal.pair_table-requires
pair_table-requires c = c.requires

pub slice_bounds-definitions-end : goal.slice_bounds-definitions-end
slice_bounds-definitions-end c = sym (length-replicate {A = ℕ} 512 0)

pub definitions-n-requires : goal.definitions-n-requires
definitions-n-requires c = (
  few_rows (right_size c.requires.pass.schema.rows),
  omega arith,
)

pub slice_bounds-rows-end : goal.slice_bounds-rows-end
slice_bounds-rows-end c =
    let few = few_rows (right_size c.requires.pass.schema.rows) in
    let n = c.definitions-n.ensures.definitions.few in
    let l = c.rows-2-1.given in
    omega arith

pub slice_bounds-list_pairs-end : goal.slice_bounds-list_pairs-end
slice_bounds-list_pairs-end c =
    let few = few_rows (right_size c.requires.pass.schema.rows) in
    let n = c.definitions-n.ensures.definitions.few in
    let l = c.rows-2-1.given in
    sym (length-take-le c.definitions-n.result c.definitions-n.new.rows (omega arith))

pub overflow_cast-nodes : goal.overflow_cast-nodes
overflow_cast-nodes c =
    let few = nodes_few c.requires.pass in
    omega arith

pub list_pairs-requires : goal.list_pairs-requires
list_pairs-requires c =
    let pre = c.requires in
    let few = few_rows (right_size pre.pass.schema.rows) in
    let n = c.definitions-n.ensures.definitions.few in
    let l = c.rows-2-1.given in (
      nodes_few pre.pass,
      rw (length-take-le c.definitions-n.result c.definitions-n.new.rows (omega arith)) (omega arith),
    )

pub returns-in_err-number : goal.returns-in_err-number
returns-in_err-number c =
    let pre = c.requires in
    let few = few_rows (right_size pre.pass.schema.rows) in
    let n = c.definitions-n.ensures.definitions.few in
    let l = c.rows-2-1.given in
    let short = err_from_is_err_and {T = Matches} {E = TooShort} c.from_residual.result c.from_residual.ensures.1 in
    rw short.1 (too_short pre.pass c.pair_table.ensures c.definitions-n.ensures.definitions (omega arith)
    c.list_pairs.ensures c.in_err-number.was)

pub valid-requires : goal.valid-requires
valid-requires c =
    record {
      strings = _;
      instance = _;
      pass = c.requires.pass;
      right = c.pair_table.ensures;
    }

pub returns : goal.returns
returns c =
    let pre = c.requires in
    let few = few_rows (right_size pre.pass.schema.rows) in
    let n = c.definitions-n.ensures.definitions.few in
    let l = c.rows-2-1.given in
    let right = c.pair_table.ensures in
    told pre.pass right c.definitions-n.ensures.definitions
    (omega arith) c.list_pairs.ensures c.in_ok-number.was (c.valid.ensures.tells _ _ pre.pass right)
