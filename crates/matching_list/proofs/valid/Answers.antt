-- Start is the last row of a schema that passes.
use native.Mathlib.Omega.{arith}
use Rattle.schema.proofs.RowLaws.{few_rows, right_size}
use Rattle.matching_list.proofs.Root.{some_row, start_asked, tells_valid}
use Rattle.matching_list.proofs.valid.Goals as goal

pub overflow_sub-last : goal.overflow_sub-last
overflow_sub-last c = let x = some_row c.requires.pass.schema.rows in omega arith

pub overflow_cast-last : goal.overflow_cast-last
overflow_cast-last c = let x = few_rows (right_size c.requires.pass.schema.rows) in omega arith

pub root_matches-requires : goal.root_matches-requires
root_matches-requires c =
    start_asked c.args.schema.now
    c.args.pairs.now _ c.field_a.ensures c.requires

pub returns : goal.returns
returns c =
    tells_valid c.args.schema.now
    c.args.pairs.now _
    c.field_a.ensures c.root_matches.result c.root_matches.ensures
