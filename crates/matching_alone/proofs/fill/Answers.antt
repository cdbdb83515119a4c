-- A schema that passes has no more rows than the tables have room for.
use native.Mathlib.Omega.{arith}
use Rattle.schema.proofs.RowLaws.{few_rows, right_size}
use Rattle.matching_alone.proofs.fill.Goals as goal

pub overflow_cast-schema : goal.overflow_cast-schema
overflow_cast-schema c =
    let few = few_rows (right_size c.requires.passes.rows) in
    omega arith

pub fill_rows-requires : goal.fill_rows-requires
fill_rows-requires c =
    let r = c.requires in
    let few = few_rows (right_size r.passes.rows) in
    (few, r.few_bytes, r.few_strings, r.long_alone, r.long_nothing, r.passes)

pub returns : goal.returns
returns c = record { entries = c.fill_rows.ensures; blanks = c.fill_blank.ensures }
