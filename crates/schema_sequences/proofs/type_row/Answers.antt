-- The row is judged by the types of its children, and its own type is the next of the table.
use native.Mathlib.Omega.{arith}
use Rattle.schema_sequences.proofs.TypeTables.{types_more}
use Rattle.schema_sequences.proofs.Types.{row_judged}
use Rattle.schema.proofs.RowLaws.{few_rows}
use Rattle.schema_sequences.proofs.type_row.Goals as goal

pub bounds-types-r : goal.bounds-types-r
bounds-types-r c =
    let pre = c.requires in
    omega (arith, pre.2, pre.1.size, few_rows pre.0)

pub returns : goal.returns
returns c =
    let a = c.args in
    let judged = row_judged a.schema.now a.r c.kind-kind.ensures
    c.field_b.ensures c.child_a.ensures c.child_b.ensures
    c.child_type-c.ensures c.child_type-d.ensures c.row_clashes.ensures c.row_type.ensures in
    (judged.0, types_more _ c.requires.1 (omega (arith, c.requires.2, few_rows c.requires.0)) judged.1)
