-- The entries are those of the row that was noted, or are compared.
use Rattle.tables.specs.Tables.{string_table}
use Rattle.matching_alone.proofs.RowKinds.{made_same, made_value}
use Rattle.matching_alone.proofs.fill_value.Goals as goal

pub returns-then-is_same_row : goal.returns-then-is_same_row
returns-then-is_same_row c =
    let a = c.args in
    λ nothing e. made_same (string_table a.bytes.now a.ends.now) a.schema.now a.alone.now
    nothing a.p e (c.is_same_row.ensures c.if-is_same_row.true) c.fill_either.ensures

pub returns-else-is_same_row : goal.returns-else-is_same_row
returns-else-is_same_row c =
    let a = c.args in
    λ nothing e. made_value (string_table a.bytes.now a.ends.now) a.schema.now a.alone.now
    nothing a.p c.field_a-a.ensures c.field_b-b.ensures e c.fill_equal.ensures
