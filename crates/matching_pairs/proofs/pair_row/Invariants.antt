-- The invariant: the entries at the definitions before i are right.
use Rattle.tables.specs.Tables.{StringTable, tables_of}
use Rattle.matching_pairs.specs.Rows.{ElementReady, RowTold}
use Rattle.matching_pairs.proofs.pair_row.Given as goal

abbrev pub invariant-loop-i : goal.invariant-loop-i
invariant-loop-i l =
    (T : StringTable)
    → ElementReady (tables_of T l.schema l.instance) l.alone l.nothing l.blank l.initial.pairs l.items l.e
    l.attributes l.texts l.a l.k l.weak
    → RowTold (tables_of T l.schema l.instance) l.definitions l.initial.pairs l.pairs l.e l.i
