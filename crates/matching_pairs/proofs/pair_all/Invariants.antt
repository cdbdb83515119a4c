-- The invariant: the entries from row r on are right.
use Rattle.matching_pairs.specs.Rows.{Filling}
use Rattle.instance.specs.Nodes.{nodes_of}
use Rattle.tables.specs.Tables.{StringTable, tables_of}
use Rattle.matching_pairs.proofs.pair_all.Given as goal

abbrev pub invariant-loop-r : goal.invariant-loop-r
invariant-loop-r l =
    (T : StringTable)
    → Filling (tables_of T l.schema l.instance) l.alone l.nothing l.blank l.initial.pairs (nodes_of l.instance)
    → Filling (tables_of T l.schema l.instance) l.alone l.nothing l.blank l.pairs l.r
