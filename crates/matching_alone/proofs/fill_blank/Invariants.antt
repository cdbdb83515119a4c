-- The first k strings are told.
use Rattle.tables.specs.Tables.{string_table}
use Rattle.matching_alone.proofs.Filling.{BlankTo}
use Rattle.matching_alone.proofs.fill_blank.Given as goal

abbrev pub invariant-loop-k : goal.invariant-loop-k
invariant-loop-k l = BlankTo (string_table l.bytes l.ends) l.blank l.k
