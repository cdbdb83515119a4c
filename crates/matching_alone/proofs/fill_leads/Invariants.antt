-- The leads of the first k strings are right.
use Rattle.tables.specs.Tables.{string_table}
use Rattle.matching_alone.specs.Rows.{LeadsTo}
use Rattle.matching_alone.proofs.fill_leads.Given as goal

abbrev pub invariant-loop-k : goal.invariant-loop-k
invariant-loop-k l = LeadsTo (string_table l.bytes l.ends) l.leads l.k
