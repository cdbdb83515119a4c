-- The invariant: the strings passed have their places.
use Rattle.tables.specs.Tables.{string_table}
use Rattle.matching_tokens.proofs.Places.{PlacedTo}
use Rattle.matching_tokens.proofs.find_tokens.Given as goal

abbrev pub invariant-loop-k : goal.invariant-loop-k
invariant-loop-k l = PlacedTo (string_table l.bytes l.ends) l.places l.k
