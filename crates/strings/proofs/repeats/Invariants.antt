-- The invariant: no string from m on has the text of string k, and the one before m has its hash.
use Rattle.tables.specs.Tables.{string_table}
use Rattle.strings.proofs.Chains.{Walked}
use Rattle.strings.proofs.repeats.Given as goal

abbrev pub invariant-loop-m : goal.invariant-loop-m
invariant-loop-m l = Walked (string_table l.bytes l.ends) l.k l.m

abbrev pub decreases-loop-m : goal.decreases-loop-m
decreases-loop-m l = l.m
