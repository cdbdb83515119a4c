-- The invariant: no string before k repeats one before it, and the strings before k are linked by their hashes.
use Prim.Native.Nat.{◌≤◌, ◌-◌}
use mathlib.Core.Path.{◌≡◌}
use lib.ListN.{length}
use Rattle.tables.specs.Tables.{string_table}
use Rattle.tables.specs.Answers.{Clear}
use Rattle.strings.specs.Strings.{RepeatsText}
use Rattle.strings.specs.Chains.{Linked, Lasts}
use Rattle.strings.proofs.first_repeat.Given as goal

abbrev pub invariant-loop-k : goal.invariant-loop-k
invariant-loop-k l = Clear (RepeatsText (string_table l.bytes l.ends)) l.k
    × Lasts (string_table l.bytes l.ends) l.last l.k × (length l.prior ≡ 512)
    × Linked (string_table l.bytes l.ends) l.prior l.k
