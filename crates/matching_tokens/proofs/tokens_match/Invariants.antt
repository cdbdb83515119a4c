-- The invariant: what has been read of the text, for each tree that the row shows. The measure: what is left of the
-- text.
use Prim.Native.Nat.{ℕ, ◌-◌}
use mathlib.Core.Path.{◌≡◌}
use mathlib.Core.List.{List}
use lib.ListN.{length}
use Rattle.tables.specs.Tables.{string_table}
use Rattle.matching_tokens.specs.Marked.{Tree, Proper}
use Rattle.matching_tokens.specs.MarkTable.{ShowsAt}
use Rattle.matching_tokens.proofs.Walking.{Settled, ReadTo}
use Rattle.matching_tokens.proofs.tokens_match.Given as goal

abbrev pub invariant-loop-at : goal.invariant-loop-at
invariant-loop-at l = (length l.marks ≡ 512) × Settled l.text l.at × ((t : List ℕ) (u : Tree)
    → ShowsAt (string_table l.bytes l.ends) l.schema t l.p u → Proper u → ReadTo l.text u l.at l.enter l.marks l.done)

abbrev pub decreases-loop-at : goal.decreases-loop-at
decreases-loop-at l = length l.text - l.at
