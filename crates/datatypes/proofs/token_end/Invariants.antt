-- The invariant: no whitespace character stands at the positions passed.
use Prim.Native.Nat.{ℕ, ◌≤◌, ◌<◌, max}
use mathlib.Core.Path.{◌≡◌}
use mathlib.Core.Bool.{false}
use lib.ListN.{length, get_or}
use Rattle.datatypes.specs.Whitespace.{space}
use Rattle.datatypes.proofs.token_end.Given as goal

abbrev pub invariant-loop-to : goal.invariant-loop-to
invariant-loop-to l = (l.from ≤ l.to) × (l.to ≤ max l.from (length l.s))
    × ((i : ℕ) → i < l.to → l.from ≤ i → space (get_or l.s i 0) ≡ false)
