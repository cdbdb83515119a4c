-- The marked pairs of the rows before e are put.
use Prim.Native.Nat.{◌*◌, ◌≤◌}
use Rattle.matching_list.specs.Listing.{marked_pairs, PutPairs}
use Rattle.matching_list.proofs.put_rows.Given as goal

abbrev pub invariant-loop-e : goal.invariant-loop-e
invariant-loop-e l =
    (l.n ≤ l.e * 512) × PutPairs l.initial.list 0 (marked_pairs l.table l.definitions l.e) l.list l.n
