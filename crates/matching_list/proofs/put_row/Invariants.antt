-- The marked ones among the first k definitions are put.
use Prim.Native.Nat.{◌+◌, ◌≤◌}
use Rattle.matching_list.specs.Listing.{row_pairs, PutPairs}
use Rattle.matching_list.proofs.put_row.Given as goal

abbrev pub invariant-loop-k : goal.invariant-loop-k
invariant-loop-k l = (l.m ≤ l.n + l.k)
    × PutPairs l.initial.list l.n (row_pairs l.table l.definitions l.e l.k) l.list l.m
