-- The invariant: each word counts the rows passed that belong to its row.
use Prim.Native.Nat.{◌≤◌}
use Rattle.instance_nodes.specs.Counts.{RowsCounted}
use Rattle.instance.specs.Nodes.{nodes_of, is_attribute, is_child}
use Rattle.instance_nodes.proofs.count_rows.Given as goal

abbrev pub invariant-loop-r : goal.invariant-loop-r
invariant-loop-r l =
    (l.r ≤ nodes_of l.instance) × RowsCounted (is_attribute l.instance) l.attributes l.r
    × RowsCounted (is_child l.instance) l.children l.r
