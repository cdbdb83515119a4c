-- The invariant: no row before r is wrong, each of them but row 0 comes after its parent, and last has the kind of each
-- element's last child among them.
use Prim.Native.Nat.{◌≤◌}
use Rattle.tables.specs.Answers.{Clear}
use Rattle.instance.specs.Nodes.{nodes_of}
use Rattle.instance.specs.Walk.{BadNode, Rooted, LastChildren}
use Rattle.instance_nodes.proofs.scan_nodes.Given as goal

abbrev pub invariant-loop-r : goal.invariant-loop-r
invariant-loop-r l =
    (l.r ≤ nodes_of l.instance) × Clear (BadNode l.strings l.instance) l.r × Rooted l.instance l.r
    × LastChildren l.instance l.last l.r
