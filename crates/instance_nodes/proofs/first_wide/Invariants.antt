-- The invariant: no row before e is too wide; the counts of a row are those of its attributes and children.
use Prim.Native.Nat.{◌≤◌}
use Rattle.tables.specs.Answers.{Clear}
use Rattle.instance.specs.Nodes.{nodes_of}
use Rattle.instance.specs.Width.{WidthFault}
use Rattle.instance_nodes.proofs.first_wide.Given as goal

abbrev pub invariant-loop-e : goal.invariant-loop-e
invariant-loop-e l = (l.e ≤ nodes_of l.instance) × Clear (WidthFault l.instance) l.e
