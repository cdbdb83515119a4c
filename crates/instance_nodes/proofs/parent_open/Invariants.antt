-- The invariant: the parent of r is on the way up from where the walk began exactly if it is on the way up from e. Rows
-- come after their parents, so that e falls and the walk ends at the parent or past it.
use Prim.Native.Nat.{◌<◌}
use Rattle.instance.specs.NodeRule.{SelfOrAncestor}
use Rattle.instance_nodes.proofs.parent_open.Given as goal

abbrev pub invariant-loop-e : goal.invariant-loop-e
invariant-loop-e l = (l.e < l.r) × (SelfOrAncestor l.instance l.p l.e → SelfOrAncestor l.instance l.p l.initial.e)
    × (SelfOrAncestor l.instance l.p l.initial.e → SelfOrAncestor l.instance l.p l.e)

abbrev pub decreases-loop-e : goal.decreases-loop-e
decreases-loop-e l = l.e
