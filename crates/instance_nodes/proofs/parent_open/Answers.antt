-- The invariant: the parent of r is on the way up from where the walk began exactly if it is on the way up from e. Rows
-- come after their parents, so that e falls and the walk ends at the parent or past it.
use native.Mathlib.Omega.{arith}
use Rattle.instance.proofs.Ancestors.{told_by_eqb, nearest_before, up_step, open_parent, closed_parent}
use Rattle.instance_nodes.proofs.parent_open.Goals as goal

pub overflow_sub-r : goal.overflow_sub-r
overflow_sub-r c = omega (arith, c.requires.0)

pub loop-e-init : goal.loop-e-init
loop-e-init c =
    let pre = c.requires in
    (rw c.nearest_element-e.ensures (nearest_before pre.1 pre.0), λ u. u, λ u. u)

pub loop-e-smaller : goal.loop-e-smaller
loop-e-smaller c =
    (up_step c.requires.1
    c.loop-e.invariant.0 c.loop-e-test.true c.parent-e.ensures).0

pub loop-e-preserved : goal.loop-e-preserved
loop-e-preserved c =
    let step = up_step c.requires.1
    c.loop-e.invariant.0 c.loop-e-test.true c.parent-e.ensures in (
      omega (arith, step.0, c.loop-e.invariant.0),
      (λ u. c.loop-e.invariant.1 (step.1 u)),
      λ u. step.2 (c.loop-e.invariant.2 u),
    )

pub returns : goal.returns
returns c =
    let inv = c.loop-e.invariant in
    told_by_eqb _ _
    (λ e. open_parent c.requires.1 c.requires.0 c.parent-p.ensures c.nearest_element-e.ensures inv.0 e inv.1)
    (λ n. closed_parent c.requires.1 c.requires.0 c.parent-p.ensures
    c.nearest_element-e.ensures inv.0 n c.loop-e-test.false inv.2)
