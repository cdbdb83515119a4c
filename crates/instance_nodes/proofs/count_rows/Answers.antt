-- The invariant: each word counts the rows passed that belong to its row.
use mathlib.Core.Path.{◌≡◌, sym, ◌∙◌, ap}
use Prim.Native.Nat.{ℕ}
use native.Mathlib.Omega.{arith}
use lib.Dec.{eqb}
use lib.ListN.{length, length-replicate}
use Rattle.instance.specs.NodeRule.{max_nodes}
use Rattle.instance.specs.Nodes.{attribute, nodes_of}
use Rattle.instance_nodes.proofs.Counting.{rows_none, counts_low, rows_more}
use Rattle.instance_nodes.proofs.count_rows.Goals as goal

pub loop-r-init : goal.loop-r-init
loop-r-init c = (omega arith, rows_none _ c.requires.1, rows_none _ c.requires.2)

pub count_if-requires : goal.count_if-requires
count_if-requires c =
    omega (
      arith,
      counts_low c.loop-r.invariant.1 c.parent-p.result,
      c.loop-r.invariant.0,
      c.requires.0,
    )

pub count_if-requires-in-loop-r : goal.count_if-requires-in-loop-r
count_if-requires-in-loop-r c =
    omega (
      arith,
      counts_low c.loop-r.invariant.2
          c.parent-p.result,
      c.loop-r.invariant.0,
      c.requires.0,
    )

pub loop-r-preserved : goal.loop-r-preserved
loop-r-preserved c = (
  omega (arith, c.loop-r-test.true),
  rows_more c.loop-r.invariant.1 c.parent-p.result (eqb c.kind-k.result attribute)
      c.count_if.ensures
      (λ e. rw (c.parent-p.ensures, c.kind-k.ensures)),
  rows_more c.loop-r.invariant.2 c.parent-p.result
      c.is_child.result c.count_if-in-loop-r.ensures
      (λ e. rw (c.parent-p.ensures, c.is_child.ensures, c.kind-k.ensures)),
)

pub shape_of-attributes : goal.shape_of-attributes
shape_of-attributes c =
    c.loop-r.invariant.1.size
    ∙ sym (ap length c.requires.1 ∙ length-replicate {A = ℕ} max_nodes 0)

pub shape_of-children : goal.shape_of-children
shape_of-children c =
    c.loop-r.invariant.2.size
    ∙ sym (ap length c.requires.2 ∙ length-replicate {A = ℕ} max_nodes 0)

pub returns : goal.returns
returns c =
    let e : c.loop-r.r ≡ nodes_of c.args.instance.now =
    omega (arith, c.loop-r-test.false, c.loop-r.invariant.0) in
    (rw e at c.loop-r.invariant.1, rw e at c.loop-r.invariant.2)
