-- The invariant: no row before r is wrong, each of them but row 0 comes after its parent, and last has the kind of each
-- element's last child among them.
use mathlib.Core.Path.{◌∙◌, sym, ap}
use Prim.Native.Nat.{ℕ}
use native.Mathlib.Omega.{arith}
use lib.ListN.{length, length-replicate}
use borrow.Author.Count.{below_none, below_more}
use Rattle.tables.proofs.Answers.{said_yes, said_no}
use Rattle.tables.proofs.Checks.{finds_none}
use Rattle.instance.specs.NodeRule.{max_nodes, bad_parent}
use Rattle.instance.proofs.Order.{last_none}
use Rattle.instance.proofs.Ancestors.{rooted_none, rooted_more}
use Rattle.instance_nodes.proofs.scan_nodes.Goals as goal

pub loop-r-init : goal.loop-r-init
loop-r-init c = (omega arith, below_none _, rooted_none _, last_none _ c.requires.1)

pub wrong_node-requires : goal.wrong_node-requires
wrong_node-requires c = (
  omega (arith, c.loop-r-test.true, c.requires.0),
  c.loop-r.invariant.2,
  c.loop-r.invariant.3,
)

pub shape_of-last-then-wrong_node : goal.shape_of-last-then-wrong_node
shape_of-last-then-wrong_node c =
    c.loop-r.invariant.3.size ∙ sym (ap length c.requires.1 ∙ length-replicate {A = ℕ} max_nodes 0)

pub returns-then-wrong_node : goal.returns-then-wrong_node
returns-then-wrong_node c =
    ((c.loop-r-test.true, said_yes c.wrong_node.ensures c.if-wrong_node.true), c.loop-r.invariant.1)

pub note_child-requires : goal.note_child-requires
note_child-requires c = c.loop-r.invariant.3

pub loop-r-preserved : goal.loop-r-preserved
loop-r-preserved c =
    let right = said_no c.wrong_node.ensures c.if-wrong_node.false in (
      omega (arith, c.loop-r-test.true),
      below_more _ _ c.loop-r.invariant.1 (λ f. right f.1),
      rooted_more c.loop-r.invariant.2
          (omega (arith, c.loop-r-test.true, c.requires.0))
          (λ f. right (bad_parent f)),
      c.note_child.ensures,
    )

pub shape_of-last : goal.shape_of-last
shape_of-last c =
    c.loop-r.invariant.3.size
    ∙ sym (ap length c.requires.1 ∙ length-replicate {A = ℕ} max_nodes 0)

pub returns : goal.returns
returns c = finds_none _ c.loop-r.invariant.1 (λ k f. omega (arith, c.loop-r-test.false, f.0))
