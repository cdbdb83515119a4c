-- The invariant: the first n words are the rows of e's children that stand before row r, and the words after them are
-- as they were.
use mathlib.Core.Path.{◌≡◌, refl}
use native.Mathlib.Omega.{arith}
use Rattle.tables.proofs.Numbers.{one_or_none}
use Rattle.instance.specs.Nodes.{nodes_of, is_child}
use Rattle.instance.proofs.Elements.{few}
use Rattle.matching_contents.proofs.Lists.{children_none, children_more, children_all}
use Rattle.matching_contents.proofs.children.Goals as goal

pub overflow_step-r : goal.overflow_step-r
overflow_step-r c = omega (arith, few c.requires.right, c.requires.row)

pub overflow_cast-r-end : goal.overflow_cast-r-end
overflow_cast-r-end c = omega (arith, few c.requires.right)

pub loop-r-init : goal.loop-r-init
loop-r-init c =
    let g = c.requires in
    (omega arith, children_none _ _ _ g)

pub returns-then-parent-e : goal.returns-then-parent-e
returns-then-parent-e c =
    let i = c.loop-r.invariant in let p = c.parent.ensures in
    children_all _ _ c.loop-r.r
    c.requires (omega arith) (omega arith) (omega arith) i.1

pub add_child-n-requires : goal.add_child-n-requires
add_child-n-requires c = omega (arith, few c.requires.right, c.loop-r.invariant.0)

pub loop-r-preserved : goal.loop-r-preserved
loop-r-preserved c =
    let s = c.args in let l = c.loop-r in let i = l.invariant in let x = i.0 in
    let m = one_or_none (is_child s.instance.now s.e l.r) refl in
    let a = c.add_child-n.ensures in (
      omega (arith, a.value),
      children_more s.instance.now s.e l.r a.value a.stored i.1,
    )

pub returns : goal.returns
returns c =
    let e : c.loop-r.r ≡ nodes_of c.args.instance.now = omega (arith, c.requires.row) in
    rw e at c.loop-r.invariant.1
