-- The invariant: the first n words are the rows of e's children that stand before row r, and the words after them are
-- as they were.
use Prim.Native.Nat.{◌≤◌}
use Rattle.instance.specs.Nodes.{is_child}
use Rattle.instance.specs.Elements.{rows_where}
use Rattle.matching_contents.specs.Contents.{Begins}
use Rattle.matching_contents.proofs.children.Given as goal

abbrev pub invariant-loop-r : goal.invariant-loop-r
invariant-loop-r l = (l.n ≤ l.r) × Begins l.initial.rows l.rows (rows_where (is_child l.instance l.e) l.r) l.n
