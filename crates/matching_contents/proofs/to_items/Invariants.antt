-- The invariant: the first k rows are items.
use Rattle.matching_contents.specs.Contents.{Itemized}
use Rattle.matching_contents.proofs.to_items.Given as goal

abbrev pub invariant-loop-k : goal.invariant-loop-k
invariant-loop-k l = Itemized l.instance l.initial.rows l.rows l.k
