-- The invariant: each number passed is mentioned. So the numbers passed are no more than the rows, and the search ends.
use Prim.Native.Nat.{◌+◌, ◌-◌}
use Rattle.schema.specs.RowRule.{max_rows}
use Rattle.schema_classes.specs.Search.{OneMentions, least_of}
use Rattle.schema_classes.proofs.Searching.{Counting}
use Rattle.schema_classes.proofs.fresh.Given as goal

abbrev pub invariant-loop-number : goal.invariant-loop-number
invariant-loop-number l = Counting (OneMentions l.schema l.first l.second l.part) (least_of l.part) l.number

abbrev pub decreases-loop-number : goal.decreases-loop-number
decreases-loop-number l = least_of l.part + (max_rows + 1) - l.number
