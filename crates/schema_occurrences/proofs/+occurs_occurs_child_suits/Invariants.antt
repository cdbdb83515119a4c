-- What is looked for occurs at the pattern or in a child of a connective; the table of comparisons stays right. The row
-- number falls, and a search within a search is of a lower rank.
use Prim.Native.Nat.{◌+◌, ◌*◌, ◌^◌}
use Rattle.schema_occurrences.specs.Occurrences.{rank}
use Rattle.schema_occurrences.proofs.+occurs_occurs_child_suits.Given as goal

abbrev pub decreases-occurs : goal.decreases-occurs
decreases-occurs l = rank l.wanted * 2 ^ 34 + 3 * l.p + 2

abbrev pub decreases-occurs_child : goal.decreases-occurs_child
decreases-occurs_child l = rank l.wanted * 2 ^ 34 + 3 * l.parent

abbrev pub decreases-suits : goal.decreases-suits
decreases-suits l = rank l.wanted * 2 ^ 34 + 3 * l.x + 1
