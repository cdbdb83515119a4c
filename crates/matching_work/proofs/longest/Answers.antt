-- The invariant: the longest attribute value or text of the rows passed, beside any schema.
use mathlib.Core.Path.{refl, ◌∙◌}
use Rattle.matching_work.specs.Work.{longest_before}
use Rattle.matching_work.proofs.Work.{larger, longest_more}
use Rattle.matching_work.proofs.longest.Goals as goal

pub loop-row-init : goal.loop-row-init
unfolding longest_before
loop-row-init c = λ s. refl

pub loop-row-preserved : goal.loop-row-preserved
loop-row-preserved c =
    λ s. c.max-most.ensures ∙ larger _ _ ∙ longest_more _ _ (c.loop-row.invariant s) (c.value_length.ensures s)
