-- The gaps where the one attribute is marked, and otherwise nothing.
use mathlib.Core.Path.{sym, ◌∙◌}
use Rattle.matching.proofs.Conditions.{where_holds, where_fails, one_in, one_in_counts, one_in_tests}
use Rattle.matching.proofs.one_attribute.Goals as goal
use Rattle.matching.proofs.one_attribute.Goals.{then-count-eq1+else-a-marked-eq0, else-count-eq1}

pub returns-then-a-marked-eq0 : goal.returns-then-a-marked-eq0
returns-then-a-marked-eq0 c =
    where_holds (one_in _ _ c.ranges.a.fits c.ranges.marked.fits (sym c.count.ensures
    ∙ c.if-count-eq1.true) c.if-a-marked-eq0.true) c.gaps.ensures.is

pub returns : goal.returns
returns c =
    where_fails (λ o. elim c.if-count-eq1.branch [
      | then-count-eq1+else-a-marked-eq0 w ↦
          w.if-a-marked-eq0.false (one_in_tests _ _ c.ranges.a.fits c.ranges.marked.fits o)
      | else-count-eq1 w ↦
          w.if-count-eq1.false (c.count.ensures ∙ one_in_counts _ _ c.ranges.a.fits c.ranges.marked.fits o)
    ]) c.clear.ensures.is
