-- The gaps where there is no attribute, and otherwise nothing.
use Rattle.matching.proofs.Conditions.{where_holds, where_fails}
use Rattle.matching.proofs.no_items.Goals as goal

pub returns-then-a-eq0 : goal.returns-then-a-eq0
returns-then-a-eq0 c = where_holds c.if-a-eq0.true c.gaps.ensures.is

pub returns : goal.returns
returns c = where_fails c.if-a-eq0.false c.clear.ensures.is
