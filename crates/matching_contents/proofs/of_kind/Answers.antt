-- The closure asks the kind of the row at a position.
use Rattle.std.proofs.Common.{rules}
use Rattle.sets.proofs.Collecting.{collects_by}
use Rattle.matching_contents.proofs.of_kind.Goals as goal

pub returns : goal.returns
returns c = collects_by (λ k b said. search (rules, said)) c.collect.ensures
