-- The closure asks whether an item is no whitespace.
use Rattle.std.proofs.Common.{rules}
use Rattle.sets.proofs.Collecting.{collects_by}
use Rattle.matching_pairs.proofs.solid.Goals as goal

pub returns : goal.returns
returns c = collects_by (λ k b said. search (rules, said)) c.collect.ensures
