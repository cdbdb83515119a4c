use Rattle.std.proofs.Common.{rules}
use Rattle.sets.proofs.Collecting.{collects_by}
use Rattle.matching_marks.proofs.elements_paired.Goals as goal

pub returns : goal.returns
returns c = collects_by (λ k b f. search rules) c.collect.ensures
