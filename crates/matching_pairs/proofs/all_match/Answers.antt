-- The pair 0, n of the relation is position n of its first word.
use Rattle.matching.specs.Setting.{Related}
use Rattle.matching_pairs.proofs.Fitting.{word_tells}
use Rattle.matching_pairs.proofs.all_match.Goals as goal

pub returns : goal.returns
returns c =
    λ S q covered.
    let x = c.args in
    word_tells x.n c.relate.new.work
    (Related S _ x.a x.k x.p) (c.relate.ensures S q covered)
    c.word.ensures c.has.ensures
