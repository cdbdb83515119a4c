-- What is marked of the pattern is what is asked.
use Rattle.matching_marks.proofs.mark.Goals as goal

pub returns : goal.returns
returns c =
    record {
      marking = λ T g. c.mark_pattern.ensures T g
          c.requires.row;
    }
