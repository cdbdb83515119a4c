-- Where the leaf is entered, the answer is what it takes.
use mathlib.Core.Path.{refl}
use Rattle.matching_tokens.proofs.Stepping.{told_same}
use Rattle.matching_tokens.proofs.leaf.Goals as goal
use Rattle.matching_tokens.proofs.leaf.Goals.{then-enter, else-enter}

pub returns : goal.returns
returns c =
    let a = c.args in
    record {
      stored = c.put.ensures;
      told = λ t takes right. elim c.if-enter.branch [
        | then-enter w ↦ rw (w.taken-is, w.if-enter.true)
            (told_same w.fits-taken.result (takes a.token.now) (w.fits-taken.ensures t) (right a.token.now))
        | else-enter w ↦ rw (w.taken-is, w.if-enter.false) refl
      ];
    }
