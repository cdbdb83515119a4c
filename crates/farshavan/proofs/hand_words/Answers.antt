-- By whether the run fits.
use mathlib.Core.Path.{refl, ◌∙◌, ap}
use native.Mathlib.Omega.{arith}
use Rattle.farshavan.proofs.Handing.{handed_whole, handed_short}
use Rattle.farshavan.specs.Packed.{packed_refusal}
use Rattle.farshavan.proofs.hand_words.Goals as goal

pub returns-then-out-run : goal.returns-then-out-run
returns-then-out-run c =
    handed_short (let z = c.if-out-run.true in omega arith)
    (c.pack_refusal.ensures ∙ ap packed_refusal c.at.ensures) c.zero.ensures

pub returns : goal.returns
returns c =
    handed_whole (let z = c.if-out-run.false in omega arith)
    refl c.lay.ensures
