-- By whether the text fits.
use mathlib.Core.Path.{refl, ◌∙◌, ap}
use native.Mathlib.Omega.{arith}
use Rattle.farshavan.proofs.Handing.{handed_whole, handed_short}
use Rattle.farshavan.specs.Packed.{packed_refusal}
use Rattle.farshavan.proofs.farshavan_string_text.Goals as goal

pub returns-then-text-part : goal.returns-then-text-part
returns-then-text-part c =
    record {
      part = c.string_text-part.result;
      promise = c.string_text-part.ensures;
      handed = handed_short (let z = c.if-text-part.true in omega arith)
          (c.pack_refusal.ensures ∙ ap packed_refusal c.at.ensures) c.zero.ensures;
    }

pub returns : goal.returns
returns c =
    record {
      part = c.string_text-part.result;
      promise = c.string_text-part.ensures;
      handed = handed_whole (let z = c.if-text-part.false in omega arith)
          refl c.lay.ensures;
    }
