-- The invariant: the x rows right after e are its attributes.
use Rattle.matching_contents.proofs.Lists.{counted_more, counted_last, counted_many}
use mathlib.Core.Path.{ap}
use mathlib.Core.Bool.{not}
use native.Mathlib.Omega.{arith}
use Rattle.matching_contents.proofs.attributes.Goals as goal

pub loop-x-init : goal.loop-x-init
loop-x-init c = λ y h. absurd (omega arith)

pub returns-then-not-is_attribute : goal.returns-then-not-is_attribute
returns-then-not-is_attribute c =
    counted_last _ _ _ c.is_attribute.ensures (ap not c.if-not-is_attribute.true)
    (omega arith) c.loop-x.invariant

pub loop-x-preserved : goal.loop-x-preserved
loop-x-preserved c =
    counted_more c.args.instance.now c.args.e _ c.is_attribute.ensures
    (ap not c.if-not-is_attribute.false) c.loop-x.invariant

pub returns : goal.returns
returns c = counted_many _ _ _ (omega arith) (λ x h. c.loop-x.invariant x (omega arith))
