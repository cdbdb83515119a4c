-- The invariant: the first k rows are items.
use Rattle.matching_contents.proofs.Lists.{itemized_none, itemized_more}
use Rattle.matching_contents.specs.Contents.{item_word}
use mathlib.Core.Path.{◌∙◌, ap}
use Rattle.matching_contents.proofs.to_items.Goals as goal

pub loop-k-init : goal.loop-k-init
loop-k-init c = itemized_none _ _

pub loop-k-preserved : goal.loop-k-preserved
loop-k-preserved c =
    let t = c.args.instance.now in
    itemized_more t c.put.ensures (c.item_word-v.ensures ∙ ap (item_word t) c.at.ensures) c.loop-k.invariant
