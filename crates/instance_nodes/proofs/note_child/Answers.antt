-- The one word that changes is that of the parent.
use mathlib.Core.Path.{sym, ◌∙◌}
use Rattle.instance.proofs.Order.{noted, noted_other}
use Rattle.instance_nodes.proofs.note_child.Goals as goal

pub returns-then-is_child : goal.returns-then-is_child
returns-then-is_child c =
    rw c.put.ensures
    (noted c.requires c.parent.ensures c.kind-k.ensures (sym c.is_child.ensures ∙ c.if-is_child.true))

pub returns-else-is_child : goal.returns-else-is_child
returns-else-is_child c =
    noted_other c.requires c.kind-k.ensures (sym c.is_child.ensures ∙ c.if-is_child.false)
