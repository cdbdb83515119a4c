-- The name class is the child of the definition.
use mathlib.Core.Path.{◌∙◌}
use Rattle.schema_occurrences.proofs.class_referred.Goals as goal

pub returns : goal.returns
returns c = c.child_a.ensures ∙ rw c.field_a.ensures
