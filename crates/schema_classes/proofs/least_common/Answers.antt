-- Classes that are apart have no common name, and an nsName holds only names of its namespace; which class comes first
-- is no matter.
use mathlib.Core.Path.{sym, ◌∙◌}
use Rattle.schema_classes.proofs.LeastNames.{swap_common, ns_namespace, one_least}
use Rattle.schema_classes.proofs.least_common.Goals as goal
use Rattle.schema_classes.proofs.least_common.Goals.{then-apart-via-then-apart, then-apart-via-else-apart+then-apart-2}

pub returns-then-apart : goal.returns-then-apart
returns-then-apart c =
    let a = c.args in
    elim c.then-apart.branch [
      | then-apart-via-then-apart w ↦ rw w.if-apart.true at c.apart.ensures
      | then-apart-via-else-apart+then-apart-2 w ↦
          let none-common = rw w.if-apart-2.true at w.apart-else-apart.ensures in
          λ u l h. none-common u l (swap_common a.schema.now a.first a.second u l h)
    ]

pub returns-then-kind-eq-NS_NAME : goal.returns-then-kind-eq-NS_NAME
returns-then-kind-eq-NS_NAME c =
    let a = c.args in
    one_least a.schema.now a.first a.second c.field_a.result
    (λ u l h. ns_namespace a.schema.now a.first c.requires c.field_a.ensures
    (sym c.kind.ensures ∙ c.if-kind-eq-NS_NAME.true) u l h.first)
    c.try_namespace.result c.try_namespace.ensures

pub returns-then-kind-eq-NS_NAME-2 : goal.returns-then-kind-eq-NS_NAME-2
returns-then-kind-eq-NS_NAME-2 c =
    let a = c.args in
    one_least a.schema.now a.first a.second c.field_a-then-kind-eq-NS_NAME-2.result
    (λ u l h. ns_namespace a.schema.now a.second c.requires c.field_a-then-kind-eq-NS_NAME-2.ensures
    (sym c.kind-2.ensures ∙ c.if-kind-eq-NS_NAME-2.true) u l h.second)
    c.try_namespace-then-kind-eq-NS_NAME-2.result c.try_namespace-then-kind-eq-NS_NAME-2.ensures
