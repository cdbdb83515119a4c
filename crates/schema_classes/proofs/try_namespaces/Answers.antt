-- The invariant: the namespaces to try that are passed have no common name.
use Rattle.schema_classes.proofs.CommonNames.{namespace_stands}
use Rattle.schema_classes.proofs.LeastNames.{found_least}
use Rattle.schema_classes.proofs.Searching.{passed_step, passed_all}
use Rattle.schema_classes.proofs.try_namespaces.Goals as goal

pub returns-in-Some : goal.returns-in-Some
returns-in-Some c =
    found_least c.requires _ _ c.loop-namespace.invariant
    (rw c.in-Some.is at c.try_namespace.ensures)

pub loop-namespace-preserved : goal.loop-namespace-preserved
loop-namespace-preserved c =
    let nothing = rw c.in_default.is at c.try_namespace.ensures in
    passed_step c.loop-namespace.invariant
    (λ x. nothing x.0 x.1) c.next_number-namespace.ensures

pub returns : goal.returns
returns c =
    λ u l h. passed_all c.loop-namespace.invariant (namespace_stands c.requires _ _)
    c.fresh-fresh.ensures c.loop-namespace-test.false u (l, h)
