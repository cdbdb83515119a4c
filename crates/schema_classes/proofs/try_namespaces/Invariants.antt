-- The invariant: the namespaces to try that are passed have no common name.
use Prim.Native.Nat.{ℕ, ◌-◌}
use Rattle.schema_classes.specs.Least.{Common}
use Rattle.schema_classes.specs.Search.{no_number, OneMentions}
use Rattle.schema_classes.specs.declared.Part.TheVariants.{Namespace}
use Rattle.schema_classes.proofs.Searching.{Passed}
use Rattle.schema_classes.proofs.try_namespaces.Given as goal

abbrev pub invariant-loop-namespace : goal.invariant-loop-namespace
invariant-loop-namespace l = Passed (OneMentions l.schema l.first l.second Namespace) 0
    (λ u. (local : ℕ) × Common l.schema l.first l.second u local) l.namespace

abbrev pub decreases-loop-namespace : goal.decreases-loop-namespace
decreases-loop-namespace l = no_number - l.namespace
