-- The invariant: the local numbers to try that are passed have no common name with the namespace.
use Prim.Native.Nat.{◌-◌}
use Rattle.schema_classes.specs.Least.{Common}
use Rattle.schema_classes.specs.Search.{no_number, OneMentions}
use Rattle.schema_classes.specs.declared.Part.TheVariants.{LocalBeside}
use Rattle.schema_classes.proofs.Searching.{Passed}
use Rattle.schema_classes.proofs.try_namespace.Given as goal

abbrev pub invariant-loop-local : goal.invariant-loop-local
invariant-loop-local l = Passed (OneMentions l.schema l.first l.second (LocalBeside l.namespace)) 1
    (Common l.schema l.first l.second l.namespace) l.local

abbrev pub decreases-loop-local : goal.decreases-loop-local
decreases-loop-local l = no_number - l.local
