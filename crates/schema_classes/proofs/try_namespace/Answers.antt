-- The invariant: the local numbers to try that are passed have no common name with the namespace.
use mathlib.Core.Path.{refl}
use Rattle.tables.proofs.Answers.{said_yes}
use Rattle.schema_classes.proofs.CommonNames.{local_stands}
use Rattle.schema_classes.proofs.Searching.{passed_clear, passed_all}
use Rattle.schema_classes.proofs.try_namespace.Goals as goal

pub returns-then-both_hold : goal.returns-then-both_hold
returns-then-both_hold c = (
  refl,
  said_yes c.both_hold.ensures c.if-both_hold.true,
  passed_clear c.loop-local.invariant (local_stands c.requires _ _ _),
)

pub returns : goal.returns
returns c =
    passed_all c.loop-local.invariant (local_stands c.requires _ _ _)
    c.fresh-fresh.ensures c.loop-local-test.false
