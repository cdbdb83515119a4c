-- A name takes itself in, and has no except.
use mathlib.Core.Path.{refl, sym}
use borrow.Author.Tests.{eq-eqb, ne_eqb}
use Rattle.schema_classes.proofs.Judging.{name_taken, name_other}
use Rattle.schema_classes.proofs.name_holds.Goals as goal
use Rattle.schema_classes.proofs.name_holds.Goals.{else-field_a-namespace-via-then-field_a-namespace+else-field_b-local}
use Rattle.schema_classes.proofs.name_holds.Goals.{else-field_a-namespace-via-else-field_a-namespace}

pub returns-then-field_b-local : goal.returns-then-field_b-local
returns-then-field_b-local c =
    name_taken _ _ _ c.requires.0
    (record { kind = refl; first = c.field_a.ensures; second = c.field_b.ensures })
    c.requires.1 (sym c.if-field_a-namespace.true) (sym c.if-field_b-local.true)

pub returns : goal.returns
returns c = elim c.else-field_a-namespace.branch [
  | else-field_a-namespace-via-then-field_a-namespace+else-field_b-local w ↦
      name_other _ _ _ c.requires.0
      (record { kind = refl; first = c.field_a.ensures; second = w.field_b.ensures })
      c.requires.1
      (rw (eq-eqb _ _ (sym w.if-field_a-namespace.true), ne_eqb _ _ (λ e. w.if-field_b-local.false (sym e))))
  | else-field_a-namespace-via-else-field_a-namespace w ↦
      name_other _ _ _ c.requires.0 (record { kind = refl; first = c.field_a.ensures; second = refl })
      c.requires.1 (rw (ne_eqb _ _ (λ e. w.if-field_a-namespace.false (sym e))))
]
