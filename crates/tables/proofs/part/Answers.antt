-- Positions out of order or past the end leave what `between` leaves, and the empty part from the start.
use mathlib.Core.Path.{refl, sym, ◌∙◌, ap}
use mathlib.Core.List.{List}
use Prim.Native.Nat.{ℕ, ◌+◌}
use Rattle.tables.specs.Place.{between}
use Rattle.tables.proofs.Parts.{between_reversed, between_beyond, between_min, in_order_lem, reversed, beyond}
use native.Mathlib.Nat.{le_of_lt}
use Rattle.tables.proofs.part.Goals as goal
use Rattle.tables.proofs.part.Goals.{else-from-to-via-then-from-to+else-from-bytes, else-from-to-via-else-from-to}

pub returns-then-from-bytes : goal.returns-then-from-bytes
returns-then-from-bytes c =
    let a = c.args in
    let e = ap (between a.bytes.now a.from) c.min.ensures ∙ sym (between_min a.bytes.now a.from a.to) in
    record {
      holds = e;
      lies = rw (in_order_lem a.bytes.now a.from a.to c.if-from-to.true c.if-from-bytes.true) (ap
          (λ (l : List ℕ). record { block = a.bytes.ref_ptr.0; offset = a.from + a.bytes.ref_ptr.1; bytes = l }) e);
    }

pub returns : goal.returns
returns c =
    let a = c.args in
    elim c.else-from-to.branch [
      | else-from-to-via-then-from-to+else-from-bytes w ↦ record {
        holds = sym (between_beyond a.bytes.now a.from a.to (le_of_lt w.if-from-bytes.false));
        lies = rw (beyond a.bytes.now a.from a.to w.if-from-to.true w.if-from-bytes.false) refl;
      }
      | else-from-to-via-else-from-to w ↦ record {
        holds = sym (between_reversed a.bytes.now a.from a.to (le_of_lt w.if-from-to.false));
        lies = rw (reversed a.bytes.now a.from a.to w.if-from-to.false) refl;
      }
    ]
