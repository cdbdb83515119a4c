-- Code 3: which children a row misplaces, and the faults as what a sweep over the parents marks.
use Prim.Native.Nat.{ℕ}
use mathlib.Core.Path.{◌≡◌}
use mathlib.Core.List.{List}
use native.Mathlib.Omega.{arith}
use Rattle.schema.specs.Relations.{Child}
use Rattle.schema_places.specs.Marks.{MarksExactly}
use Rattle.schema_places.specs.Misplaced.{Misplaced, no_not_allowed, no_empty}
use Rattle.schema_places.specs.Places.{PlaceFault, not_allowed_inside, empty_inside}
use Rattle.schema_places.proofs.Marks.{marks_same}
use Rattle.schema_places.proofs.Sweep.{Swept}

pub marks_places : {s : List ℕ} {m : ℕ} {t : List ℕ} → m ≡ 0
    → MarksExactly (Swept s (Misplaced s) m) t → MarksExactly (PlaceFault s) t
marks_places {s} {m} e = marks_same (λ r w. to w.child w.holds) from
  where
    to : {p r : ℕ} → Child s r p → Misplaced s p r → PlaceFault s r
    to {p} c (no_not_allowed k n) = not_allowed_inside p k c n
    to {p} c (no_empty k n) = empty_inside p k c n

    from : (r : ℕ) → PlaceFault s r → Swept s (Misplaced s) m r
    from r (not_allowed_inside p k c n) = record { row = p; late = omega arith; child = c; holds = no_not_allowed k n }
    from r (empty_inside p k c n) = record { row = p; late = omega arith; child = c; holds = no_empty k n }
