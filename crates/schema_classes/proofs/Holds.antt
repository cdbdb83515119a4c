-- What a class holds, by the kind and the fields of its row.
use Prim.Native.Nat.{ℕ, ◌≤◌}
use mathlib.Core.Path.{◌≡◌, refl, sym, ◌∙◌}
use mathlib.Core.Bool.{Bool, true, false, not, cond, ◌&&◌, ◌||◌, and-true}
use mathlib.Core.List.{List}
use native.Mathlib.Omega.{arith}
use lib.Dec.{eqb}
use borrow.Author.Tests.{eqb-true, ne_eqb}
use Rattle.schema.specs.Falling.{upto}
use Rattle.schema.specs.Kinds as kind
use Rattle.schema.specs.Rows.{kind_of, a_of, b_of}
use Rattle.schema.specs.Views.{any_name, any_name_except, ns_name, ns_name_except, class_of, class_by}
use Rattle.schema.proofs.Falling.{upto_above}
use Rattle.schema_classes.specs.Membership.{member_by, holds}

abbrev pub step : List ℕ → ℕ → ℕ → ℕ → (ℕ → Bool) → Bool
step s u l = λ row below. member_by below u l (class_of s row)

-- what the code has read of a row
pub record Read (s : List ℕ) (row k a b : ℕ) : Type 0 where
  pub kind : k ≡ kind_of s row
  pub first : a ≡ a_of s row
  pub second : b ≡ b_of s row

module _ (s : List ℕ) (u l row : ℕ) where
  module _ {k a b : ℕ} (read : Read s row k a b) where
    -- the number of no row is no smaller row: it holds nothing, so that an except of it takes nothing away
    module _ (low : row ≤ kind.no_row) where
      pub holds_any_name : k ≡ kind.any_name → holds s u l row ≡ not (upto (step s u l) row a)
      unfolding holds class_by
      holds_any_name e = rw (sym read.kind ∙ e, ← read.first) (go (eqb a kind.no_row) refl)
        where
          go : (t : Bool) → eqb a kind.no_row ≡ t
              → member_by (upto (step s u l) row) u l (cond t any_name (any_name_except a))
              ≡ not (upto (step s u l) row a)
          go true f = let g = eqb-true a kind.no_row f in rw (upto_above (step s u l) row a (omega arith))
          go false f = refl

      pub holds_ns_name : k ≡ kind.ns_name → holds s u l row ≡ (eqb u a && not (upto (step s u l) row b))
      unfolding holds class_by
      holds_ns_name e = rw (sym read.kind ∙ e, ← read.first, ← read.second) (go (eqb b kind.no_row) refl)
        where
          go : (t : Bool) → eqb b kind.no_row ≡ t → member_by (upto (step s u l) row) u l
              (cond t (ns_name a) (ns_name_except a b)) ≡ (eqb u a && not (upto (step s u l) row b))
          go true f =
              let g = eqb-true b kind.no_row f in
              rw (upto_above (step s u l) row b (omega arith)) (sym (and-true (eqb u a)))
          go false f = refl

    pub holds_name : k ≡ kind.name → holds s u l row ≡ (eqb u a && eqb l b)
    unfolding holds class_by
    holds_name e = rw (read.first, read.second, sym read.kind ∙ e)

    pub holds_name_choice : k ≡ kind.name_choice
        → holds s u l row ≡ (upto (step s u l) row a || upto (step s u l) row b)
    unfolding holds class_by
    holds_name_choice e = rw (read.first, read.second, sym read.kind ∙ e)

    pub holds_other : (k ≡ kind.any_name → ⊥) → (k ≡ kind.ns_name → ⊥)
        → (k ≡ kind.name → ⊥) → (k ≡ kind.name_choice → ⊥) → holds s u l row ≡ false
    unfolding holds class_by
    holds_other p q r t =
        rw (
          ← read.kind,
          ne_eqb k kind.any_name p,
          ne_eqb k kind.ns_name q,
          ne_eqb k kind.name r,
          ne_eqb k kind.name_choice t,
        )
