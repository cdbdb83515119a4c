-- ISO/IEC 19757-2, 9.2: which names are in a class, a theorem for each rule. As equations they also say that no other
-- name is. The parts stand at smaller rows.
use Prim.Native.Nat.{ℕ, ◌<◌}
use mathlib.Core.Path.{◌≡◌, ◌∙◌, ap, ap₂}
use mathlib.Core.Bool.{Bool, true, not, ◌&&◌, ◌||◌, or-true}
use mathlib.Core.List.{List}
use lib.Dec.{eqb}
use Rattle.schema.specs.Views.{any_name, any_name_except, ns_name, ns_name_except, name, name_choice, class_of}
use Rattle.schema.proofs.Falling.{upto_below}
use Rattle.schema_classes.specs.Membership.{holds}
use Rattle.schema_classes.proofs.Holds.{step}

module _ (s : List ℕ) (u l c : ℕ) where
  -- (anyName 1)
  pub any_name_1 : class_of s c ≡ any_name → holds s u l c ≡ true
  unfolding holds
  any_name_1 e = rw e

  -- (nsName 1)
  pub ns_name_1 : {v : ℕ} → class_of s c ≡ ns_name v → holds s u l c ≡ eqb u v
  unfolding holds
  ns_name_1 e = rw e

  -- (name)
  pub a_name : {v k : ℕ} → class_of s c ≡ name v k → holds s u l c ≡ (eqb u v && eqb l k)
  unfolding holds
  a_name e = rw e

  module _ {d : ℕ} (below : d < c) where
    -- (anyName 2)
    pub any_name_2 : class_of s c ≡ any_name_except d → holds s u l c ≡ not (holds s u l d)
    unfolding holds
    any_name_2 e = rw e (ap not (upto_below (step s u l) c d below))

    -- (nsName 2)
    pub ns_name_2 : {v : ℕ} → class_of s c ≡ ns_name_except v d → holds s u l c ≡ (eqb u v && not (holds s u l d))
    unfolding holds
    ns_name_2 {v} e = rw e (ap (λ (x : Bool). eqb u v && not x) (upto_below (step s u l) c d below))

    module _ {e : ℕ} (below' : e < c) (is : class_of s c ≡ name_choice d e) where
      pub name_choice_lem : holds s u l c ≡ (holds s u l d || holds s u l e)
      unfolding holds
      name_choice_lem = rw is (ap₂ ◌||◌ (upto_below (step s u l) c d below) (upto_below (step s u l) c e below'))

      -- (name choice 1)
      pub name_choice_1 : holds s u l d ≡ true → holds s u l c ≡ true
      name_choice_1 h = name_choice_lem ∙ ap (λ (x : Bool). x || holds s u l e) h

      -- (name choice 2)
      pub name_choice_2 : holds s u l e ≡ true → holds s u l c ≡ true
      name_choice_2 h = name_choice_lem ∙ ap (λ (x : Bool). holds s u l d || x) h ∙ or-true (holds s u l d)
