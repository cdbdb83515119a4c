-- The small model: two names that no row of a class tells apart are both in the class, or both not.
use Prim.Native.Nat.{ℕ, zero, suc, ◌≤◌, ◌<◌}
use mathlib.Core.Path.{◌≡◌, refl, sym, ◌∙◌, ap, ap₂}
use mathlib.Core.Bool.{Bool, true, false, not, ◌&&◌, ◌||◌}
use mathlib.Core.List.{List}
use native.Mathlib.Decide.{dec_lt}
use native.Mathlib.Omega.{arith}
use lib.Dec.{eqb}
use lib.ListN.{get_or-eq_default}
use borrow.Author.Tests.{lt-ltb}
use Rattle.schema.specs.Falling.{upto}
use Rattle.schema.specs.Kinds as kind
use Rattle.schema.specs.Relations.{Child}
use Rattle.schema.specs.RowRule.{max_rows}
use Rattle.schema.specs.Rows.{rows_of, kind_of, a_of, b_of, shape_of, sort_of, is_class}
use Rattle.schema.proofs.Falling.{upto_below, upto_above}
use Rattle.schema.proofs.Sorts.{ClassKind, any_name, ns_name, one_name, name_choice_lem, class_kind}
use Rattle.schema_classes.specs.Membership.{holds, in_class}
use Rattle.schema_classes.specs.Made.{RowIn, itself, within}
use Rattle.schema_classes.proofs.ClassRows.{no_class, child_a_lem, child_b_lem}
use Rattle.schema_classes.proofs.Holds.{step, Read, holds_any_name, holds_ns_name, holds_name, holds_name_choice}

-- a row past a table is no class
pub class_low : (s : List ℕ) (c : ℕ) → rows_of s ≤ max_rows → is_class (sort_of s c) ≡ true → c ≤ max_rows
class_low s c h k = go (dec_lt max_rows c) (class_kind s c k)
  where
    past : max_rows < c → kind_of s c ≡ 0
    past l = get_or-eq_default s 0 (omega arith)

    go : Dec (max_rows < c) → ClassKind (kind_of s c) → c ≤ max_rows
    go (no n) d = omega arith
    go (yes l) (any_name e) = let z = past l in absurd (omega arith)
    go (yes l) (ns_name e) = let z = past l in absurd (omega arith)
    go (yes l) (one_name e) = let z = past l in absurd (omega arith)
    go (yes l) (name_choice_lem e) = let z = past l in absurd (omega arith)

module _ (s : List ℕ) (u l u' l' : ℕ) where
  -- row r, if it is an nsName or a name, holds both names or neither
  pub record Alike (r : ℕ) : Type 0 where
    pub spaces : kind_of s r ≡ kind.ns_name → eqb u (a_of s r) ≡ eqb u' (a_of s r)
    pub names : kind_of s r ≡ kind.name
        → (eqb u (a_of s r) && eqb l (b_of s r)) ≡ (eqb u' (a_of s r) && eqb l' (b_of s r))

  abbrev Same : ℕ → Type 0
  Same c = ((r : ℕ) → RowIn s r c → Alike r) → holds s u l c ≡ holds s u' l' c

  -- a field of row c, by what the classes at smaller rows hold
  below : (c x : ℕ) → (x < c → is_class (sort_of s x) ≡ true → holds s u l x ≡ holds s u' l' x)
      → upto (step s u l) c x ≡ upto (step s u' l') c x
  unfolding holds
  below c x same = go (dec_lt x c) (is_class (sort_of s x)) refl
    where
      go : Dec (x < c) → (t : Bool) → is_class (sort_of s x) ≡ t → upto (step s u l) c x ≡ upto (step s u' l') c x
      go (yes h) true e = upto_below (step s u l) c x h ∙ same h e ∙ sym (upto_below (step s u' l') c x h)
      go (yes h) false e =
          upto_below (step s u l) c x h ∙ no_class s u l x e
          ∙ sym (no_class s u' l' x e) ∙ sym (upto_below (step s u' l') c x h)
      go (no h) t e = upto_above (step s u l) c x (omega arith) ∙ sym (upto_above (step s u' l') c x (omega arith))

  module _ (rows : rows_of s ≤ max_rows) where
    by_kind : (c : ℕ) → ((x : ℕ) → x < c → Same x) → Same c
    unfolding shape_of
    by_kind c same alike = start (is_class (sort_of s c)) refl
      where
        read : Read s c (kind_of s c) (a_of s c) (b_of s c)
        read = record { kind = refl; first = refl; second = refl }

        go : is_class (sort_of s c) ≡ true → c ≤ max_rows → ClassKind (kind_of s c) → holds s u l c ≡ holds s u' l' c
        go class low d = at_kind d
          where
            at : (x : ℕ) → (x < c → is_class (sort_of s x) ≡ true → Child s x c)
                → upto (step s u l) c x ≡ upto (step s u' l') c x
            at x child = below c x (λ k e. same x k (λ r i. alike r (within class (child k e) i)))

            at_kind : ClassKind (kind_of s c) → holds s u l c ≡ holds s u' l' c
            at_kind (any_name k) =
                holds_any_name s u l c read (omega arith) k
                ∙ ap not (at (a_of s c) (child_a_lem s c kind.any_name (λ x. refl) k))
                ∙ sym (holds_any_name s u' l' c read (omega arith) k)
            at_kind (ns_name k) =
                holds_ns_name s u l c read (omega arith) k
                ∙ ap₂ (λ x y. x && not y) ((alike c itself).spaces k)
                (at (b_of s c) (child_b_lem s c kind.ns_name (λ x. refl) k))
                ∙ sym (holds_ns_name s u' l' c read (omega arith) k)
            at_kind (one_name k) =
                holds_name s u l c read k ∙ (alike c itself).names k ∙ sym (holds_name s u' l' c read k)
            at_kind (name_choice_lem k) =
                holds_name_choice s u l c read k
                ∙ ap₂ ◌||◌ (at (a_of s c) (child_a_lem s c kind.name_choice (λ x. refl) k))
                (at (b_of s c) (child_b_lem s c kind.name_choice (λ x. refl) k))
                ∙ sym (holds_name_choice s u' l' c read k)

        start : (t : Bool) → is_class (sort_of s c) ≡ t → holds s u l c ≡ holds s u' l' c
        start true e = go e (class_low s c rows e) (class_kind s c e)
        start false e = no_class s u l c e ∙ sym (no_class s u' l' c e)

    upto_same : (n c : ℕ) → c < n → Same c
    upto_same zero c k = absurd (omega arith)
    upto_same (suc n) c k = by_kind c (λ x i. upto_same n x (omega arith))

    pub same_in_class : (c : ℕ) → ((r : ℕ) → RowIn s r c → Alike r) → 0 < l → 0 < l'
        → in_class s u l c ≡ in_class s u' l' c
    same_in_class c alike k k' = rw (lt-ltb 0 l k, lt-ltb 0 l' k') (upto_same (suc c) c (omega arith) alike)
