-- A row that is no class holds nothing, a name has no child, and a smaller row that is a class is a child of a row
-- whose field can name one.
use Prim.Native.Nat.{ℕ, ◌<◌}
use mathlib.Core.Path.{◌≡◌, refl, sym, ◌∙◌, ap}
use mathlib.Core.Bool.{Bool, true, false, ◌&&◌, true≢false, false≢true}
use mathlib.Core.List.{List}
use lib.Dec.{ltb}
use borrow.Author.Tests.{lt-ltb}
use Rattle.tables.proofs.Booleans.{and_right}
use Rattle.schema.specs.Kinds as kind
use Rattle.schema.specs.Relations.{Child, by_a, by_b}
use Rattle.schema.specs.Rows.{kind_of, a_of, b_of, shape_of, sort_of, is_class, names}
use Rattle.schema_classes.specs.Membership.{holds, in_class}
use Rattle.schema_classes.proofs.Holds.{holds_other}

-- a row of another sort is no class, and holds nothing
class_kind : (k j : ℕ) → is_class (shape_of j).sort ≡ true → is_class (shape_of k).sort ≡ false → k ≡ j → ⊥
class_kind k j y n e = true≢false (sym y ∙ ap (λ (i : ℕ). is_class (shape_of i).sort) (sym e) ∙ n)

pub no_class : (s : List ℕ) (u l r : ℕ) → is_class (sort_of s r) ≡ false → holds s u l r ≡ false
unfolding shape_of
no_class s u l r n =
    holds_other s u l r (record { kind = refl; first = refl; second = refl })
    (class_kind (kind_of s r) kind.any_name refl n) (class_kind (kind_of s r) kind.ns_name refl n)
    (class_kind (kind_of s r) kind.name refl n) (class_kind (kind_of s r) kind.name_choice refl n)

pub class_held : (s : List ℕ) (u l r : ℕ) → in_class s u l r ≡ true → is_class (sort_of s r) ≡ true
class_held s u l r h = go (is_class (sort_of s r)) refl
  where
    go : (t : Bool) → is_class (sort_of s r) ≡ t → t ≡ true
    go true e = refl
    go false e = absurd (false≢true (sym (no_class s u l r e) ∙ and_right (ltb 0 l) (holds s u l r) h))

-- a name has no child
pub no_part : {s : List ℕ} {q c : ℕ} → kind_of s c ≡ kind.name → ¬ Child s q c
unfolding shape_of
no_part k (by_a e f) = false≢true (rw k at e)
no_part k (by_b e f) = false≢true (rw k at e)

-- a smaller row that is a class, in a field that can name one, is a child
module _ (s : List ℕ) (c k : ℕ) where
  pub child_a_lem : ((x : ℕ) → names s c (shape_of k).a x ≡ (ltb x c && is_class (sort_of s x)))
      → kind_of s c ≡ k → a_of s c < c → is_class (sort_of s (a_of s c)) ≡ true → Child s (a_of s c) c
  child_a_lem f e l h = by_a (rw e (f (a_of s c) ∙ rw (lt-ltb (a_of s c) c l, h))) refl

  pub child_b_lem : ((x : ℕ) → names s c (shape_of k).b x ≡ (ltb x c && is_class (sort_of s x)))
      → kind_of s c ≡ k → b_of s c < c → is_class (sort_of s (b_of s c)) ≡ true → Child s (b_of s c) c
  child_b_lem f e l h = by_b (rw e (f (b_of s c) ∙ rw (lt-ltb (b_of s c) c l, h))) refl
