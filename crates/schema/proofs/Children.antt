-- The children of a row, which are smaller rows.
use mathlib.Core.Path.{◌≡◌, refl}
use mathlib.Core.Bool.{Bool, true, false, false≢true}
use mathlib.Core.Logic.{◌⊎◌, inl, inr}
use mathlib.Core.List.{List}
use Prim.Native.Nat.{ℕ, ◌%◌, ◌≤◌, ◌<◌}
use native.Mathlib.Omega.{arith}
use lib.Dec.{ltb}
use lib.ListN.{length, get_or-eq_default}
use borrow.Author.Tests.{ltb-true}
use Rattle.tables.proofs.Booleans.{and_left}
use Rattle.schema.specs.Rows.{rows_of, kind_of, a_of, b_of, shape_of, names, names_a}
use Rattle.schema.specs.Rows.{names_b, child_a, child_b, is_pattern, is_class, sort_of}
use Rattle.schema.specs.Kinds.{no_row}
use Rattle.schema.specs.Relations.{Child, by_a, by_b}
use Rattle.schema.specs.declared.Field.{Field}
use Rattle.schema.specs.declared.Field.TheVariants.{Unused, APattern, PatternOrNone, AClass, ClassOrNone}
use Rattle.schema.specs.declared.Field.TheVariants.{Definition, Datatype, StringNumber, Local}

-- a child is a smaller row
names_less : (s : List ℕ) (p : ℕ) (f : Field) (x : ℕ) → names s p f x ≡ true → x < p
names_less s p Unused x e = absurd (false≢true e)
names_less s p APattern x e = ltb-true x p (and_left (ltb x p) (is_pattern (sort_of s x)) e)
names_less s p PatternOrNone x e = ltb-true x p (and_left (ltb x p) (is_pattern (sort_of s x)) e)
names_less s p AClass x e = ltb-true x p (and_left (ltb x p) (is_class (sort_of s x)) e)
names_less s p ClassOrNone x e = ltb-true x p (and_left (ltb x p) (is_class (sort_of s x)) e)
names_less s p Definition x e = absurd (false≢true e)
names_less s p Datatype x e = absurd (false≢true e)
names_less s p StringNumber x e = absurd (false≢true e)
names_less s p Local x e = absurd (false≢true e)

pub child_less : {s : List ℕ} {p r : ℕ} → Child s r p → r < p
child_less {s} {p} (by_a e f) = rw (← f) (names_less s p (shape_of (kind_of s p)).a (a_of s p) e)
child_less {s} {p} (by_b e f) = rw (← f) (names_less s p (shape_of (kind_of s p)).b (b_of s p) e)

-- the children are childA and childB, where these are rows
pub child_is : {s : List ℕ} {p r : ℕ} → Child s r p → (child_a s p ≡ r) ⊎ (child_b s p ≡ r)
child_is (by_a e f) = inl (rw e f)
child_is (by_b e f) = inr (rw e f)

module _ (s : List ℕ) (p : ℕ) (low : p ≤ no_row) where
  pub child_a_lem : child_a s p < p → Child s (child_a s p) p
  child_a_lem h = go (names_a s p) refl
    where
      go : (b : Bool) → names_a s p ≡ b → Child s (child_a s p) p
      go true e = by_a e (rw e)
      go false e = let l : no_row < p = rw e at h in absurd (omega arith)

  pub child_b_lem : child_b s p < p → Child s (child_b s p) p
  child_b_lem h = go (names_b s p) refl
    where
      go : (b : Bool) → names_b s p ≡ b → Child s (child_b s p) p
      go true e = by_b e (rw e)
      go false e = let l : no_row < p = rw e at h in absurd (omega arith)

-- a child is a smaller row or none
pub child_a_row : (s : List ℕ) (p : ℕ) → (child_a s p < p) ⊎ (child_a s p ≡ no_row)
child_a_row s p = go (names_a s p) refl
  where
    go : (b : Bool) → names_a s p ≡ b → (child_a s p < p) ⊎ (child_a s p ≡ no_row)
    go true e = inl (rw e (names_less s p (shape_of (kind_of s p)).a (a_of s p) e))
    go false e = inr (rw e)

pub child_b_row : (s : List ℕ) (p : ℕ) → (child_b s p < p) ⊎ (child_b s p ≡ no_row)
child_b_row s p = go (names_b s p) refl
  where
    go : (b : Bool) → names_b s p ≡ b → (child_b s p < p) ⊎ (child_b s p ≡ no_row)
    go true e = inl (rw e (names_less s p (shape_of (kind_of s p)).b (b_of s p) e))
    go false e = inr (rw e)

-- past a table of whole rows there is no row
pub kind_past : (s : List ℕ) (r : ℕ) → length s % 3 ≡ 0 → rows_of s ≤ r → kind_of s r ≡ 0
kind_past s r w h = get_or-eq_default s 0 (omega arith)
