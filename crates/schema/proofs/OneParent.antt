-- In a table that keeps the rule of rows a child has one parent, through one field; so the rows above a row stand in
-- one line.
use mathlib.Core.Path.{◌≡◌, refl, sym, ◌∙◌, ap, subst}
use mathlib.Core.Bool.{Bool, true, ◌&&◌, false≢true}
use mathlib.Core.Logic.{◌≢◌, ◌⊎◌, inl, inr}
use mathlib.Core.List.{List}
use Prim.Native.Nat.{ℕ, zero, suc, ◌+◌, ◌<◌, ◌≤◌}
use native.Mathlib.Decide.{dec_lt, ℕ_discrete}
use native.Mathlib.Omega.{arith}
use lib.Dec.{ltb, eqb}
use borrow.Author.Tests.{eq-eqb, eqb-true}
use Rattle.tables.proofs.Booleans.{and_left, and_right}
use Rattle.schema.specs.Rows.{rows_of, kind_of, a_of, b_of, shape_of, sort_of, is_pattern}
use Rattle.schema.specs.Rows.{is_class, names, names_a, names_b, child_a, child_b}
use Rattle.schema.specs.RowRule.{field_right, is_row, uses_before, sort_right, RowsRight}
use Rattle.schema.specs.Relations.{Child, by_a, by_b, Below, child, deeper}
use Rattle.schema.specs.declared.Sort.{Sort}
use Rattle.schema.specs.declared.Sort.TheVariants.{Pattern, NameClass, Element, Start, Bad}
use Rattle.schema.specs.declared.Field.{Field}
use Rattle.schema.specs.declared.Field.TheVariants.{Unused, APattern, PatternOrNone, AClass, ClassOrNone}
use Rattle.schema.specs.declared.Field.TheVariants.{Definition, Datatype, StringNumber, Local}
use Rattle.schema.proofs.Children.{child_less, child_is}
use Rattle.schema.proofs.Fields.{row_right_lem}
use Rattle.schema.proofs.RowLaws.{in_table, right_size}

module _ (s : List ℕ) (r : ℕ) where
  -- how often row r is a child of row p
  abbrev uses_at : ℕ → ℕ
  uses_at p = is_row r (child_a s p) + is_row r (child_b s p)

  used : (n p : ℕ) → p < n → uses_at p ≤ uses_before s r n
  unfolding uses_before
  used zero p h = absurd (omega arith)
  used (suc n) p h = go (used n p) (ℕ_discrete p n)
    where
      go : (p < n → uses_at p ≤ uses_before s r n) → Dec (p ≡ n)
          → uses_at p ≤ uses_before s r n + is_row r (child_a s n) + is_row r (child_b s n)
      go earlier (yes e) = rw e (omega arith)
      go earlier (no f) = let l = earlier (omega arith) in omega arith

  used_twice : (n p q : ℕ) → p < q → q < n → uses_at p + uses_at q ≤ uses_before s r n
  unfolding uses_before
  used_twice zero p q l h = absurd (omega arith)
  used_twice (suc n) p q l h = go (used_twice n p q l) (ℕ_discrete q n)
    where
      go : (q < n → uses_at p + uses_at q ≤ uses_before s r n) → Dec (q ≡ n)
          → uses_at p + uses_at q ≤ uses_before s r n + is_row r (child_a s n) + is_row r (child_b s n)
      go earlier (yes e) = let k = used n p (omega arith) in rw e (omega arith)
      go earlier (no f) = let k = earlier (omega arith) in omega arith

  by_field : (x : ℕ) → x ≡ r → is_row r x ≡ 1
  by_field x e = rw (eq-eqb x r e)

  child_used : {p : ℕ} → Child s r p → 1 ≤ uses_at p
  child_used {p} c = go (child_is c)
    where
      go : (child_a s p ≡ r) ⊎ (child_b s p ≡ r) → 1 ≤ uses_at p
      go (inl e) = omega (arith, by_field (child_a s p) e)
      go (inr e) = omega (arith, by_field (child_b s p) e)

-- a child is a pattern or a name class
named_sort : (s : List ℕ) (p : ℕ) (f : Field) (x : ℕ) → names s p f x ≡ true
    → (is_pattern (sort_of s x) ≡ true) ⊎ (is_class (sort_of s x) ≡ true)
named_sort s p Unused x e = absurd (false≢true e)
named_sort s p APattern x e = inl (and_right (ltb x p) (is_pattern (sort_of s x)) e)
named_sort s p PatternOrNone x e = inl (and_right (ltb x p) (is_pattern (sort_of s x)) e)
named_sort s p AClass x e = inr (and_right (ltb x p) (is_class (sort_of s x)) e)
named_sort s p ClassOrNone x e = inr (and_right (ltb x p) (is_class (sort_of s x)) e)
named_sort s p Definition x e = absurd (false≢true e)
named_sort s p Datatype x e = absurd (false≢true e)
named_sort s p StringNumber x e = absurd (false≢true e)
named_sort s p Local x e = absurd (false≢true e)

pub child_sort : {s : List ℕ} {r p : ℕ} → Child s r p → (is_pattern (sort_of s r) ≡ true)
    ⊎ (is_class (sort_of s r) ≡ true)
child_sort {s} {r} {p} (by_a n e) = rw e at (named_sort s p (shape_of (kind_of s p)).a (a_of s p) n)
child_sort {s} {r} {p} (by_b n e) = rw e at (named_sort s p (shape_of (kind_of s p)).b (b_of s p) n)

-- and such a row is used once
used_once : (x : Sort) (uses : ℕ) (last : Bool)
    → (is_pattern x ≡ true) ⊎ (is_class x ≡ true) → sort_right x uses last ≡ true → uses ≡ 1
used_once Pattern uses last i e = eqb-true uses 1 (and_left (eqb uses 1) _ e)
used_once NameClass uses last i e = eqb-true uses 1 (and_left (eqb uses 1) _ e)
used_once Element uses last (inl i) e = absurd (false≢true i)
used_once Element uses last (inr i) e = absurd (false≢true i)
used_once Start uses last (inl i) e = absurd (false≢true i)
used_once Start uses last (inr i) e = absurd (false≢true i)
used_once Bad uses last i e = absurd (false≢true e)

module _ {strings : ℕ} {s : List ℕ} (right : RowsRight strings s) where
  -- parent and child are rows of the table
  sorted_row : {r : ℕ} → (is_pattern (sort_of s r) ≡ true) ⊎ (is_class (sort_of s r) ≡ true) → r < rows_of s
  unfolding shape_of
  sorted_row {r} i = in_table (right_size right) (λ z. go z i)
    where
      go : kind_of s r ≡ 0 → (is_pattern (sort_of s r) ≡ true) ⊎ (is_class (sort_of s r) ≡ true) → ⊥
      go z (inl e) = false≢true (sym (ap (λ (k : ℕ). is_pattern (shape_of k).sort) z) ∙ e)
      go z (inr e) = false≢true (sym (ap (λ (k : ℕ). is_class (shape_of k).sort) z) ∙ e)

  pub parent_row : {r p : ℕ} → Child s r p → p < rows_of s
  unfolding shape_of
  parent_row {r} {p} c = in_table (right_size right) (λ z. go z c)
    where
      go : kind_of s p ≡ 0 → Child s r p → ⊥
      go z (by_a n e) = false≢true (rw z at n)
      go z (by_b n e) = false≢true (rw z at n)

  child_uses : {r p : ℕ} → Child s r p → uses_before s r (rows_of s) ≡ 1
  child_uses {r} c =
      let i = child_sort c in
      let fields = field_right strings s r (shape_of (kind_of s r)).a (a_of s r)
      && field_right strings s r (shape_of (kind_of s r)).b (b_of s r) in
      used_once (sort_of s r) (uses_before s r (rows_of s)) (eqb (r + 1) (rows_of s))
      i (and_right fields _ (row_right_lem strings s right r (sorted_row i)))

  pub one_parent : {r p q : ℕ} → Child s r p → Child s r q → p ≡ q
  one_parent {r} {p} {q} c d = go (ℕ_discrete p q) (dec_lt p q)
    where
      go : Dec (p ≡ q) → Dec (p < q) → p ≡ q
      go (yes e) l = e
      go (no f) (yes l) =
          absurd (omega
          (arith, child_uses c, used_twice s r (rows_of s) p q l (parent_row d), child_used s r c, child_used s r d))
      go (no f) (no l) =
          absurd (omega (
            arith,
            child_uses c,
            used_twice s r (rows_of s) q p (omega arith) (parent_row c),
            child_used s r c,
            child_used s r d,
          ))

  -- the two fields of a row name two rows
  pub two_children : (p : ℕ) → names_a s p ≡ true → names_b s p ≡ true → a_of s p ≢ b_of s p
  two_children p m n e =
      let a : child_a s p ≡ a_of s p = rw m in
      let b : child_b s p ≡ a_of s p = rw (n, e) in
      omega (
        arith,
        child_uses (by_a m refl),
        used s (a_of s p) (rows_of s) p (parent_row (by_a m refl)),
        by_field s (a_of s p) (child_a s p) a,
        by_field s (a_of s p) (child_b s p) b,
      )

-- a is i or above it, step by step from i up
pub data Upward (s : List ℕ) (a : ℕ) : ℕ → Type 0 where
  arrived : Upward s a a
  upward : {i j : ℕ} → Child s i j → Upward s a j → Upward s a i

module _ {s : List ℕ} where
  -- one step more at the top
  pub upward_more : {a i b : ℕ} → Child s a b → Upward s a i → Upward s b i
  upward_more c arrived = upward c arrived
  upward_more c (upward d u) = upward d (upward_more c u)

  pub below_upward : {i a : ℕ} → Below s i a → Upward s a i
  below_upward (child c) = upward c arrived
  below_upward (deeper c b) = upward_more c (below_upward b)

  pub upward_less : {a i : ℕ} → Upward s a i → i ≤ a
  upward_less arrived = omega arith
  upward_less (upward c u) = omega (arith, child_less c, upward_less u)

module _ {strings : ℕ} {s : List ℕ} (right : RowsRight strings s) where
  -- what is above a row is the row, or is above its parent
  pub parent_upward : {i j a : ℕ} → Child s i j → Upward s a i → (a ≡ i) ⊎ Upward s a j
  parent_upward c arrived = inl refl
  parent_upward {a = a} c (upward d u) = inr (subst (Upward s a) (one_parent right d c) u)

  -- of two rows above a row one is above the other
  pub in_line : {a i b : ℕ} → Upward s a i → Upward s b i → Upward s a b ⊎ Upward s b a
  in_line arrived v = inr v
  in_line {a = a} {b = b} (upward {i = i} {j = j} c u) v = go (λ w. in_line u w) (parent_upward c v)
    where
      go : (Upward s b j → Upward s a b ⊎ Upward s b a) → (b ≡ i) ⊎ Upward s b j → Upward s a b ⊎ Upward s b a
      go below (inl e) = inl (subst (Upward s a) (sym e) (upward c u))
      go below (inr w) = below w

  -- no row is below two children of a row
  pub apart_below : {i a b p : ℕ} → Child s a p → Child s b p → a ≢ b → Upward s a i → Upward s b i → ⊥
  apart_below {a = a} {b = b} {p = p} c d other u v = go (in_line u v)
    where
      -- a row above a child of p, and below p, is the child
      only : {x y : ℕ} → Child s x p → Child s y p → Upward s x y → x ≡ y
      only h k w = first h (parent_upward k w)
        where
          first : {x y : ℕ} → Child s x p → (x ≡ y) ⊎ Upward s x p → x ≡ y
          first h (inl e) = e
          first h (inr w) = absurd (omega (arith, child_less h, upward_less w))

      go : Upward s a b ⊎ Upward s b a → ⊥
      go (inl w) = other (only c d w)
      go (inr w) = other (sym (only d c w))
