-- What the fields of a row hold, in a table that keeps the rule of rows.
use mathlib.Core.Path.{◌≡◌, refl}
use mathlib.Core.Bool.{Bool, true, false, ◌&&◌, false≢true}
use mathlib.Core.Logic.{◌⊎◌, inl, inr}
use mathlib.Core.List.{List}
use Prim.Native.Nat.{ℕ, ◌+◌, ◌<◌}
use native.Mathlib.Omega.{arith}
use native.Mathlib.Decide.{ℕ_discrete}
use lib.Dec.{ltb, leb, eqb}
use borrow.Author.Tests.{eqb-true, leb-true}
use Rattle.tables.proofs.Booleans.{and_both, or_either, either}
use Rattle.schema.specs.Kinds as kind
use Rattle.schema.specs.Rows.{rows_of, kind_of, a_of, b_of, shape_of, sort_of, is_pattern, names, names_a, names_b}
use Rattle.schema.specs.RowRule.{field_right, sort_right, uses_before, row_right, RowsRight, bad_row}
use Rattle.schema.specs.declared.Shape.{Shape}
use Rattle.schema.specs.declared.Field.TheVariants.{APattern, PatternOrNone}

module _ (strings : ℕ) (s : List ℕ) (right : RowsRight strings s) (r : ℕ) (h : r < rows_of s) where
  pub row_right_lem : row_right strings s r (uses_before s r (rows_of s)) ≡ true
  row_right_lem = go (row_right strings s r (uses_before s r (rows_of s))) refl
    where
      go : (b : Bool) → row_right strings s r (uses_before s r (rows_of s)) ≡ b → b ≡ true
      go true e = refl
      go false e = absurd (right r (bad_row (h, e)))

  fields : (field_right strings s r (shape_of (kind_of s r)).a (a_of s r)
      && field_right strings s r (shape_of (kind_of s r)).b (b_of s r)) ≡ true
  fields =
      (and_both _ (sort_right (sort_of s r) (uses_before s r (rows_of s)) (eqb (r + 1) (rows_of s))) row_right_lem).0

  pub both_fields : (field_right strings s r (shape_of (kind_of s r)).a (a_of s r) ≡ true)
      × (field_right strings s r (shape_of (kind_of s r)).b (b_of s r) ≡ true)
  both_fields =
      and_both (field_right strings s r (shape_of (kind_of s r)).a (a_of s r))
      (field_right strings s r (shape_of (kind_of s r)).b (b_of s r)) fields

  -- a field that holds a pattern names a child
  pub pattern_a : (k : ℕ) → kind_of s r ≡ k → (shape_of k).a ≡ APattern
      → (names_a s r ≡ true) × (is_pattern (sort_of s (a_of s r)) ≡ true)
  pattern_a k e f =
      let n : names s r APattern (a_of s r) ≡ true = rw (e, f) at both_fields.0 in
      (rw (e, f) n, (and_both (ltb (a_of s r) r) (is_pattern (sort_of s (a_of s r))) n).1)

  pub pattern_b : (k : ℕ) → kind_of s r ≡ k → (shape_of k).b ≡ APattern
      → (names_b s r ≡ true) × (is_pattern (sort_of s (b_of s r)) ≡ true)
  pattern_b k e f =
      let n : names s r APattern (b_of s r) ≡ true = rw (e, f) at both_fields.1 in
      (rw (e, f) n, (and_both (ltb (b_of s r) r) (is_pattern (sort_of s (b_of s r))) n).1)

  pub pattern_or_none : (k : ℕ) → kind_of s r ≡ k → (shape_of k).b ≡ PatternOrNone
      → (b_of s r ≡ kind.no_row) ⊎ ((names_b s r ≡ true) × (is_pattern (sort_of s (b_of s r)) ≡ true))
  pattern_or_none k e f =
      go (or_either (eqb (b_of s r) kind.no_row) (names s r PatternOrNone (b_of s r)) (rw (e, f) at both_fields.1))
    where
      go : (eqb (b_of s r) kind.no_row ≡ true) ⊎ (names s r PatternOrNone (b_of s r) ≡ true)
          → (b_of s r ≡ kind.no_row) ⊎ ((names_b s r ≡ true) × (is_pattern (sort_of s (b_of s r)) ≡ true))
      go (inl x) = inl (eqb-true _ _ x)
      go (inr n) = inr (rw (e, f) n, (and_both (ltb (b_of s r) r) (is_pattern (sort_of s (b_of s r))) n).1)

-- the kinds of patterns
pub data PatternKind (k : ℕ) : Type 0 where
  is_empty : k ≡ kind.empty → PatternKind k
  is_not_allowed : k ≡ kind.not_allowed → PatternKind k
  is_text : k ≡ kind.text → PatternKind k
  is_data : k ≡ kind.«data» → PatternKind k
  is_value : k ≡ kind.value → PatternKind k
  is_list : k ≡ kind.list → PatternKind k
  is_attribute_lem : k ≡ kind.attribute → PatternKind k
  is_ref : k ≡ kind.ref → PatternKind k
  is_one_or_more : k ≡ kind.one_or_more → PatternKind k
  is_choice : k ≡ kind.choice → PatternKind k
  is_group : k ≡ kind.group → PatternKind k
  is_interleave : k ≡ kind.interleave → PatternKind k

pub pattern_kind : (k : ℕ) → is_pattern (shape_of k).sort ≡ true → PatternKind k
unfolding shape_of
pattern_kind k =
    either P (leb kind.empty k && leb k kind.text) (λ e p. low (and_both (leb kind.empty k) (leb k kind.text) e)) (λ e₁.
    either P (eqb k kind.«data») (λ e p. is_data (eqb-true _ _ e)) (λ e₂.
    either P (eqb k kind.value) (λ e p. is_value (eqb-true _ _ e)) (λ e₃.
    either P (eqb k kind.list) (λ e p. is_list (eqb-true _ _ e)) (λ e₄.
    either P (eqb k kind.attribute) (λ e p. is_attribute_lem (eqb-true _ _ e)) (λ e₅.
    either P (eqb k kind.ref) (λ e p. is_ref (eqb-true _ _ e)) (λ e₆.
    either P (eqb k kind.one_or_more) (λ e p. is_one_or_more (eqb-true _ _ e)) (λ e₇.
    either P (leb kind.choice k && leb k kind.interleave)
    (λ e p. high (and_both (leb kind.choice k) (leb k kind.interleave) e)) (λ e₈.
    either P (eqb k kind.any_name) (λ e. never) (λ e₉.
    either P (eqb k kind.ns_name) (λ e. never) (λ e₁₀.
    either P (eqb k kind.name) (λ e. never) (λ e₁₁.
    either P (eqb k kind.name_choice) (λ e. never) (λ e₁₂.
    either P (eqb k kind.element) (λ e. never) (λ e₁₃.
    either P (eqb k kind.start) (λ e. never) (λ e₁₄. never))))))))))))))
  where
    P : Shape → Type 0
    P shape = is_pattern shape.sort ≡ true → PatternKind k

    never : false ≡ true → PatternKind k
    never e = absurd (false≢true e)

    low : (leb kind.empty k ≡ true) × (leb k kind.text ≡ true) → PatternKind k
    low b = at (ℕ_discrete k kind.empty) (ℕ_discrete k kind.not_allowed)
      where
        at : Dec (k ≡ kind.empty) → Dec (k ≡ kind.not_allowed) → PatternKind k
        at (yes e) d = is_empty e
        at (no f) (yes e) = is_not_allowed e
        at (no f) (no g) = is_text (omega (arith, leb-true kind.empty k b.0, leb-true k kind.text b.1))

    high : (leb kind.choice k ≡ true) × (leb k kind.interleave ≡ true) → PatternKind k
    high b = at (ℕ_discrete k kind.choice) (ℕ_discrete k kind.group)
      where
        at : Dec (k ≡ kind.choice) → Dec (k ≡ kind.group) → PatternKind k
        at (yes e) d = is_choice e
        at (no f) (yes e) = is_group e
        at (no f) (no g) =
            is_interleave (omega (arith, leb-true kind.choice k b.0, leb-true k kind.interleave b.1))
