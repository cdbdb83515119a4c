-- The kinds of name classes; in a table that keeps the rule of rows, that a definition is a row of kind element, start
-- the last row, and a name class of a row a child.
use mathlib.Core.Path.{◌≡◌}
use mathlib.Core.Bool.{true, ◌&&◌, false≢true, and-false}
use mathlib.Core.List.{List}
use Prim.Native.Nat.{ℕ, ◌+◌, ◌<◌}
use lib.Dec.{leb, eqb}
use borrow.Author.Tests.{eq-eqb, eqb-true}
use Rattle.tables.proofs.Booleans.{and_both, either}
use Rattle.schema.specs.Kinds as kind
use Rattle.schema.specs.Rows.{rows_of, kind_of, a_of, b_of, shape_of, sort_of, is_class, is_element, names_a}
use Rattle.schema.specs.RowRule.{field_right, sort_right, uses_before, RowsRight}
use Rattle.schema.specs.declared.Sort.{Sort}
use Rattle.schema.specs.declared.Sort.TheVariants.{Pattern, NameClass, Element, Start, Bad}
use Rattle.schema.specs.declared.Shape.{Shape}
use Rattle.schema.specs.declared.Field.TheVariants.{AClass}
use Rattle.schema.proofs.Fields.{row_right_lem, both_fields}

pub data ClassKind (k : ℕ) : Type 0 where
  any_name : k ≡ kind.any_name → ClassKind k
  ns_name : k ≡ kind.ns_name → ClassKind k
  one_name : k ≡ kind.name → ClassKind k
  name_choice_lem : k ≡ kind.name_choice → ClassKind k

-- of some sorts there is one kind only
data KindOf (k : ℕ) : Sort → Type 0 where
  of_pattern : KindOf k Pattern
  of_class : ClassKind k → KindOf k NameClass
  of_element : k ≡ kind.element → KindOf k Element
  of_start : k ≡ kind.start → KindOf k Start
  of_bad : KindOf k Bad

kind_of_lem : (k : ℕ) → KindOf k (shape_of k).sort
unfolding shape_of
kind_of_lem k =
    either P (leb kind.empty k && leb k kind.text) (λ e. of_pattern) (λ e₁.
    either P (eqb k kind.«data») (λ e. of_pattern) (λ e₂.
    either P (eqb k kind.value) (λ e. of_pattern) (λ e₃.
    either P (eqb k kind.list) (λ e. of_pattern) (λ e₄.
    either P (eqb k kind.attribute) (λ e. of_pattern) (λ e₅.
    either P (eqb k kind.ref) (λ e. of_pattern) (λ e₆.
    either P (eqb k kind.one_or_more) (λ e. of_pattern) (λ e₇.
    either P (leb kind.choice k && leb k kind.interleave) (λ e. of_pattern) (λ e₈.
    either P (eqb k kind.any_name) (λ e. of_class (any_name (eqb-true _ _ e))) (λ e₉.
    either P (eqb k kind.ns_name) (λ e. of_class (ns_name (eqb-true _ _ e))) (λ e₁₀.
    either P (eqb k kind.name) (λ e. of_class (one_name (eqb-true _ _ e))) (λ e₁₁.
    either P (eqb k kind.name_choice) (λ e. of_class (name_choice_lem (eqb-true _ _ e))) (λ e₁₂.
    either P (eqb k kind.element) (λ e. of_element (eqb-true _ _ e)) (λ e₁₃.
    either P (eqb k kind.start) (λ e. of_start (eqb-true _ _ e)) (λ e₁₄. of_bad))))))))))))))
  where
    P : Shape → Type 0
    P shape = KindOf k shape.sort

is_definition_lem : {k : ℕ} {x : Sort} → KindOf k x → is_element x ≡ true → k ≡ kind.element
is_definition_lem of_pattern e = absurd (false≢true e)
is_definition_lem (of_class c) e = absurd (false≢true e)
is_definition_lem (of_element f) e = f
is_definition_lem (of_start f) e = absurd (false≢true e)
is_definition_lem of_bad e = absurd (false≢true e)

pub definition_kind : (s : List ℕ) (d : ℕ) → is_element (sort_of s d) ≡ true → kind_of s d ≡ kind.element
definition_kind s d e = is_definition_lem (kind_of_lem (kind_of s d)) e

is_class_lem : {k : ℕ} {x : Sort} → KindOf k x → is_class x ≡ true → ClassKind k
is_class_lem of_pattern e = absurd (false≢true e)
is_class_lem (of_class c) e = c
is_class_lem (of_element f) e = absurd (false≢true e)
is_class_lem (of_start f) e = absurd (false≢true e)
is_class_lem of_bad e = absurd (false≢true e)

pub class_kind : (s : List ℕ) (c : ℕ) → is_class (sort_of s c) ≡ true → ClassKind (kind_of s c)
class_kind s c e = is_class_lem (kind_of_lem (kind_of s c)) e

-- the last row can only be start
is_start : {k : ℕ} {x : Sort} (uses : ℕ) → KindOf k x → sort_right x uses true ≡ true → k ≡ kind.start
is_start uses of_pattern e = absurd (false≢true (rw (and-false (eqb uses 1)) at e))
is_start uses (of_class c) e = absurd (false≢true (rw (and-false (eqb uses 1)) at e))
is_start uses (of_element f) e = absurd (false≢true e)
is_start uses (of_start f) e = f
is_start uses of_bad e = absurd (false≢true e)

module _ (strings : ℕ) (s : List ℕ) (right : RowsRight strings s) (r : ℕ) (h : r < rows_of s) where
  pub last_kind : r + 1 ≡ rows_of s → kind_of s r ≡ kind.start
  last_kind e =
      let fields = field_right strings s r (shape_of (kind_of s r)).a (a_of s r)
      && field_right strings s r (shape_of (kind_of s r)).b (b_of s r) in
      let t = (and_both fields (sort_right (sort_of s r) (uses_before s r (rows_of s)) (eqb (r + 1) (rows_of s)))
      (row_right_lem strings s right r h)).1 in
      is_start (uses_before s r (rows_of s)) (kind_of_lem (kind_of s r)) (rw (eq-eqb (r + 1) (rows_of s) e) at t)

  pub class_a : (k : ℕ) → kind_of s r ≡ k → (shape_of k).a ≡ AClass → names_a s r ≡ true
  class_a k e f = rw (e, f) (rw (e, f) at (both_fields strings s right r h).0)
