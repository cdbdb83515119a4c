-- The pattern of a row by its kind, as the code takes kinds apart.
use mathlib.Core.Path.{◌≡◌, refl}
use mathlib.Core.Logic.{◌⊎◌, inl, inr, ⊎_elim}
use mathlib.Core.Bool.{true, ◌||◌, false≢true}
use mathlib.Core.List.{List}
use Prim.Native.Nat.{ℕ, suc, ◌≤◌, ◌<◌}
use native.Mathlib.Omega.{arith}
use native.Mathlib.Decide.{ℕ_discrete}
use lib.Dec.{eqb}
use borrow.Author.Tests.{eqb-true}
use Rattle.schema.specs.Kinds as kind
use Rattle.schema.specs.Rows.{rows_of, kind_of, a_of, shape_of, sort_of, is_element}
use Rattle.schema.specs.RowRule.{RowsRight}
use Rattle.schema.specs.Views.{Pattern, text, attribute}
use Rattle.schema.proofs.Fields.{both_fields, is_text, is_data, is_value, is_list}
use Rattle.schema.proofs.Sorts.{definition_kind}
use Rattle.matching_rules.specs.Reach.{Role, one_string, role_of, item_by, string_by, is_sharing, takes_any}
use Rattle.matching_rules.specs.Reach.{takes_string, Operand, repeated, choice_first, choice_second}
use Rattle.matching_rules.specs.Reach.{group_first, group_second, interleave_first, interleave_second}
use Rattle.tables.proofs.Booleans.{or_either}
use Rattle.matching_rules.proofs.KindTests.{HasRole, role_strings, role_string, role_attribute}
use Rattle.matching_rules.proofs.KindTests.{role_element, role_sharing, role_another, has_role}
use Rattle.matching_rules.proofs.RowPatterns.{Makes, makes_empty, makes_not_allowed, makes_text}
use Rattle.matching_rules.proofs.RowPatterns.{makes_data, makes_except, makes_value, makes_list}
use Rattle.matching_rules.proofs.RowPatterns.{makes_attribute, makes_ref, makes_one_or_more, makes_choice}
use Rattle.matching_rules.proofs.RowPatterns.{makes_group, makes_interleave, makes_none, has_kind}

-- the patterns that take a string
pub data StringPattern : Pattern → Type 0 where
  of_text : StringPattern text
  of_string : {x : Pattern} → role_of x ≡ one_string → StringPattern x

string_kind : {k : ℕ} → (eqb k kind.value || eqb k kind.«data» || eqb k kind.list) ≡ true
    → (kind.text ≤ k) × (k < suc kind.list)
string_kind {k} h =
    ⊎_elim
    (λ i. ⊎_elim (λ e. let f = eqb-true k kind.value e in (omega arith, omega arith))
    (λ e. let f = eqb-true k kind.«data» e in (omega arith, omega arith)) (or_either _ _ i))
    (λ e. let f = eqb-true k kind.list e in (omega arith, omega arith))
    (or_either _ _ h)

module _ {k a : ℕ} where
  taker_role : {r : Role} → HasRole k a r → item_by r ≡ true → ((kind.text ≤ k) × (k < suc kind.list)) ⊎ (k ≡ kind.ref)
  taker_role (role_strings e) h = inl (omega arith, omega arith)
  taker_role (role_string e) h = inl (string_kind e)
  taker_role (role_attribute e) h = absurd (false≢true h)
  taker_role (role_element e) h = inr e
  taker_role (role_sharing e) h = absurd (false≢true h)
  taker_role role_another h = absurd (false≢true h)

  string_role : {r : Role} → HasRole k a r → string_by r ≡ true → (kind.text ≤ k) × (k < suc kind.list)
  string_role (role_strings e) h = (omega arith, omega arith)
  string_role (role_string e) h = string_kind e
  string_role (role_attribute e) h = absurd (false≢true h)
  string_role (role_element e) h = absurd (false≢true h)
  string_role (role_sharing e) h = absurd (false≢true h)
  string_role role_another h = absurd (false≢true h)

module _ {k a b : ℕ} where
  pub string_made : {x : Pattern} → kind.text ≤ k → k < suc kind.list → Makes k a b x → StringPattern x
  string_made h l (makes_text e) = of_text
  string_made h l (makes_data e f) = of_string refl
  string_made h l (makes_except e f) = of_string refl
  string_made h l (makes_value e) = of_string refl
  string_made h l (makes_list e) = of_string refl
  string_made h l (makes_empty e) = absurd (omega arith)
  string_made h l (makes_not_allowed e) = absurd (omega arith)
  string_made h l (makes_attribute e) = absurd (omega arith)
  string_made h l (makes_ref e) = absurd (omega arith)
  string_made h l (makes_one_or_more e) = absurd (omega arith)
  string_made h l (makes_choice e) = absurd (omega arith)
  string_made h l (makes_group e) = absurd (omega arith)
  string_made h l (makes_interleave e) = absurd (omega arith)
  string_made h l (makes_none n) =
      absurd (go (ℕ_discrete k kind.text) (ℕ_discrete k kind.«data») (ℕ_discrete k kind.value))
    where
      go : Dec (k ≡ kind.text) → Dec (k ≡ kind.«data») → Dec (k ≡ kind.value) → ⊥
      go (yes e) c d = n (is_text e)
      go (no f) (yes e) d = n (is_data e)
      go (no f) (no g) (yes e) = n (is_value e)
      go (no f) (no g) (no i) = n (is_list (omega arith))

  -- the other way
  pub string_kinds : {x : Pattern} → Makes k a b x → takes_string x ≡ true → (kind.text ≤ k) × (k < suc kind.list)
  string_kinds m h = string_role (has_role m) h

  pub taker_kinds : {x : Pattern} → Makes k a b x → takes_any x ≡ true
      → ((kind.text ≤ k) × (k < suc kind.list)) ⊎ (k ≡ kind.ref)
  taker_kinds m h = taker_role (has_role m) h

  pub from_attribute : {nc q : ℕ} → Makes k a b (attribute nc q) → (k ≡ kind.attribute) × (a ≡ nc) × (b ≡ q)
  from_attribute (makes_attribute e) = (e, refl, refl)

  -- a pattern with operands is a connective, and a group or interleave past choice
  pub operand_kinds : {r : ℕ} {x : Pattern} → Operand r x
      → Makes k a b x → (kind.one_or_more ≤ k) × (k < suc kind.interleave)
  operand_kinds repeated (makes_one_or_more e) = (omega arith, omega arith)
  operand_kinds choice_first (makes_choice e) = (omega arith, omega arith)
  operand_kinds choice_second (makes_choice e) = (omega arith, omega arith)
  operand_kinds group_first (makes_group e) = (omega arith, omega arith)
  operand_kinds group_second (makes_group e) = (omega arith, omega arith)
  operand_kinds interleave_first (makes_interleave e) = (omega arith, omega arith)
  operand_kinds interleave_second (makes_interleave e) = (omega arith, omega arith)

  pub operand_sharing : {r : ℕ} {x : Pattern} → Operand r x → Makes k a b x → kind.group ≤ k → is_sharing x ≡ true
  operand_sharing repeated (makes_one_or_more e) h = absurd (omega arith)
  operand_sharing choice_first (makes_choice e) h = absurd (omega arith)
  operand_sharing choice_second (makes_choice e) h = absurd (omega arith)
  operand_sharing group_first (makes_group e) h = refl
  operand_sharing group_second (makes_group e) h = refl
  operand_sharing interleave_first (makes_interleave e) h = refl
  operand_sharing interleave_second (makes_interleave e) h = refl

-- a ref names a definition, which is a row of the table
module _ {strings : ℕ} {s : List ℕ} (right : RowsRight strings s) (p : ℕ) (e : kind_of s p ≡ kind.ref) where
  pub ref_definition : is_element (sort_of s (a_of s p)) ≡ true
  unfolding shape_of
  ref_definition = rw e at (both_fields strings s right p (has_kind right e (λ z. omega arith))).0

  pub ref_row : a_of s p < rows_of s
  ref_row = has_kind right (definition_kind s (a_of s p) ref_definition) (λ z. omega arith)
