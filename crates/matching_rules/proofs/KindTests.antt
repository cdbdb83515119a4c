-- The kind of a row by the role of its pattern.
use mathlib.Core.Path.{◌≡◌, refl}
use mathlib.Core.Logic.{◌⊎◌, inl, inr}
use mathlib.Core.Bool.{true, ◌&&◌, ◌||◌, false≢true}
use Prim.Native.Nat.{ℕ}
use lib.Dec.{eqb}
use Rattle.schema.specs.Kinds as kind
use Rattle.schema.specs.Views.{Pattern}
use Rattle.schema_places.specs.Paths as path
use Rattle.matching_rules.specs.Items.{Lookups}
use Rattle.matching_rules.specs.Reach.{Role, strings, one_string, an_attribute, an_element, sharing}
use Rattle.matching_rules.specs.Reach.{another, role_of, shares, simple, string_by, attribute_by, element_by}
use Rattle.matching_rules.specs.Reach.{is_sharing, is_simple, takes_string, names_attribute, names_element}
use Rattle.matching_rules.proofs.RowPatterns.{Makes, makes_empty, makes_not_allowed, makes_text}
use Rattle.matching_rules.proofs.RowPatterns.{makes_data, makes_except, makes_value, makes_list}
use Rattle.matching_rules.proofs.RowPatterns.{makes_attribute, makes_ref, makes_one_or_more}
use Rattle.matching_rules.proofs.RowPatterns.{makes_choice, makes_group, makes_interleave, makes_none}

-- kind k and field a of a row whose pattern has a role
pub data HasRole (k a : ℕ) : Role → Type 0 where
  role_strings : k ≡ kind.text → HasRole k a strings
  role_string : (eqb k kind.value || eqb k kind.«data» || eqb k kind.list) ≡ true → HasRole k a one_string
  role_attribute : k ≡ kind.attribute → HasRole k a (an_attribute a)
  role_element : k ≡ kind.ref → HasRole k a (an_element a)
  role_sharing : path.sharing_kind k ≡ true → HasRole k a sharing
  role_another : HasRole k a another

pub has_role : {k a b : ℕ} {x : Pattern} → Makes k a b x → HasRole k a (role_of x)
has_role (makes_empty e) = role_another
has_role (makes_not_allowed e) = role_another
has_role (makes_text e) = role_strings e
has_role (makes_data e f) = role_string (rw e)
has_role (makes_except e f) = role_string (rw e)
has_role (makes_value e) = role_string (rw e)
has_role (makes_list e) = role_string (rw e)
has_role (makes_attribute e) = role_attribute e
has_role (makes_ref e) = role_element e
has_role (makes_one_or_more e) = role_another
has_role (makes_choice e) = role_another
has_role (makes_group e) = role_sharing (rw e)
has_role (makes_interleave e) = role_sharing (rw e)
has_role (makes_none n) = role_another

module _ (L : Lookups) {k a : ℕ} (u : ℕ) where
  attribute_role : {r : Role} → HasRole k a r → attribute_by L u r ≡ true
      → (k ≡ kind.attribute) × (L.in_class a u ≡ true)
  attribute_role (role_strings e) h = absurd (false≢true h)
  attribute_role (role_string e) h = absurd (false≢true h)
  attribute_role (role_attribute e) h = (e, h)
  attribute_role (role_element e) h = absurd (false≢true h)
  attribute_role (role_sharing e) h = absurd (false≢true h)
  attribute_role role_another h = absurd (false≢true h)

  element_role : {r : Role} → HasRole k a r → element_by L u r ≡ true
      → (k ≡ kind.ref) × ((L.is_definition a && L.in_class (L.name_class a) u) ≡ true)
  element_role (role_strings e) h = absurd (false≢true h)
  element_role (role_string e) h = absurd (false≢true h)
  element_role (role_attribute e) h = absurd (false≢true h)
  element_role (role_element e) h = (e, h)
  element_role (role_sharing e) h = absurd (false≢true h)
  element_role role_another h = absurd (false≢true h)

  module _ {b : ℕ} {x : Pattern} (m : Makes k a b x) where
    pub attribute_made : names_attribute L u x ≡ true → (k ≡ kind.attribute) × (L.in_class a u ≡ true)
    attribute_made h = attribute_role (has_role m) h

    pub ref_made : names_element L u x ≡ true
        → (k ≡ kind.ref) × ((L.is_definition a && L.in_class (L.name_class a) u) ≡ true)
    ref_made h = element_role (has_role m) h

sharing_role : {k a : ℕ} {r : Role} → HasRole k a r → shares r ≡ true → path.sharing_kind k ≡ true
sharing_role (role_strings e) h = absurd (false≢true h)
sharing_role (role_string e) h = absurd (false≢true h)
sharing_role (role_attribute e) h = absurd (false≢true h)
sharing_role (role_element e) h = absurd (false≢true h)
sharing_role (role_sharing e) h = e
sharing_role role_another h = absurd (false≢true h)

pub sharing_made : {k a b : ℕ} {x : Pattern} → Makes k a b x → is_sharing x ≡ true → path.sharing_kind k ≡ true
sharing_made m h = sharing_role (has_role m) h

-- a pattern that takes strings is text, or takes one
string_role : {k a : ℕ} {r : Role} → HasRole k a r → string_by r ≡ true → (k ≡ kind.text) ⊎ (simple r ≡ true)
string_role (role_strings e) h = inl e
string_role (role_string e) h = inr refl
string_role (role_attribute e) h = absurd (false≢true h)
string_role (role_element e) h = absurd (false≢true h)
string_role (role_sharing e) h = absurd (false≢true h)
string_role role_another h = absurd (false≢true h)

pub string_kind : {k a b : ℕ} {x : Pattern} → Makes k a b x
    → takes_string x ≡ true → (k ≡ kind.text) ⊎ (is_simple x ≡ true)
string_kind m h = string_role (has_role m) h
