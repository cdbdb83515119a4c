-- What clause 9 of ISO/IEC 19757-2 speaks of (4.2.1), and the lookups in the tables of a job that its rules need.
use Rattle.std.specs.Prelude.{ℕ, Bool, false, ◌||◌, List, eqb}
use Rattle.schema.specs.Views.{Pattern}

-- m ranges over sequences of elements and strings: an element is its instance row, a string its bytes
pub data Item : Type 0 where
  element : (row : ℕ) → Item
  string : (text : List ℕ) → Item

-- a ranges over sets of attributes, each by its instance row
abbrev pub Attributes : Type 0
Attributes = ℕ → Bool

-- { }
abbrev pub no_attributes : Attributes
no_attributes x = false

-- a set with a single member
abbrev pub only : ℕ → Attributes
only x y = eqb x y

-- a₁ + a₂: the members of either set, which may overlap
infixl 60 ◌∪◌
abbrev pub ◌∪◌ : Attributes → Attributes → Attributes
◌∪◌ a₁ a₂ x = a₁ x || a₂ x

pub record Lookups : Type 1 where
  -- schema: how many rows; the pattern at a row; whether a row is a definition, its name class and its pattern
  pub rows : ℕ
  pub pattern : ℕ → Pattern
  pub is_definition : ℕ → Bool
  pub name_class : ℕ → ℕ
  pub content : ℕ → ℕ
  -- strings: the text of a string; which texts are whitespace; split; datatypeEqual, by the number of the datatype
  pub text : ℕ → List ℕ
  pub whitespace : List ℕ → Bool
  pub split : List ℕ → List (List ℕ)
  pub Equal : ℕ → List ℕ → List ℕ → Type 0
  -- instance: whether the class at a schema row has the name of an instance row; whether two instance rows have one
  -- name
  pub in_class : ℕ → ℕ → Bool
  pub SameName : ℕ → ℕ → Type 0
  -- an element's attributes and children, and an attribute's value
  pub attributes : ℕ → Attributes
  pub children : ℕ → List Item
  pub value : ℕ → List ℕ
