-- How patterns stand to each other, over the lookups: roles, operands, parts, and what a pattern reaches through
-- choice, group, interleave and oneOrMore alone.
use Rattle.std.specs.Prelude.{ℕ, ◌≡◌, Bool, true, false, ◌&&◌}
use Rattle.schema.specs.Views.{Pattern, empty, not_allowed, text, data_all, data_except, value, list}
use Rattle.schema.specs.Views.{attribute, ref, one_or_more, choice, group, interleave, no_pattern}
use Rattle.matching_rules.specs.Items.{Item, element, string, Lookups}

-- What a pattern does by itself. Whatever is asked of patterns of every kind goes by its role.
pub data Role : Type 0 where
  -- any number of strings: text
  strings : Role
  -- one string, as a sequence of that string alone: data, value and list, which have content type simple (10.3)
  one_string : Role
  -- an attribute whose name is in the class
  an_attribute : (name_class : ℕ) → Role
  -- an element that matches the definition
  an_element : (definition : ℕ) → Role
  -- group and interleave, which share attributes and items out to two operands
  sharing : Role
  -- nothing by itself: empty, notAllowed, choice and oneOrMore
  another : Role

abbrev pub role_of : Pattern → Role
role_of empty = another
role_of not_allowed = another
role_of text = strings
role_of (data_all t) = one_string
role_of (data_except t p) = one_string
role_of (value t k) = one_string
role_of (list p) = one_string
role_of (attribute nc p) = an_attribute nc
role_of (ref d) = an_element d
role_of (one_or_more p) = another
role_of (choice p q) = another
role_of (group p q) = sharing
role_of (interleave p q) = sharing
role_of no_pattern = another

pub data Operand : ℕ → Pattern → Type 0 where
  repeated : {p : ℕ} → Operand p (one_or_more p)
  choice_first : {p q : ℕ} → Operand p (choice p q)
  choice_second : {p q : ℕ} → Operand q (choice p q)
  group_first : {p q : ℕ} → Operand p (group p q)
  group_second : {p q : ℕ} → Operand q (group p q)
  interleave_first : {p q : ℕ} → Operand p (interleave p q)
  interleave_second : {p q : ℕ} → Operand q (interleave p q)

-- a pattern that stands directly below another: an operand, the pattern of an attribute or a list, an except
pub data Subpattern : ℕ → Pattern → Type 0 where
  operand : {p : ℕ} {x : Pattern} → Operand p x → Subpattern p x
  of_attribute : {nc p : ℕ} → Subpattern p (attribute nc p)
  of_list : {p : ℕ} → Subpattern p (list p)
  of_except : {t p : ℕ} → Subpattern p (data_except t p)

abbrev pub shares : Role → Bool
shares strings = false
shares one_string = false
shares (an_attribute nc) = false
shares (an_element d) = false
shares sharing = true
shares another = false

abbrev pub is_sharing : Pattern → Bool
is_sharing x = shares (role_of x)

-- the patterns of content type simple (10.3)
abbrev pub simple : Role → Bool
simple strings = false
simple one_string = true
simple (an_attribute nc) = false
simple (an_element d) = false
simple sharing = false
simple another = false

abbrev pub is_simple : Pattern → Bool
is_simple x = simple (role_of x)

-- the patterns that take a string
abbrev pub string_by : Role → Bool
string_by strings = true
string_by one_string = true
string_by (an_attribute nc) = false
string_by (an_element d) = false
string_by sharing = false
string_by another = false

abbrev pub takes_string : Pattern → Bool
takes_string x = string_by (role_of x)

-- the patterns that take an item
abbrev pub item_by : Role → Bool
item_by strings = true
item_by one_string = true
item_by (an_attribute nc) = false
item_by (an_element d) = true
item_by sharing = false
item_by another = false

abbrev pub takes_any : Pattern → Bool
takes_any x = item_by (role_of x)

module _ (L : Lookups) where
  -- x is, or reaches, a pattern that passes a test
  pub data Reaches (test : Pattern → Bool) : Pattern → Type 0 where
    here : {x : Pattern} → test x ≡ true → Reaches test x
    there : {x : Pattern} (r : ℕ) → Operand r x → Reaches test (L.pattern r) → Reaches test x

  -- y is x, or is reached from x
  pub data Within : Pattern → Pattern → Type 0 where
    itself : {x : Pattern} → Within x x
    down : {x y : Pattern} (r : ℕ) → Operand r x → Within (L.pattern r) y → Within x y

  -- an attribute whose class has the name of instance row x
  abbrev pub attribute_by : ℕ → Role → Bool
  attribute_by x strings = false
  attribute_by x one_string = false
  attribute_by x (an_attribute nc) = L.in_class nc x
  attribute_by x (an_element d) = false
  attribute_by x sharing = false
  attribute_by x another = false

  abbrev pub names_attribute : ℕ → Pattern → Bool
  names_attribute x y = attribute_by x (role_of y)

  -- a ref to a definition whose class has the name of instance row e
  abbrev pub element_by : ℕ → Role → Bool
  element_by e strings = false
  element_by e one_string = false
  element_by e (an_attribute nc) = false
  element_by e (an_element d) = L.is_definition d && L.in_class (L.name_class d) e
  element_by e sharing = false
  element_by e another = false

  abbrev pub names_element : ℕ → Pattern → Bool
  names_element e x = element_by e (role_of x)

  abbrev pub takes : Item → Pattern → Bool
  takes (element e) x = names_element e x
  takes (string s) x = takes_string x
