-- A row as a pattern or a name class, in the terms of ISO/IEC 19757-2, clause 8. Parts are row numbers; a definition is
-- the row of an element.
use Rattle.std.specs.Prelude.{ℕ, cond, List, eqb}
use Rattle.schema.specs.Kinds as kind
use Rattle.schema.specs.Rows.{kind_of, a_of, b_of}

pub data Pattern : Type 0 where
  empty not_allowed text : Pattern
  data_all : (datatype : ℕ) → Pattern
  data_except : (datatype except : ℕ) → Pattern
  value : (datatype string : ℕ) → Pattern
  list : (pattern : ℕ) → Pattern
  attribute : (name_class pattern : ℕ) → Pattern
  ref : (definition : ℕ) → Pattern
  one_or_more : (pattern : ℕ) → Pattern
  choice group interleave : (first second : ℕ) → Pattern
  no_pattern : Pattern

pub data NameClass : Type 0 where
  any_name : NameClass
  any_name_except : (except : ℕ) → NameClass
  ns_name : (namespace : ℕ) → NameClass
  ns_name_except : (namespace except : ℕ) → NameClass
  name : (namespace local : ℕ) → NameClass
  name_choice : (first second : ℕ) → NameClass
  no_class : NameClass

unfoldable pub pattern_by : ℕ → ℕ → ℕ → Pattern
pattern_by k a b =
    cond (eqb k kind.empty) empty
    (cond (eqb k kind.not_allowed) not_allowed
    (cond (eqb k kind.text) text
    (cond (eqb k kind.«data») (cond (eqb b kind.no_row) (data_all a) (data_except a b))
    (cond (eqb k kind.value) (value a b)
    (cond (eqb k kind.list) (list a)
    (cond (eqb k kind.attribute) (attribute a b)
    (cond (eqb k kind.ref) (ref a)
    (cond (eqb k kind.one_or_more) (one_or_more a)
    (cond (eqb k kind.choice) (choice a b)
    (cond (eqb k kind.group) (group a b)
    (cond (eqb k kind.interleave) (interleave a b) no_pattern)))))))))))

unfoldable pub class_by : ℕ → ℕ → ℕ → NameClass
class_by k a b =
    cond (eqb k kind.any_name) (cond (eqb a kind.no_row) any_name (any_name_except a))
    (cond (eqb k kind.ns_name) (cond (eqb b kind.no_row) (ns_name a) (ns_name_except a b))
    (cond (eqb k kind.name) (name a b)
    (cond (eqb k kind.name_choice) (name_choice a b) no_class)))

abbrev pub pattern_of : List ℕ → ℕ → Pattern
pattern_of s r = pattern_by (kind_of s r) (a_of s r) (b_of s r)

abbrev pub class_of : List ℕ → ℕ → NameClass
class_of s r = class_by (kind_of s r) (a_of s r) (b_of s r)
