-- The tests of one item or one attribute that words are made by; cited by private functions only.
use Rattle.std.specs.Prelude.{ℕ, Bool, not, cond, ◌&&◌, ◌||◌, List, eqb, leb, get_or}
use Rattle.std.specs.Int.Bits.{bit_or}
use Rattle.schema.specs.Kinds as kind
use Rattle.instance.specs.Nodes.{a_of, b_of, c_of}
use Rattle.schema_classes.specs.Membership.{in_class}
use Rattle.sets.specs.Bits.{bit}
use Rattle.matching_alone.specs.Alone.{entry}
use Rattle.matching_marks.specs.Given.{pair_entry}
use Rattle.matching_marks.specs.Marks.{attribute_row}

-- the class at row c has the name of instance row r
abbrev pub has_name : (s t : List ℕ) (c r : ℕ) → Bool
has_name s t c r = in_class s (a_of t r) (b_of t r) c

-- string v as an attribute's value: it matches the pattern at row q, or is whitespace where the empty sequence does
-- (9.3.7, weak match 1 and 2)
abbrev pub value_fits : (alone nothing blank : List ℕ) (q v : ℕ) → Bool
value_fits alone nothing blank q v = eqb (entry alone q v) 1 || (eqb (get_or blank v 0) 1 && eqb (get_or nothing q 0) 1)

-- whether item k is a string that alone matches the pattern at row p
abbrev pub string_alone : (alone items : List ℕ) (texts p : ℕ) → ℕ → Bool
string_alone alone items texts p k = bit texts k && eqb (entry alone p (get_or items k 0)) 1

-- whether item k is an element that is paired with definition d
abbrev pub element_paired : (pairs items : List ℕ) (texts d : ℕ) → ℕ → Bool
element_paired pairs items texts d k = not (bit texts k) && eqb (pair_entry pairs (get_or items k 0) d) 1

-- whether item k is an element whose name is in the class at row c
abbrev pub element_named : (s t items : List ℕ) (texts c : ℕ) → ℕ → Bool
element_named s t items texts c k = not (bit texts k) && has_name s t c (get_or items k 0)

-- whether the name of attribute x is in the class at row c
abbrev pub attribute_named : (s t : List ℕ) (e c : ℕ) → ℕ → Bool
attribute_named s t e c x = has_name s t c (attribute_row e x)

-- whether the value of attribute x weakly matches the pattern at row q
abbrev pub attribute_fits : (t alone nothing blank : List ℕ) (e q : ℕ) → ℕ → Bool
attribute_fits t alone nothing blank e q x = value_fits alone nothing blank q (c_of t (attribute_row e x))

-- the union of the words v and w of its operands, for a row of kind k; oneOrMore has one operand
unfoldable pub joined_by : ℕ → ℕ → ℕ → ℕ
joined_by k v w =
    cond (eqb k kind.one_or_more) v
    (cond (leb kind.choice k && leb k kind.interleave) (bit_or v w) 0)
