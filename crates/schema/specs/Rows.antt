-- A schema is a list of words, three a row: kind, a, b. What the fields of a row hold, and which rows are its children.
use Rattle.std.specs.Prelude.{ℕ, ◌+◌, ◌*◌, ◌/◌, Bool, true, false, cond, ◌&&◌, List, length, get_or, ltb, leb, eqb}
use Rattle.schema.specs.Kinds as kind
use Rattle.schema.specs.declared.Sort.{Sort}
use Rattle.schema.specs.declared.Sort.TheVariants.{Pattern, NameClass, Element, Start, Bad}
use Rattle.schema.specs.declared.Field.{Field}
use Rattle.schema.specs.declared.Field.TheVariants.{Unused, APattern, PatternOrNone, AClass, ClassOrNone}
use Rattle.schema.specs.declared.Field.TheVariants.{Definition, Datatype, StringNumber, Local}
use Rattle.schema.specs.declared.Shape.{Shape}

abbrev pub rows_of : List ℕ → ℕ
rows_of s = length s / 3

-- past the end of the table every word is 0, which is no kind
abbrev pub kind_of : List ℕ → ℕ → ℕ
kind_of s r = get_or s (r * 3) 0

abbrev pub a_of : List ℕ → ℕ → ℕ
a_of s r = get_or s (r * 3 + 1) 0

abbrev pub b_of : List ℕ → ℕ → ℕ
b_of s r = get_or s (r * 3 + 2) 0

abbrev pub shape : Sort → Field → Field → Shape
shape sort a b = record { sort = sort; a = a; b = b }

-- the table of kinds of FORMAT, "Schema rows"
unfoldable pub shape_of : ℕ → Shape
shape_of k =
    cond (leb kind.empty k && leb k kind.text) (shape Pattern Unused Unused)
    (cond (eqb k kind.«data») (shape Pattern Datatype PatternOrNone)
    (cond (eqb k kind.value) (shape Pattern Datatype StringNumber)
    (cond (eqb k kind.list) (shape Pattern APattern Unused)
    (cond (eqb k kind.attribute) (shape Pattern AClass APattern)
    (cond (eqb k kind.ref) (shape Pattern Definition Unused)
    (cond (eqb k kind.one_or_more) (shape Pattern APattern Unused)
    (cond (leb kind.choice k && leb k kind.interleave) (shape Pattern APattern APattern)
    (cond (eqb k kind.any_name) (shape NameClass ClassOrNone Unused)
    (cond (eqb k kind.ns_name) (shape NameClass StringNumber ClassOrNone)
    (cond (eqb k kind.name) (shape NameClass StringNumber Local)
    (cond (eqb k kind.name_choice) (shape NameClass AClass AClass)
    (cond (eqb k kind.element) (shape Element AClass APattern)
    (cond (eqb k kind.start) (shape Start APattern Unused)
    (shape Bad Unused Unused))))))))))))))

abbrev pub is_pattern : Sort → Bool
is_pattern Pattern = true
is_pattern NameClass = false
is_pattern Element = false
is_pattern Start = false
is_pattern Bad = false

abbrev pub is_class : Sort → Bool
is_class Pattern = false
is_class NameClass = true
is_class Element = false
is_class Start = false
is_class Bad = false

abbrev pub is_element : Sort → Bool
is_element Pattern = false
is_element NameClass = false
is_element Element = true
is_element Start = false
is_element Bad = false

abbrev pub sort_of : List ℕ → ℕ → Sort
sort_of s r = (shape_of (kind_of s r)).sort

-- whether the word x in a field of row p names a child: a smaller row of the right sort
abbrev pub names : List ℕ → ℕ → Field → ℕ → Bool
names s p Unused x = false
names s p APattern x = ltb x p && is_pattern (sort_of s x)
names s p PatternOrNone x = ltb x p && is_pattern (sort_of s x)
names s p AClass x = ltb x p && is_class (sort_of s x)
names s p ClassOrNone x = ltb x p && is_class (sort_of s x)
names s p Definition x = false
names s p Datatype x = false
names s p StringNumber x = false
names s p Local x = false

abbrev pub names_a : List ℕ → ℕ → Bool
names_a s p = names s p (shape_of (kind_of s p)).a (a_of s p)

abbrev pub names_b : List ℕ → ℕ → Bool
names_b s p = names s p (shape_of (kind_of s p)).b (b_of s p)

-- the child of a row through field a, and through field b; none where the field is bad or holds no child
abbrev pub child_a : List ℕ → ℕ → ℕ
child_a s p = cond (names_a s p) (a_of s p) kind.no_row

abbrev pub child_b : List ℕ → ℕ → ℕ
child_b s p = cond (names_b s p) (b_of s p) kind.no_row
