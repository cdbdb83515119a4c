-- An instance is a list of words, five a row, in document order: kind, parent, a, b, c (FORMAT, "Instance rows").
use Rattle.std.specs.Prelude.{ℕ, ◌+◌, ◌*◌, ◌/◌, ◌≡◌, Bool, ◌&&◌, ◌||◌, List, length, get_or, eqb}

-- kinds of rows
abbrev pub element : ℕ
element = 1

abbrev pub attribute : ℕ
attribute = 2

abbrev pub text : ℕ
text = 3

-- `-` of FORMAT, "Instance rows": no parent
abbrev pub no_parent : ℕ
no_parent = 4294967295

abbrev pub nodes_of : List ℕ → ℕ
nodes_of t = length t / 5

-- past the end of the table every word is 0, which is no kind
abbrev pub kind_of : List ℕ → ℕ → ℕ
kind_of t r = get_or t (r * 5) 0

abbrev pub parent_of : List ℕ → ℕ → ℕ
parent_of t r = get_or t (r * 5 + 1) 0

abbrev pub a_of : List ℕ → ℕ → ℕ
a_of t r = get_or t (r * 5 + 2) 0

abbrev pub b_of : List ℕ → ℕ → ℕ
b_of t r = get_or t (r * 5 + 3) 0

abbrev pub c_of : List ℕ → ℕ → ℕ
c_of t r = get_or t (r * 5 + 4) 0

-- the children of an element are its elements and texts
abbrev pub is_child : List ℕ → ℕ → ℕ → Bool
is_child t e r = eqb (parent_of t r) e && (eqb (kind_of t r) element || eqb (kind_of t r) text)

abbrev pub is_attribute : List ℕ → ℕ → ℕ → Bool
is_attribute t e r = eqb (parent_of t r) e && eqb (kind_of t r) attribute

-- two rows have one name: namespace and local
abbrev pub SameName : List ℕ → ℕ → ℕ → Type 0
SameName t q r = (a_of t q ≡ a_of t r) × (b_of t q ≡ b_of t r)
