-- The kinds of schema rows by their numbers in FORMAT, "Schema rows".
use Rattle.std.specs.Prelude.{ℕ}

-- `-` of FORMAT, "Schema rows": no row
abbrev pub no_row : ℕ
no_row = 4294967295

-- patterns
abbrev pub empty : ℕ
empty = 1

abbrev pub not_allowed : ℕ
not_allowed = 2

abbrev pub text : ℕ
text = 3

abbrev pub «data» : ℕ
«data» = 4

abbrev pub value : ℕ
value = 5

abbrev pub list : ℕ
list = 6

abbrev pub attribute : ℕ
attribute = 7

abbrev pub ref : ℕ
ref = 8

abbrev pub one_or_more : ℕ
one_or_more = 9

abbrev pub choice : ℕ
choice = 10

abbrev pub group : ℕ
group = 11

abbrev pub interleave : ℕ
interleave = 12

-- name classes
abbrev pub any_name : ℕ
any_name = 16

abbrev pub ns_name : ℕ
ns_name = 17

abbrev pub name : ℕ
name = 18

abbrev pub name_choice : ℕ
name_choice = 19

-- definitions, and the start
abbrev pub element : ℕ
element = 20

abbrev pub start : ℕ
start = 21
