-- The rule of schema rows, from FORMAT, "Schema rows", and code 2 of FORMAT, "Codes and places".
use Rattle.std.specs.Prelude.{ℕ, zero, suc, ◌+◌, ◌<◌, ◌%◌, ◌≡◌, ◌≢◌, Bool, false, not, cond, ◌&&◌, ◌||◌, List, length}
use Rattle.std.specs.Prelude.{ltb, eqb}
use Rattle.schema.specs.Kinds.{no_row}
use Rattle.schema.specs.Rows.{rows_of, kind_of, a_of, b_of, shape_of, sort_of, is_element, names, child_a, child_b}
use Rattle.schema.specs.declared.Sort.{Sort}
use Rattle.schema.specs.declared.Sort.TheVariants.{Pattern, NameClass, Element, Start, Bad}
use Rattle.schema.specs.declared.Field.{Field}
use Rattle.schema.specs.declared.Field.TheVariants.{Unused, APattern, PatternOrNone, AClass, ClassOrNone}
use Rattle.schema.specs.declared.Field.TheVariants.{Definition, Datatype, StringNumber, Local}

abbrev pub max_rows : ℕ
max_rows = 512

-- whether a field of row p may hold the word x, in a table beside so many strings
abbrev pub field_right : ℕ → List ℕ → ℕ → Field → ℕ → Bool
field_right strings s p Unused x = eqb x 0
field_right strings s p APattern x = names s p APattern x
field_right strings s p PatternOrNone x = eqb x no_row || names s p PatternOrNone x
field_right strings s p AClass x = names s p AClass x
field_right strings s p ClassOrNone x = eqb x no_row || names s p ClassOrNone x
field_right strings s p Definition x = is_element (sort_of s x)
field_right strings s p Datatype x = ltb x 2
field_right strings s p StringNumber x = ltb x strings
field_right strings s p Local x = ltb 0 x && ltb x strings

-- how often row r is a child of a row before n; both fields of a row count
abbrev pub is_row : ℕ → ℕ → ℕ
is_row r x = cond (eqb x r) 1 0

unfoldable pub uses_before : List ℕ → ℕ → ℕ → ℕ
uses_before s r zero = 0
uses_before s r (suc p) = uses_before s r p + is_row r (child_a s p) + is_row r (child_b s p)

-- whether a row of a sort may have so many parents, and be the last row: a pattern or name class has exactly one
-- parent, start is the last row and no other is
abbrev pub sort_right : Sort → ℕ → Bool → Bool
sort_right Pattern uses last = eqb uses 1 && not last
sort_right NameClass uses last = eqb uses 1 && not last
sort_right Element uses last = not last
sort_right Start uses last = last
sort_right Bad uses last = false

-- whether row r keeps its rule where it is used so often: both fields, its parents, its place
abbrev pub row_right : ℕ → List ℕ → ℕ → ℕ → Bool
row_right strings s r uses =
    field_right strings s r (shape_of (kind_of s r)).a (a_of s r)
    && field_right strings s r (shape_of (kind_of s r)).b (b_of s r)
    && sort_right (sort_of s r) uses (eqb (r + 1) (rows_of s))

abbrev pub WrongRow : ℕ → List ℕ → ℕ → Type 0
WrongRow strings s r = (r < rows_of s) × (row_right strings s r (uses_before s r (rows_of s)) ≡ false)

-- the number of words and rows
pub data SizeFault (s : List ℕ) (r : ℕ) : Type 0 where
  without_row : rows_of s ≡ 0 → r ≡ 0 → SizeFault s r
  too_many_rows : max_rows < rows_of s → r ≡ 0 → SizeFault s r
  broken_length : length s % 3 ≢ 0 → r ≡ 0 → SizeFault s r

-- a table of 1 to max_rows whole rows
abbrev pub SizeRight : List ℕ → Type 0
SizeRight s = (r : ℕ) → ¬ SizeFault s r

-- what the check of a code whose faults are P finds in any table: a fault of its size, and in a table of the right size
-- a fault of the code
pub data SizedFault (s : List ℕ) (P : ℕ → Type 0) (r : ℕ) : Type 0 where
  bad_table : SizeFault s r → SizedFault s P r
  bad_place : SizeRight s → P r → SizedFault s P r

-- code 2 at row r
pub data RowFault (strings : ℕ) (s : List ℕ) (r : ℕ) : Type 0 where
  bad_size : SizeFault s r → RowFault strings s r
  bad_row : WrongRow strings s r → RowFault strings s r

-- the rows keep their rule
abbrev pub RowsRight : ℕ → List ℕ → Type 0
RowsRight strings s = (r : ℕ) → ¬ RowFault strings s r
