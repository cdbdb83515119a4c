-- Code 6: string sequences, by the content types of ISO/IEC 19757-2, 10.3.
use Rattle.std.specs.Prelude.{ℕ, max, ◌≡◌, Bool, true, false, ◌&&◌, ◌||◌, List, eqb}
use Rattle.schema.specs.Kinds as kind
use Rattle.schema.specs.Rows.{kind_of, b_of, child_a, child_b}
use Rattle.schema_places.specs.Marks.{Under}
use Rattle.schema_places.specs.Paths.{sharing_kind}
use Rattle.schema_places.specs.Sources.{HasKind}

-- the content types in their order
abbrev pub empty_type : ℕ
empty_type = 0

abbrev pub complex_type : ℕ
complex_type = 1

abbrev pub simple_type : ℕ
simple_type = 2

-- (group empty 1), (group empty 2), (group complex)
abbrev pub groupable : ℕ → ℕ → Bool
groupable c d = eqb c empty_type || eqb d empty_type || eqb c complex_type && eqb d complex_type

-- row r has a content type, one constructor a rule of 10.3
pub data HasType (s : List ℕ) : ℕ → ℕ → Type 0 where
  value_type : {r : ℕ} → kind_of s r ≡ kind.value → HasType s r simple_type
  data_type_1 : {r : ℕ} → kind_of s r ≡ kind.«data» → b_of s r ≡ kind.no_row → HasType s r simple_type
  data_type_2 : {r c : ℕ} → kind_of s r ≡ kind.«data» → HasType s (child_b s r) c → HasType s r simple_type
  list_type : {r : ℕ} → kind_of s r ≡ kind.list → HasType s r simple_type
  text_type : {r : ℕ} → kind_of s r ≡ kind.text → HasType s r complex_type
  ref_type : {r : ℕ} → kind_of s r ≡ kind.ref → HasType s r complex_type
  type_of_empty : {r : ℕ} → kind_of s r ≡ kind.empty → HasType s r empty_type
  attribute_type : {r c : ℕ} → kind_of s r ≡ kind.attribute → HasType s (child_b s r) c → HasType s r empty_type
  sharing_type : {r c d : ℕ} → sharing_kind (kind_of s r) ≡ true → HasType s (child_a s r) c → HasType s (child_b s r) d
      → groupable c d ≡ true → HasType s r (max c d)
  one_or_more_type : {r c : ℕ} → kind_of s r ≡ kind.one_or_more → HasType s (child_a s r) c
      → groupable c c ≡ true → HasType s r c
  choice_type : {r c d : ℕ} → kind_of s r ≡ kind.choice → HasType s (child_a s r) c → HasType s (child_b s r) d
      → HasType s r (max c d)

-- the operands of row r have types that do not go together
pub data Clash (s : List ℕ) (r : ℕ) : Type 0 where
  sharing_not_groupable : (c d : ℕ) → sharing_kind (kind_of s r) ≡ true → HasType s (child_a s r) c
      → HasType s (child_b s r) d → groupable c d ≡ false → Clash s r
  repeat_not_groupable : (c : ℕ) → kind_of s r ≡ kind.one_or_more → HasType s (child_a s r) c
      → groupable c c ≡ false → Clash s r

-- row r is below a list
abbrev pub InList : List ℕ → ℕ → Type 0
InList s r = Under s (HasKind s kind.list) r

-- Code 6 at row r: its own operands clash, and it is below no list, where 10.3 does not apply. The rule (element) of
-- 10.3, taken literally, would also make an element of notAllowed incorrect, since notAllowed has no content type;
-- restriction 3 of FORMAT, "Restrictions", lets notAllowed be the whole pattern of an element, so that it is no fault
-- (docs/DECISIONS.md).
pub record SequenceFault (s : List ℕ) (r : ℕ) : Type 0 where
  pub clash : Clash s r
  pub outside : ¬ InList s r
