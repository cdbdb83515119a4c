-- The table of content types, and what one row's type is by those of its children; cited by private functions only.
use Rattle.std.specs.Prelude.{ℕ, max, ◌<◌, ◌≡◌, Bool, true, false, not, cond, ◌&&◌, ◌||◌, List, length, get_or, ltb}
use Rattle.std.specs.Prelude.{eqb, Option, Some, None}
use Rattle.schema.specs.Kinds as kind
use Rattle.schema.specs.RowRule.{max_rows}
use Rattle.schema_places.specs.Paths.{sharing_kind}
use Rattle.schema_sequences.specs.declared.ContentType.{ContentType}
use Rattle.schema_sequences.specs.declared.ContentType.TheVariants.{Empty, Complex, Simple}
use Rattle.schema_sequences.specs.Content.{HasType, groupable, empty_type, complex_type, simple_type}

-- stands for a row that has no content type
abbrev pub no_type : ℕ
no_type = 3

-- the content types of the code, and what a row has of them, as the numbers of Content
abbrev pub content_number : ContentType → ℕ
content_number Empty = empty_type
content_number Complex = complex_type
content_number Simple = simple_type

abbrev pub numbered : Option ContentType → ℕ
numbered (Some c) = content_number c
numbered None = no_type

abbrev pub typed : ℕ → Bool
typed c = ltb c no_type

-- two types that go together, and two that do not
abbrev pub fits : ℕ → ℕ → Bool
fits c d = typed c && typed d && groupable c d

abbrev pub clashes : ℕ → ℕ → Bool
clashes c d = typed c && typed d && not (groupable c d)

-- the type of a row with kind k and field b whose children have the types c and d
unfoldable pub type_by : ℕ → ℕ → ℕ → ℕ → ℕ
type_by k b c d =
    cond (eqb k kind.empty) empty_type
    (cond (eqb k kind.text || eqb k kind.ref) complex_type
    (cond (eqb k kind.value || eqb k kind.list) simple_type
    (cond (eqb k kind.«data») (cond (eqb b kind.no_row || typed d) simple_type no_type)
    (cond (eqb k kind.attribute) (cond (typed d) empty_type no_type)
    (cond (eqb k kind.one_or_more) (cond (fits c c) c no_type)
    (cond (eqb k kind.choice) (cond (typed c && typed d) (max c d) no_type)
    (cond (sharing_kind k) (cond (fits c d) (max c d) no_type)
    no_type)))))))

-- whether the types c and d of its children do not go together in a row of kind k
unfoldable pub clash_by : ℕ → ℕ → ℕ → Bool
clash_by k c d =
    cond (eqb k kind.one_or_more) (clashes c c)
    (cond (sharing_kind k) (clashes c d) false)

-- t is the content type of row r, or no_type where it has none
pub record TypeIs (s : List ℕ) (r t : ℕ) : Type 0 where
  pub has : typed t ≡ true → HasType s r t
  pub only : (c : ℕ) → HasType s r c → c ≡ t

-- the types of the rows before n
pub record Types (s : List ℕ) (types : List (Option ContentType)) (n : ℕ) : Type 0 where
  pub size : length types ≡ max_rows
  pub known : (r : ℕ) → r < n → TypeIs s r (numbered (get_or types r None))
