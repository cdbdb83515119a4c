-- A token against the rows of a list: what the rows are, and a table with one mark a row; cited by private functions
-- only.
use Rattle.std.specs.Prelude.{ℕ, ◌<◌, ◌≡◌, Bool, cond, ◌&&◌, ◌||◌, List, ◌∷◌, length, get_or, set, eqb}
use Rattle.tables.specs.Tables.{StringTable, tables_of}
use Rattle.strings.specs.Strings.{schema_strings}
use Rattle.datatypes.specs.Split.{Token}
use Rattle.schema.specs.Rows.{rows_of, a_of, b_of}
use Rattle.schema.specs.Views.{pattern_of}
use Rattle.schema_restrictions.specs.Schema.{SchemaPasses}
use Rattle.matching_rules.specs.Rules.{NotMatchBy}
use Rattle.matching_rules.specs.Job.{lookups}
use Rattle.matching_rules.specs.Restricted.{Plain}
use Rattle.matching_tokens.specs.Marked.{Tree, empty, leaf, one_or_more, choice, group, row_of, TakesRight}
use Rattle.matching_tokens.specs.Marked.{Shows, In, Apart, Proper, nullable, Read, read, second, again, done}
use Rattle.matching_tokens.specs.Tokens.{TokenPlaces}

module _ (T : StringTable) (s : List ℕ) where
  -- a token can be held against values
  pub record TokenReady (places token : List ℕ) : Type 0 where
    pub passes : SchemaPasses (schema_strings T) s
    pub placed : TokenPlaces T places
    pub is_token : Token token

  -- the pattern at a row may stand in an except
  abbrev pub PlainAt : ℕ → Type 0
  PlainAt p = (t : List ℕ) → Plain (lookups (tables_of T s t)) (pattern_of s p)

  -- row r shows the tree; the test of a leaf tells what its pattern takes
  abbrev pub ShowsAt : (t : List ℕ) → ℕ → Tree → Type 0
  ShowsAt t r p = Shows (lookups (tables_of T s t)) (NotMatchBy (lookups (tables_of T s t)) (rows_of s)) r p

  abbrev pub TakesAt : (t : List ℕ) → ℕ → (List ℕ → Bool) → Type 0
  TakesAt t r takes =
      TakesRight (lookups (tables_of T s t)) (NotMatchBy (lookups (tables_of T s t)) (rows_of s)) takes (pattern_of s r)

-- a byte a row: 1 is a mark
abbrev pub mark : Bool → ℕ
mark b = cond b 1 0

abbrev pub marked : List ℕ → ℕ → Bool
marked marks r = eqb (get_or marks r 0) 1

-- the byte of a tree's own row is its mark
pub record Slot (marks : List ℕ) (p : Tree) (h : List Read) : Type 0 where
  pub room : row_of p < length marks
  pub told : marked marks (row_of p) ≡ done p h

-- and so are the bytes of all rows below it, each after what it has read
abbrev pub HoldsMarks : List ℕ → Tree → List Read → Type 0
HoldsMarks marks (empty r) h = Slot marks (empty r) h
HoldsMarks marks (leaf r takes) h = Slot marks (leaf r takes) h
HoldsMarks marks (one_or_more r p) h = Slot marks (one_or_more r p) h × HoldsMarks marks p (again (done p) h)
HoldsMarks marks (choice r p q) h = Slot marks (choice r p q) h × HoldsMarks marks p h × HoldsMarks marks q h
HoldsMarks marks (group r p q) h =
    Slot marks (group r p q) h × HoldsMarks marks p h × HoldsMarks marks q (second (nullable p) (done p) h)

-- after one more token: the answer is the tree's mark, the table has the marks of its rows, and others are as before
pub record Stepped (p : Tree) (h : List Read) (before after : List ℕ) (answer : Bool) : Type 0 where
  pub right : answer ≡ done p h
  pub size : length after ≡ length before
  pub holds : HoldsMarks after p h
  pub kept : (i : ℕ) → ¬ In i p → marked after i ≡ marked before i

-- what a token does at a row, entered before it or not, whatever was read before
abbrev pub Steps : (T : StringTable) (s : List ℕ) (row : ℕ) (enter : Bool) (token before after : List ℕ) → Bool → Type 0
Steps T s row enter token before after answer =
    (t : List ℕ) (p : Tree) (h : List Read) → ShowsAt T s t row p → Proper p → HoldsMarks before p h
    → Stepped p (read enter token ∷ h) before after answer

-- the parts of a row of two parts, before a token
pub record TwoParts (T : StringTable) (s t : List ℕ) (row : ℕ) (p q : Tree) (h k : List Read)
    (before : List ℕ) : Type 0 where
  pub room : row < length before
  pub shows_a : ShowsAt T s t (a_of s row) p
  pub shows_b : ShowsAt T s t (b_of s row) q
  pub apart : Apart p q
  pub proper_a : Proper p
  pub proper_b : Proper q
  pub holds_a : HoldsMarks before p h
  pub holds_b : HoldsMarks before q k

-- after it: the row is marked where the second part is, or the first is and may be the last
pub record TwoStepped (row : ℕ) (p q : Tree) (h k : List Read) (last : Bool) (before after : List ℕ)
    (answer : Bool) : Type 0 where
  pub right : answer ≡ (done p h && last || done q k)
  pub size : length after ≡ length before
  pub own : marked after row ≡ answer
  pub first : HoldsMarks after p h
  pub then : HoldsMarks after q k
  pub kept : (i : ℕ) → ¬ (i ≡ row) → ¬ In i p → ¬ In i q → marked after i ≡ marked before i

abbrev pub TwoSteps : (T : StringTable) (s : List ℕ) (row : ℕ) (enter onward last : Bool)
    (token before after : List ℕ) → Bool → Type 0
TwoSteps T s row enter onward last token before after answer =
    (t : List ℕ) (p q : Tree) (h k : List Read) → TwoParts T s t row p q h k before
    → TwoStepped row p q (read enter token ∷ h) (read onward token ∷ k) last before after answer

-- a leaf takes the token where it is entered, and its mark is stored
pub record LeafSteps (T : StringTable) (s : List ℕ) (row : ℕ) (enter : Bool) (token before after : List ℕ)
    (answer : Bool) : Type 0 where
  pub stored : after ≡ set before row (mark answer)
  pub told : (t : List ℕ) (takes : List ℕ → Bool) → TakesAt T s t row takes → answer ≡ (enter && takes token)
