-- The tokens of a text against the pattern at a row: what a caller shows, and what it is told.
use Rattle.std.specs.Prelude.{ℕ, ◌+◌, ◌*◌, ◌≤◌, ◌≡◌, Bool, ◌↔◌, List, [], ◌∷◌, map, length, get_or}
use Rattle.tables.specs.Answers.{Decides}
use Rattle.tables.specs.Place.{between}
use Rattle.tables.specs.Tables.{StringTable, tables_of}
use Rattle.strings.specs.Strings.{text_of, max_bytes, schema_strings}
use Rattle.datatypes.specs.Split.{Token, split}
use Rattle.schema.specs.Views.{pattern_of}
use Rattle.schema_restrictions.specs.Schema.{SchemaPasses}
use Rattle.matching_rules.specs.Items.{Item, string, no_attributes}
use Rattle.matching_rules.specs.Rules.{Matches}
use Rattle.matching_rules.specs.Job.{lookups}
use Rattle.matching_rules.specs.Restricted.{Listable}

-- the part of a text from one position up to another is a token exactly where that is the one token of the text
abbrev pub OneToken : (s : List ℕ) (from to : ℕ) → Type 0
OneToken s from to = (t : List ℕ) → Token t → (between s from to ≡ t) ↔ (split s ≡ t ∷ [])

-- two words a string: where its one token begins and ends in its text
abbrev pub TokenPlaces : StringTable → List ℕ → Type 0
TokenPlaces T places = (k : ℕ) → OneToken (text_of T k) (get_or places (k * 2) 0) (get_or places (k * 2 + 1) 0)

-- room for them
pub record PlaceRoom (T : StringTable) (places : List ℕ) : Type 0 where
  pub few_bytes : length T.bytes ≤ max_bytes
  pub long : length T.ends * 2 ≤ length places

-- What the pattern at a row matches with no attributes, whatever the instance is.
module _ (T : StringTable) (s : List ℕ) where
  abbrev pub MatchesAt : (t : List ℕ) → ℕ → List Item → Type 0
  MatchesAt t p m = Matches (lookups (tables_of T s t)) no_attributes m (pattern_of s p)

  abbrev pub DecidesAt : ℕ → List Item → Bool → Type 0
  DecidesAt p m answer = (t : List ℕ) → Decides (MatchesAt t p m) answer

  -- the patterns up to row p that match the empty sequence
  abbrev pub NothingUpTo : (nothing : List ℕ) (p : ℕ) → Type 0
  NothingUpTo nothing p = (t : List ℕ) (q : ℕ) → q ≤ p → (get_or nothing q 0 ≡ 1) ↔ MatchesAt t q []

  -- what a caller shows: the schema passes, both tables are right, and the pattern at row p may stand in a list
  pub record ListReady (places nothing : List ℕ) (p : ℕ) : Type 0 where
    pub passes : SchemaPasses (schema_strings T) s
    pub placed : TokenPlaces T places
    pub nulls : NothingUpTo nothing p
    pub listable : (t : List ℕ) → Listable (lookups (tables_of T s t)) (pattern_of s p)

  -- whether the tokens of a text match the pattern at row p
  abbrev pub TokensMatch : (text : List ℕ) (p : ℕ) → Bool → Type 0
  TokensMatch text p answer = DecidesAt p (map string (split text)) answer
