-- One row of the table while it is filled; cited by private functions only.
use Rattle.std.specs.Prelude.{ℕ, ◌*◌, ◌≤◌, ◌<◌, ◌≡◌, Bool, ◌↔◌, ◌⊎◌, ◌≢◌, List, map, length, get_or}
use Rattle.tables.specs.Tables.{StringTable, tables_of}
use Rattle.schema.specs.Kinds as kind
use Rattle.schema.specs.Rows.{kind_of, a_of, b_of}
use Rattle.schema.specs.Views.{pattern_of}
use Rattle.strings.specs.Strings.{text_of, max_bytes, max_strings, schema_strings, instance_strings}
use Rattle.schema_restrictions.specs.Schema.{SchemaPasses}
use Rattle.datatypes.specs.Whitespace.{trim_start}
use Rattle.datatypes.specs.Split.{split}
use Rattle.matching_rules.specs.Items.{string, no_attributes}
use Rattle.matching_rules.specs.Rules.{Matches}
use Rattle.matching_rules.specs.Job.{lookups, datatype_equal}
use Rattle.matching_tokens.specs.MarkTable.{mark}
use Rattle.matching_alone.specs.Alone.{entry, TellsString, TellsNothing, Alone}

-- the answer v for string k by the rows that come before: it is in one of two
abbrev pub EitherOf : (alone : List ℕ) (a b k v : ℕ) → Type 0
EitherOf alone a b k v = (v ≡ 1) ↔ ((entry alone a k ≡ 1) ⊎ (entry alone b k ≡ 1))

-- it is not in one
abbrev pub NotOf : (alone : List ℕ) (a k v : ℕ) → Type 0
NotOf alone a k v = (v ≡ 1) ↔ ¬ (entry alone a k ≡ 1)

-- data: 1 without an except, and otherwise where the except's entry is not 1
pub record DataEntry (alone : List ℕ) (except k v : ℕ) : Type 0 where
  pub all : except ≡ kind.no_row → v ≡ 1
  pub but : except ≢ kind.no_row → NotOf alone except k v

-- one of two patterns matches the string alone, and the other the empty sequence
abbrev pub OneSide : (alone nothing : List ℕ) (a b k : ℕ) → Type 0
OneSide alone nothing a b k =
    ((entry alone a k ≡ 1) × (get_or nothing b 0 ≡ 1)) ⊎ ((get_or nothing a 0 ≡ 1) × (entry alone b k ≡ 1))

abbrev pub OneOf : (alone nothing : List ℕ) (a b k v : ℕ) → Type 0
OneOf alone nothing a b k v = (v ≡ 1) ↔ OneSide alone nothing a b k

-- the string is one value with string w
abbrev pub EqualTo : (T : StringTable) (datatype w k v : ℕ) → Type 0
EqualTo T datatype w k v = (v ≡ 1) ↔ datatype_equal datatype (text_of T k) (text_of T w)

-- the tokens of the string match the pattern at row a, whatever the instance is
abbrev pub TokensTo : (T : StringTable) (s : List ℕ) (a k v : ℕ) → Type 0
TokensTo T s a k v =
    (t : List ℕ)
    → (v ≡ 1) ↔ Matches (lookups (tables_of T s t)) no_attributes (map string (split (text_of T k))) (pattern_of s a)

-- row q comes before row p, and is a value with the same fields
pub record SameRow (s : List ℕ) (q p : ℕ) : Type 0 where
  pub before : q < p
  pub is_value : kind_of s q ≡ kind.value
  pub same_datatype : a_of s q ≡ a_of s p
  pub same_string : b_of s q ≡ b_of s p

-- the first character of a text that is no whitespace character, 0 where there is none
abbrev pub lead_of : List ℕ → ℕ
lead_of text = get_or (trim_start text) 0 0

-- the leads of the first n strings
abbrev pub LeadsTo : (T : StringTable) (leads : List ℕ) (n : ℕ) → Type 0
LeadsTo T leads n = (k : ℕ) → k < n → get_or leads k 0 ≡ lead_of (text_of T k)

-- the answer for the empty sequence at row p, where the rows before it are right
abbrev pub NothingAt : (s nothing : List ℕ) (p v : ℕ) → Type 0
NothingAt s nothing p v =
    (T : StringTable) (t alone : List ℕ) → SchemaPasses (schema_strings T) s → Alone T s alone nothing p
    → TellsNothing (tables_of T s t) p v

-- the answer for string k at row p, where the rows before it are right
abbrev pub StringAt : (T : StringTable) (s alone nothing : List ℕ) (p k v : ℕ) → Type 0
StringAt T s alone nothing p k v =
    (t : List ℕ) → SchemaPasses (schema_strings T) s → Alone T s alone nothing p → k < instance_strings T
    → TellsString (tables_of T s t) p k v

-- the first n entries of row p are as f tells, and nothing before the row has changed
pub record RowOf (f : ℕ → ℕ → Type 0) (before after : List ℕ) (p n : ℕ) : Type 0 where
  pub size : length after ≡ length before
  pub kept : (i : ℕ) → i < p * max_strings → get_or after i 0 ≡ get_or before i 0
  pub each : (k : ℕ) → k < n → f k (entry after p k)

-- v is 1 where a test says yes of string k, and 0 where it says no: it may say b of it where says k b
abbrev pub SaidBy : (says : ℕ → Bool → Type 0) (k v : ℕ) → Type 0
SaidBy says k v = (b : Bool) × says k b × (v ≡ mark b)

-- the entries of row p are right, where those of the rows before it are
abbrev pub RowMade : (T : StringTable) (s before nothing after : List ℕ) (p : ℕ) → Type 0
RowMade T s before nothing after p =
    SchemaPasses (schema_strings T) s → Alone T s before nothing p
    → RowOf (λ k v. (t : List ℕ) → TellsString (tables_of T s t) p k v) before after p (instance_strings T)

-- the row of pattern p can be filled: the schema passes, there are few bytes, and the rows before p are right
pub record Fillable (T : StringTable) (s alone nothing : List ℕ) (p : ℕ) : Type 0 where
  pub passes : SchemaPasses (schema_strings T) s
  pub few_bytes : length T.bytes ≤ max_bytes
  pub few_strings : instance_strings T ≤ max_strings
  pub before : Alone T s alone nothing p

-- and is a list with its pattern at row a
pub record FillableList (T : StringTable) (s alone nothing : List ℕ) (p a : ℕ) : Type 0 where
  pub row : Fillable T s alone nothing p
  pub is_list : kind_of s p ≡ kind.list
  pub field : a ≡ a_of s p
