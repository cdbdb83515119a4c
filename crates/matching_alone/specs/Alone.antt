-- A table of what each pattern of a schema does with one string, and with nothing.
use Rattle.std.specs.Prelude.{ℕ, ◌+◌, ◌*◌, ◌<◌, ◌≤◌, ◌≡◌, true, List, [], ◌∷◌, ◌↔◌, length, get_or}
use Rattle.tables.specs.Tables.{StringTable, Tables, tables_of}
use Rattle.strings.specs.Strings.{text_of, max_bytes, max_strings, schema_strings, instance_strings}
use Rattle.datatypes.specs.Whitespace.{whitespace}
use Rattle.schema.specs.Rows.{rows_of}
use Rattle.schema.specs.RowRule.{max_rows}
use Rattle.schema.specs.Views.{pattern_of}
use Rattle.schema_restrictions.specs.Schema.{SchemaPasses}
use Rattle.matching_rules.specs.Items.{string, no_attributes}
use Rattle.matching_rules.specs.Rules.{Matches}
use Rattle.matching_rules.specs.Job.{lookups}

-- the entry of string k in the row of pattern p
abbrev pub entry : List ℕ → ℕ → ℕ → ℕ
entry alone p k = get_or alone (p * max_strings + k) 0

-- the strings that are whitespace
abbrev pub Blank : StringTable → List ℕ → Type 0
Blank T blank = (k : ℕ) → k < instance_strings T → (get_or blank k 0 ≡ 1) ↔ (whitespace (text_of T k) ≡ true)

-- v is 1 exactly when the string alone, with no attributes, matches the pattern at row p
abbrev pub TellsString : (J : Tables) (p k v : ℕ) → Type 0
TellsString J p k v =
    (v ≡ 1) ↔ Matches (lookups J) no_attributes (string (text_of J.strings k) ∷ []) (pattern_of J.schema p)

-- and so the empty sequence
abbrev pub TellsNothing : (J : Tables) (p v : ℕ) → Type 0
TellsNothing J p v = (v ≡ 1) ↔ Matches (lookups J) no_attributes [] (pattern_of J.schema p)

-- the entries of the rows before n, whatever the instance is
pub record Alone (T : StringTable) (s alone nothing : List ℕ) (n : ℕ) : Type 0 where
  pub strings : (t : List ℕ) (p k : ℕ) → p < n → k < instance_strings T
      → TellsString (tables_of T s t) p k (entry alone p k)
  pub empty : (t : List ℕ) (p : ℕ) → p < n → TellsNothing (tables_of T s t) p (get_or nothing p 0)

-- the schema passes, and the tables have room for all rows and strings
pub record FillReady (T : StringTable) (s alone nothing blank : List ℕ) : Type 0 where
  pub passes : SchemaPasses (schema_strings T) s
  pub few_bytes : length T.bytes ≤ max_bytes
  pub few_strings : instance_strings T ≤ max_strings
  pub long_alone : max_rows * max_strings ≤ length alone
  pub long_nothing : max_rows ≤ length nothing
  pub long_blank : max_strings ≤ length blank

-- the three tables are right
pub record Filled (T : StringTable) (s alone nothing blank : List ℕ) : Type 0 where
  pub entries : Alone T s alone nothing (rows_of s)
  pub blanks : Blank T blank
