-- What the relation of a pattern is, and the setting in which it is computed.
use Rattle.std.specs.Prelude.{ℕ, ◌+◌, ◌*◌, ◌≤◌, ◌<◌, ◌≡◌, true, List, length}
use Rattle.tables.specs.Tables.{StringTable, Tables, tables_of}
use Rattle.strings.specs.Strings.{schema_strings}
use Rattle.schema.specs.Rows.{rows_of}
use Rattle.schema_restrictions.specs.Schema.{SchemaPasses}
use Rattle.sets.specs.Bits.{positions, bit}
use Rattle.relations.specs.Relations.{Relation}
use Rattle.relations.specs.Words.{Is}
use Rattle.matching_rules.specs.Items.{Item}
use Rattle.matching_rules.specs.Rules.{NotMatchBy}
use Rattle.matching_rules.specs.Job.{lookups}
use Rattle.matching_rules.specs.Spans.{CleanAt, Distinct, Span}
use Rattle.matching_marks.specs.Marks.{attributes_in, PatternMarked}

-- an element, for a schema that passes: its attributes and items
pub record Setting (s : List ℕ) : Type 0 where
  pub strings : StringTable
  pub instance : List ℕ
  pub passes : SchemaPasses (schema_strings strings) s
  pub element : ℕ
  pub attributes : ℕ
  pub it : ℕ → Item
  pub items : ℕ

module _ {s : List ℕ} (S : Setting s) where
  abbrev pub tables_in : Tables
  tables_in = tables_of S.strings s S.instance

  -- the attributes a and the items k are of the element; no two of the attributes have one name, and no whitespace
  -- stands beside an element
  pub record Asked (a k : ℕ) : Type 0 where
    pub of_attributes : (x : ℕ) → bit a x ≡ true → x < S.attributes
    pub of_items : (x : ℕ) → bit k x ≡ true → x < S.items
    pub distinct : Distinct (lookups tables_in) (attributes_in S.element a)
    pub clean : CleanAt (lookups tables_in) S.it (bit k)

  -- i and j, of m positions, are related where the attributes a and the items of k in [i, j) match the pattern at row p
  abbrev pub Related : (m a k p : ℕ) → Relation
  Related m a k p i j =
      (j < m)
      × Span (lookups tables_in) (NotMatchBy (lookups tables_in) (rows_of s)) (attributes_in S.element a)
      S.it (bit k) p i j

  -- the tables hold, for every row that occurs in the pattern at row p, what that does with the attributes and items of
  -- the element
  abbrev pub Covered : (marks named taken single : List ℕ) (p : ℕ) → Type 0
  Covered = PatternMarked tables_in S.element S.attributes S.it S.items

module _ (s marks named taken single : List ℕ) (m a k p : ℕ) where
  -- there is an element whose tables cover the pattern at row p, and there are words for the relations of its rows
  pub record Relatable (work : List ℕ) : Type 0 where
    pub setting : Setting s
    pub asked : Asked setting a k
    pub covered : Covered setting marks named taken single p
    pub few : m ≤ positions
    pub room : positions * (p + 1) ≤ length work

  -- the words hold the relation of row p for every element whose tables cover it
  abbrev pub HoldsRelated : List ℕ → Type 0
  HoldsRelated words =
      (S : Setting s) → Asked S a k → Covered S marks named taken single p → Is words (Related S m a k p)
