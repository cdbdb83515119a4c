-- What the words of an element are made from.
use Rattle.std.specs.Prelude.{ℕ, ◌+◌, ◌*◌, ◌<◌, ◌≤◌, ◌≡◌, true, false, cond, List, ◌↔◌, length, get_or}
use Rattle.tables.specs.Tables.{StringTable, Tables, tables_of}
use Rattle.strings.specs.Strings.{text_of, max_strings, schema_strings, instance_strings}
use Rattle.schema.specs.Rows.{rows_of}
use Rattle.schema.specs.RowRule.{max_rows}
use Rattle.instance.specs.Nodes.{c_of}
use Rattle.instance.specs.Width.{max_width}
use Rattle.schema_restrictions.specs.Schema.{SchemaPasses}
use Rattle.sets.specs.Bits.{bit}
use Rattle.matching_rules.specs.Items.{Item, element, string}
use Rattle.matching_rules.specs.Rules.{NotMatchBy}
use Rattle.matching_rules.specs.Job.{lookups}
use Rattle.matching_rules.specs.Spans.{Paired}
use Rattle.matching_alone.specs.Alone.{Alone, Blank}
use Rattle.matching_marks.specs.Marks.{attribute_row, Marking}

-- item k: a string by its number where texts has k, and otherwise an element by its row
abbrev pub item_at : (T : StringTable) (items : List ℕ) (texts : ℕ) → ℕ → Item
item_at T items texts k = cond (bit texts k) (string (text_of T (get_or items k 0))) (element (get_or items k 0))

-- the entry of instance row e and definition d in the table of pairs
abbrev pub pair_entry : List ℕ → ℕ → ℕ → ℕ
pair_entry pairs e d = get_or pairs (e * max_rows + d) 0

pub record Given (J : Tables) (alone nothing blank pairs items : List ℕ) (e attributes texts : ℕ) : Type 0 where
  pub passes : SchemaPasses (schema_strings J.strings) J.schema
  pub few_strings : instance_strings J.strings ≤ max_strings
  pub alone_right : Alone J.strings J.schema alone nothing (rows_of J.schema)
  pub blank_right : Blank J.strings blank
  pub few_attributes : attributes ≤ max_width
  pub few_items : length items ≤ max_width
  -- the attributes' values and the strings among the items are in the table of strings
  pub values : (x : ℕ) → x < attributes → c_of J.instance (attribute_row e x) < instance_strings J.strings
  pub strings : (k : ℕ) → k < length items → bit texts k ≡ true → get_or items k 0 < instance_strings J.strings
  -- the elements among the items have their pairs
  pub elements : (k d : ℕ) → k < length items → bit texts k ≡ false → d < rows_of J.schema
      → (pair_entry pairs (get_or items k 0) d ≡ 1) ↔ Paired (lookups J)
      (NotMatchBy (lookups J) (rows_of J.schema)) (get_or items k 0) d

module _ (s t alone nothing blank pairs items : List ℕ) (e attributes texts p : ℕ) where
  -- there are strings for which the tables of an element are right, and the tables of words have room for every row
  pub record Markable (marks named taken single : List ℕ) : Type 0 where
    pub strings : StringTable
    pub given : Given (tables_of strings s t) alone nothing blank pairs items e attributes texts
    pub row : p < rows_of s
    pub room_marks : rows_of s ≤ length marks
    pub room_named : rows_of s ≤ length named
    pub room_taken : rows_of s ≤ length taken
    pub room_single : rows_of s ≤ length single

  -- the pattern at row p is marked, for all strings for which the tables of the element are right
  pub record MarksPattern (marks₀ named₀ taken₀ single₀ marks named taken single : List ℕ) : Type 0 where
    pub marking : (T : StringTable) → Given (tables_of T s t) alone nothing blank pairs items e attributes texts
        → Marking (tables_of T s t) e attributes (item_at T items texts) (length items)
        marks₀ named₀ taken₀ single₀ marks named taken single p
