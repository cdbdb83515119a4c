-- What the words of a row answer, and what is marked by the functions that fill the tables; cited by private functions
-- only.
use Rattle.std.specs.Prelude.{ℕ, ◌≤◌, ◌<◌, cond, ◌&&◌, List, ◌≢◌, leb, length, get_or}
use Rattle.tables.specs.Tables.{StringTable, tables_of}
use Rattle.strings.specs.Strings.{schema_strings}
use Rattle.schema.specs.Kinds as kind
use Rattle.schema.specs.Relations.{connective, Occurs}
use Rattle.schema.specs.Rows.{rows_of, kind_of, a_of, b_of}
use Rattle.schema.specs.Views.{pattern_of}
use Rattle.instance.specs.Width.{max_width}
use Rattle.schema_restrictions.specs.Schema.{SchemaPasses}
use Rattle.matching_rules.specs.Reach.{Operand}
use Rattle.matching_marks.specs.Given.{item_at, Given}
use Rattle.matching_marks.specs.Marks.{LeafWord, AttributeWord, NamedWord, TakenWord, SingleWord}
use Rattle.matching_marks.specs.Marks.{RowMarked, PatternMarked, StayMarked, Marking}

-- as many attributes and items as there may be, and a word for row p in each table
pub record RowRoom (items marks named taken single : List ℕ) (attributes p : ℕ) : Type 0 where
  pub few_attributes : attributes ≤ max_width
  pub few_items : length items ≤ max_width
  pub in_marks : p < length marks
  pub in_named : p < length named
  pub in_taken : p < length taken
  pub in_single : p < length single

-- the operands of row p, which stands itself for one that is not there
unfoldable pub first_operand : List ℕ → ℕ → ℕ
first_operand s p = cond (connective (kind_of s p)) (a_of s p) p

unfoldable pub second_operand : List ℕ → ℕ → ℕ
second_operand s p = cond (leb kind.choice (kind_of s p) && leb (kind_of s p) kind.interleave) (b_of s p) p

-- P holds of the words of the operands of row p
abbrev pub AtOperands : List ℕ → (ℕ → ℕ → Type 0) → List ℕ → ℕ → Type 0
AtOperands s P words p = (r : ℕ) → Operand r (pattern_of s p) → P r (get_or words r 0)

module _ (s t alone nothing blank pairs items : List ℕ) (e attributes texts : ℕ) where
  abbrev pub LeafAnswer : (p w : ℕ) → Type 0
  LeafAnswer p w =
      (T : StringTable) → Given (tables_of T s t) alone nothing blank pairs items e attributes texts → p < rows_of s
      → LeafWord (tables_of T s t) e attributes (item_at T items texts) (length items) p w

  module _ (marks₀ named₀ taken₀ single₀ marks named taken single : List ℕ) where
    -- where its operands are marked
    abbrev pub RowAnswer : (p : ℕ) → Type 0
    RowAnswer p =
        (T : StringTable) → Given (tables_of T s t) alone nothing blank pairs items e attributes texts → p < rows_of s
        → ((r : ℕ) → Operand r (pattern_of s p) → RowMarked (tables_of T s t) e attributes (item_at T items texts)
        (length items) marks₀ named₀ taken₀ single₀ r)
        → StayMarked (tables_of T s t) e attributes (item_at T items texts) (length items) marks₀ named₀ taken₀ single₀
        marks named taken single
        × RowMarked (tables_of T s t) e attributes (item_at T items texts) (length items) marks named taken single p

    abbrev pub SmallerAnswer : (q p : ℕ) → Type 0
    SmallerAnswer q p =
        (T : StringTable) → Given (tables_of T s t) alone nothing blank pairs items e attributes texts → p < rows_of s
        → StayMarked (tables_of T s t) e attributes (item_at T items texts) (length items) marks₀ named₀ taken₀ single₀
        marks named taken single
        × (q < p → PatternMarked (tables_of T s t) e attributes (item_at T items texts) (length items)
        marks named taken single q)

    -- every row that occurs in the pattern at row p but p
    abbrev pub OperandsAnswer : (p : ℕ) → Type 0
    OperandsAnswer p =
        (T : StringTable) → Given (tables_of T s t) alone nothing blank pairs items e attributes texts → p < rows_of s
        → StayMarked (tables_of T s t) e attributes (item_at T items texts) (length items) marks₀ named₀ taken₀ single₀
        marks named taken single
        × ((q : ℕ) → Occurs s q p → q ≢ p → RowMarked (tables_of T s t) e attributes (item_at T items texts)
        (length items) marks named taken single q)

    abbrev pub PatternAnswer : (p : ℕ) → Type 0
    PatternAnswer p =
        (T : StringTable) → Given (tables_of T s t) alone nothing blank pairs items e attributes texts → p < rows_of s
        → Marking (tables_of T s t) e attributes (item_at T items texts) (length items)
        marks₀ named₀ taken₀ single₀ marks named taken single p

module _ (s t : List ℕ) (e attributes : ℕ) where
  abbrev pub NamedAnswer : (named : List ℕ) (p w : ℕ) → Type 0
  NamedAnswer named p w =
      (T : StringTable) → SchemaPasses (schema_strings T) s
      → AtOperands s (NamedWord (tables_of T s t) e attributes) named p → NamedWord (tables_of T s t) e attributes p w

module _ (s t items : List ℕ) (texts : ℕ) where
  abbrev pub TakenAnswer : (taken : List ℕ) (p w : ℕ) → Type 0
  TakenAnswer taken p w =
      (T : StringTable) → SchemaPasses (schema_strings T) s
      → AtOperands s (TakenWord (tables_of T s t) (item_at T items texts) (length items)) taken p
      → TakenWord (tables_of T s t) (item_at T items texts) (length items) p w

-- from the word of an attribute pattern
abbrev pub SingleAnswer : (s : List ℕ) (leaf : ℕ) (single : List ℕ) (p w : ℕ) → Type 0
SingleAnswer s leaf single p w =
    (T : StringTable) (t : List ℕ) (e attributes : ℕ) → SchemaPasses (schema_strings T) s
    → AttributeWord (tables_of T s t) e attributes p leaf
    → AtOperands s (SingleWord (tables_of T s t) e attributes) single p → SingleWord (tables_of T s t) e attributes p w
