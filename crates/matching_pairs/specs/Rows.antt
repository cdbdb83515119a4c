-- One row of the table of pairs while it is filled; cited by private functions only.
use Rattle.std.specs.Prelude.{ℕ, ◌+◌, ◌*◌, ◌≤◌, ◌<◌, ◌≡◌, Bool, true, false, not, ◌&&◌, List, ◌↔◌, ◌⊎◌, ◌≢◌, eqb}
use Rattle.std.specs.Prelude.{length, get_or, take}
use Rattle.tables.specs.Tables.{StringTable, Tables, tables_of}
use Rattle.schema.specs.Rows.{rows_of}
use Rattle.schema.specs.RowRule.{max_rows}
use Rattle.schema.specs.Definitions.{is_definition}
use Rattle.instance.specs.NodeRule.{max_nodes}
use Rattle.instance.specs.Elements.{is_element}
use Rattle.instance.specs.Nodes as node
use Rattle.instance.specs.Width.{max_width}
use Rattle.sets.specs.Bits.{positions, bit}
use Rattle.matching_rules.specs.Rules.{OkAsChildren, WeakMatch, NotMatchBy}
use Rattle.matching_rules.specs.Job.{lookups}
use Rattle.matching_rules.specs.Spans.{CleanAt, Distinct, Span}
use Rattle.matching_alone.specs.Alone.{Filled}
use Rattle.matching_marks.specs.Marks.{attributes_in}
use Rattle.matching_marks.specs.Given.{item_at, pair_entry, Given}
use Rattle.sets.specs.Collecting.{Collects}
use Rattle.matching_contents.specs.Contents.{Counted, Contents}
use Rattle.matching.specs.Setting.{Setting, Related}
use Rattle.matching_pairs.specs.Pairs.{IsPair, TablesPass, PairsFrom}

module _ {s : List ℕ} (S : Setting s) where
  -- all items of k, of the first n, match the pattern at row p; or, where the content is whitespace, no item does
  -- (9.3.7, weak match 2)
  abbrev pub Fits : (n a k : ℕ) (weak : Bool) (p : ℕ) → Type 0
  Fits n a k weak p = Related S (n + 1) a k p 0 n ⊎ ((weak ≡ true) × Related S (n + 1) a 0 p 0 n)

-- nothing but the row of e has changed
pub record RowKept (before after : List ℕ) (e : ℕ) : Type 0 where
  pub size : length after ≡ length before
  pub kept : (x d : ℕ) → x ≢ e → d < max_rows → pair_entry after x d ≡ pair_entry before x d

-- the entries of e at the first n definitions are right, and the others as before
pub record RowTold (J : Tables) (definitions before after : List ℕ) (e n : ℕ) : Type 0 where
  pub others : RowKept before after e
  pub told : (j : ℕ) → j < n → (pair_entry after e (get_or definitions j 0) ≡ 1) ↔ IsPair J e (get_or definitions j 0)
  pub rest : (d : ℕ) → d < max_rows → ((j : ℕ) → j < n → get_or definitions j 0 ≢ d)
      → pair_entry after e d ≡ pair_entry before e d

-- the attributes a and the items k of element e stand for all of it: its content matches weakly exactly where they fit
pub record Shown (J : Tables) (items : List ℕ) (e attributes texts a k : ℕ) (weak : Bool) : Type 0 where
  pub of_attributes : (x : ℕ) → bit a x ≡ true → x < attributes
  pub of_items : (x : ℕ) → bit k x ≡ true → x < length items
  pub distinct : Distinct (lookups J) (attributes_in e a)
  pub clean : CleanAt (lookups J) (item_at J.strings items texts) (bit k)
  pub ordered : OkAsChildren ((lookups J).children e)
  pub content : (d : ℕ) → (lookups J).is_definition d ≡ true
      → WeakMatch (lookups J) (NotMatchBy (lookups J) (rows_of J.schema)) ((lookups J).attributes e)
      ((lookups J).children e) ((lookups J).pattern ((lookups J).content d))
      ↔ (Span (lookups J) (NotMatchBy (lookups J) (rows_of J.schema)) (attributes_in e a)
      (item_at J.strings items texts) (bit k) ((lookups J).content d) 0 (length items)
      ⊎ ((weak ≡ true) × Span (lookups J) (NotMatchBy (lookups J) (rows_of J.schema)) (attributes_in e a)
      (item_at J.strings items texts) (bit 0) ((lookups J).content d) 0 (length items)))

-- the row of element e is right
pub record RowRight (J : Tables) (before after : List ℕ) (e : ℕ) : Type 0 where
  pub others : RowKept before after e
  pub right : (d : ℕ) → d < rows_of J.schema → (pair_entry after e d ≡ 1) ↔ IsPair J e d

-- the position is an element, or a string that is not whitespace
abbrev pub is_solid : (blank items : List ℕ) (texts : ℕ) → ℕ → Bool
is_solid blank items texts k = not (bit texts k && eqb (get_or blank (get_or items k 0) 0) 1)

-- what is known while the table of pairs is filled: the entries from row r on are right, and those before it are 0
pub record Filling (J : Tables) (alone nothing blank pairs : List ℕ) (r : ℕ) : Type 0 where
  pub pass : TablesPass J
  pub filled : Filled J.strings J.schema alone nothing blank
  pub from : PairsFrom J pairs r
  pub empty : (e d : ℕ) → e < r → d < max_rows → pair_entry pairs e d ≡ 0

-- what is known of element e before its entries: those of the later rows, its attributes and its content
pub record Known (J : Tables) (alone nothing blank pairs items : List ℕ)
    (e attributes a n texts elements : ℕ) : Type 0 where
  pub filling : Filling J alone nothing blank pairs (e + 1)
  pub in_table : e < node.nodes_of J.instance
  pub counted : Counted J.instance e attributes
  pub few : attributes ≤ max_width
  pub all : Collects (λ k. true) attributes a
  pub contents : Contents J.instance e items n texts elements

-- what the items of an element are asked with
pub record ElementReady (J : Tables) (alone nothing blank pairs items : List ℕ) (e attributes texts a k : ℕ)
    (weak : Bool) : Type 0 where
  pub given : Given J alone nothing blank pairs items e attributes texts
  pub shown : Shown J items e attributes texts a k weak
  -- the elements among the items have rows of their own, and that of e is empty
  pub apart : (x : ℕ) → x < length items → bit texts x ≡ false → get_or items x 0 ≢ e
  pub empty : (d : ℕ) → d < max_rows → pair_entry pairs e d ≡ 0

-- the first `count` items of after stand for the content that the n items of before are
pub record StandsFor (blank before after : List ℕ) (n texts elements count strings k : ℕ) (weak : Bool) : Type 0 where
  pub few : count ≤ max_width
  pub ready : (J : Tables) (alone nothing pairs : List ℕ) (e attributes a : ℕ)
      → Known J alone nothing blank pairs before e attributes a n texts elements
      → ElementReady J alone nothing blank pairs (take count after) e attributes strings a k weak

-- ---- what the functions that fill the table are asked with

-- the words lent for the rows of a pattern and for relations
pub record Space (marks named taken single work : List ℕ) : Type 0 where
  pub for_marks : max_rows ≤ length marks
  pub for_named : max_rows ≤ length named
  pub for_taken : max_rows ≤ length taken
  pub for_single : max_rows ≤ length single
  pub for_work : positions * max_rows ≤ length work

-- an element and a definition, for some strings
pub record PairAsked (s t alone nothing blank pairs items : List ℕ) (e attributes texts a k : ℕ) (weak : Bool)
    (d : ℕ) : Type 0 where
  pub strings : StringTable
  pub given : Given (tables_of strings s t) alone nothing blank pairs items e attributes texts
  pub shown : Shown (tables_of strings s t) items e attributes texts a k weak
  pub element : is_element t e ≡ true
  pub defined : is_definition s d ≡ true
  pub row : d < rows_of s

-- the row of an element that its items stand for, for some strings
pub record RowAsked (s t alone nothing blank pairs items : List ℕ) (e attributes texts a k : ℕ)
    (weak : Bool) : Type 0 where
  pub strings : StringTable
  pub ready : ElementReady (tables_of strings s t) alone nothing blank pairs items e attributes texts a k weak
  pub element : is_element t e ≡ true
  pub room : max_nodes * max_rows ≤ length pairs
  pub row : e < max_nodes

-- instance row e, where the entries of the later rows are right for some strings
pub record NodeAsked (s t alone nothing blank pairs items : List ℕ) (e : ℕ) : Type 0 where
  pub strings : StringTable
  pub filling : Filling (tables_of strings s t) alone nothing blank pairs (e + 1)
  pub row : e < node.nodes_of t
  pub room : max_nodes * max_rows ≤ length pairs
  pub room_items : max_width < length items

-- the whole table, with no entry yet
pub record TableAsked (s t alone nothing blank pairs items : List ℕ) : Type 0 where
  pub strings : StringTable
  pub filling : Filling (tables_of strings s t) alone nothing blank pairs (node.nodes_of t)
  pub room : max_nodes * max_rows ≤ length pairs
  pub room_items : max_width < length items
