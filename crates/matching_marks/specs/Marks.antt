-- What each pattern does with one attribute or one item of an element, as sets in words, one word a schema row.
use Rattle.std.specs.Prelude.{ℕ, suc, ◌+◌, ◌-◌, ◌<◌, ◌≡◌, true, ◌&&◌, List, [], ◌∷◌, ◌↔◌, get_or, ltb}
use Rattle.tables.specs.Tables.{Tables}
use Rattle.schema.specs.Relations.{Occurs}
use Rattle.schema.specs.Rows.{rows_of}
use Rattle.schema.specs.Views.{Pattern, attribute, pattern_of}
use Rattle.sets.specs.Bits.{bit}
use Rattle.matching_rules.specs.Items.{Item, element, string, Attributes, no_attributes, only, Lookups}
use Rattle.matching_rules.specs.Rules.{Match, WeakMatch, NotMatchBy}
use Rattle.matching_rules.specs.Job.{lookups}
use Rattle.matching_rules.specs.Reach.{Role, strings, one_string, an_attribute, an_element, sharing}
use Rattle.matching_rules.specs.Reach.{another, role_of, Reaches, names_attribute, takes, takes_any}
use Rattle.matching_rules.specs.Restricted.{Flat}
use Rattle.matching_rules.specs.Spans.{Paired}

-- attribute x of element e stands at row e + 1 + x; a set of its attributes by a word
abbrev pub attribute_row : ℕ → ℕ → ℕ
attribute_row e x = suc e + x

abbrev pub attributes_in : ℕ → ℕ → Attributes
attributes_in e a r = ltb e r && bit a (r - suc e)

module _ (L : Lookups) where
  abbrev NotMatch : List ℕ → ℕ → Type 0
  NotMatch = NotMatchBy L L.rows

  -- y is a string as asked
  abbrev pub IsString : (List ℕ → Type 0) → Item → Type 0
  IsString Asked (element e) = ⊥
  IsString Asked (string s) = Asked s

  -- y is an element that is paired with a definition
  abbrev pub IsPaired : ℕ → Item → Type 0
  IsPaired d (element e) = Paired L NotMatch e d
  IsPaired d (string s) = ⊥

  -- what one item must be for a pattern that takes items: text takes any string
  abbrev pub TakesBy : Pattern → Role → Item → Type 0
  TakesBy x strings y = IsString (λ s. Unit {0}) y
  TakesBy x one_string y = IsString (λ s. Match L NotMatch no_attributes (string s ∷ []) x) y
  TakesBy x (an_attribute nc) y = ⊥
  TakesBy x (an_element d) y = IsPaired d y
  TakesBy x sharing y = ⊥
  TakesBy x another y = ⊥

  abbrev pub Takes : Pattern → Item → Type 0
  Takes x y = TakesBy x (role_of x) y

  -- the premises of (attribute) for instance row r
  pub record TakesAttribute (nc p r : ℕ) : Type 0 where
    pub named : L.in_class nc r ≡ true
    pub valued : WeakMatch L NotMatch no_attributes (string (L.value r) ∷ []) (L.pattern p)

-- what the word of row p is in each of the four tables
module _ (J : Tables) where
  abbrev L : Lookups
  L = lookups J

  abbrev pub AttributeWord : (e attributes p w : ℕ) → Type 0
  AttributeWord e attributes p w =
      (nc q x : ℕ) → pattern_of J.schema p ≡ attribute nc q → x < attributes
      → (bit w x ≡ true) ↔ TakesAttribute L nc q (attribute_row e x)

  -- the items that a pattern which takes items takes, and the attributes that an attribute pattern takes
  pub record LeafWord (e attributes : ℕ) (it : ℕ → Item) (items p w : ℕ) : Type 0 where
    pub leaves : (k : ℕ) → k < items → takes_any (pattern_of J.schema p) ≡ true
        → (bit w k ≡ true) ↔ Takes L (pattern_of J.schema p) (it k)
    pub attribute_leaves : AttributeWord e attributes p w

  -- the attributes that an attribute pattern reached from p names
  abbrev pub NamedWord : (e attributes p w : ℕ) → Type 0
  NamedWord e attributes p w =
      (x : ℕ) → x < attributes
      → (bit w x ≡ true) ↔ Reaches L (names_attribute L (attribute_row e x)) (pattern_of J.schema p)

  -- the items that a pattern reached from p takes
  abbrev pub TakenWord : (it : ℕ → Item) (items p w : ℕ) → Type 0
  TakenWord it items p w = (k : ℕ) → k < items → (bit w k ≡ true) ↔ Reaches L (takes L (it k)) (pattern_of J.schema p)

  -- the attributes that match p alone, where none stands in a group or interleave
  abbrev pub SingleWord : (e attributes p w : ℕ) → Type 0
  SingleWord e attributes p w =
      (x : ℕ) → x < attributes → Flat L (pattern_of J.schema p)
      → (bit w x ≡ true)
      ↔ Match L (NotMatchBy L (rows_of J.schema)) (only (attribute_row e x)) [] (pattern_of J.schema p)

-- for an element e with so many attributes, whose items are the first so many of it
module _ (J : Tables) (e attributes : ℕ) (it : ℕ → Item) (items : ℕ) where
  -- the words of row p are right
  pub record RowMarked (marks named taken single : List ℕ) (p : ℕ) : Type 0 where
    pub leaf : LeafWord J e attributes it items p (get_or marks p 0)
    pub names : NamedWord J e attributes p (get_or named p 0)
    pub takers : TakenWord J it items p (get_or taken p 0)
    pub singles : SingleWord J e attributes p (get_or single p 0)

  -- and so are those of every row that occurs in the pattern at row p
  pub record PatternMarked (marks named taken single : List ℕ) (p : ℕ) : Type 0 where
    pub rows : (q : ℕ) → Occurs J.schema q p → RowMarked marks named taken single q

  -- from the tables before to those after, a row that is marked stays so
  pub record StayMarked (marks₀ named₀ taken₀ single₀ marks named taken single : List ℕ) : Type 0 where
    pub stays : (q : ℕ) → RowMarked marks₀ named₀ taken₀ single₀ q → RowMarked marks named taken single q

  -- the pattern at row p is marked besides
  pub record Marking (marks₀ named₀ taken₀ single₀ marks named taken single : List ℕ) (p : ℕ) : Type 0 where
    pub kept : StayMarked marks₀ named₀ taken₀ single₀ marks named taken single
    pub pattern : PatternMarked marks named taken single p
