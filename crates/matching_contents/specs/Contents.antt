-- What is collected of an element: how many attributes it has, and its children.
use Rattle.std.specs.Prelude.{ℕ, suc, ◌≤◌, ◌<◌, ◌≡◌, Bool, true, false, cond, ◌&&◌, List, ◌⊎◌, eqb, ltb, length, get_or}
use Rattle.instance.specs.Nodes.{text, nodes_of, kind_of, a_of, is_attribute}
use Rattle.instance.specs.NodeRule.{NodesRight}
use Rattle.instance.specs.Elements.{is_element, children_of}
use Rattle.instance.specs.Width.{max_width}
use Rattle.sets.specs.Bits.{bit}
use Rattle.matching_marks.specs.Marks.{attribute_row}

-- the n rows right after element e are its attributes, and the next is none of them; where there are more than an
-- element may have, n is one more than that
pub record Counted (t : List ℕ) (e n : ℕ) : Type 0 where
  pub attributes : (x : ℕ) → x < n → is_attribute t e (attribute_row e x) ≡ true
  pub few : n ≤ suc max_width
  pub last : (is_attribute t e (attribute_row e n) ≡ false) ⊎ (n ≡ suc max_width)

-- e is a row of a table whose rows keep their rule, beside some number of strings
pub record RightRow (t : List ℕ) (e : ℕ) : Type 0 where
  pub strings : ℕ
  pub right : NodesRight strings t
  pub row : e < nodes_of t

-- the first n words become the members of l, as far as there are words; the words after them are as they were
pub record Begins (before after l : List ℕ) (n : ℕ) : Type 0 where
  pub size : length after ≡ length before
  pub count : n ≡ length l
  pub each : (k : ℕ) → k < n → k < length before → get_or after k 0 ≡ get_or l k 0
  pub rest : (k : ℕ) → n ≤ k → get_or after k 0 ≡ get_or before k 0

-- an item as a word: a text by its string, an element by its row
abbrev pub item_word : List ℕ → ℕ → ℕ
item_word t r = cond (eqb (kind_of t r) text) (a_of t r) r

-- whether word k is a row of a kind
abbrev pub of_kind : (t words : List ℕ) (kind : ℕ) → ℕ → Bool
of_kind t words kind k = eqb (kind_of t (get_or words k 0)) kind

-- the first n rows as items
pub record Itemized (t before after : List ℕ) (n : ℕ) : Type 0 where
  pub size : length after ≡ length before
  pub each : (k : ℕ) → k < n → k < length before → get_or after k 0 ≡ item_word t (get_or before k 0)
  pub rest : (k : ℕ) → n ≤ k → get_or after k 0 ≡ get_or before k 0

-- element e has n children; item k, and where the two words have k, are child k
pub record Contents (t : List ℕ) (e : ℕ) (items : List ℕ) (n texts elements : ℕ) : Type 0 where
  pub count : n ≡ length (children_of t e)
  pub few : n ≤ max_width
  pub each : (k : ℕ) → k < n → get_or items k 0 ≡ item_word t (get_or (children_of t e) k 0)
  pub texts_at : (k : ℕ) → bit texts k ≡ (ltb k n && eqb (kind_of t (get_or (children_of t e) k 0)) text)
  pub elements_at : (k : ℕ) → bit elements k ≡ (ltb k n && is_element t (get_or (children_of t e) k 0))
