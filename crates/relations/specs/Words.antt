-- Relations on m positions held as m words: word i is the set of the positions j that i is related to.
use Rattle.std.specs.Prelude.{◌≡◌, true, false, List, ℕ, ◌≤◌, ◌<◌, length, get_or, take, drop}
use Rattle.sets.specs.Bits.{positions, bit}
use Rattle.relations.specs.Relations.{Relation}

-- the relation that words hold; a word past the end is the empty set
abbrev pub WordsRelate : List ℕ → Relation
WordsRelate ws i j = bit (get_or ws i 0) j ≡ true

-- the words hold R
pub record Is (ws : List ℕ) (R : Relation) : Type 0 where
  pub sound : (i j : ℕ) → WordsRelate ws i j → R i j
  pub complete : (i j : ℕ) → R i j → WordsRelate ws i j

-- r is the set of the positions that the words relate a member of s to
pub record Image (s : ℕ) (ws : List ℕ) (r : ℕ) : Type 0 where
  pub sound : (j : ℕ) → bit r j ≡ true → (h : ℕ) × (bit s h ≡ true) × WordsRelate ws h j
  pub complete : (h j : ℕ) → bit s h ≡ true → WordsRelate ws h j → bit r j ≡ true

-- the first relation of a lent run of words, and the next, which starts at the same word for any m
abbrev pub front : ℕ → List ℕ → List ℕ
front m w = take m w

abbrev pub next : ℕ → List ℕ → List ℕ
next m w = take m (drop positions w)

-- the m positions are positions of a word, and there are as many words as a function goes over
pub record WordRoom (m words : ℕ) (w : List ℕ) : Type 0 where
  pub few : m ≤ positions
  pub room : words ≤ length w

-- the words from m on are as they were
pub record Rest (m : ℕ) (before after : List ℕ) : Type 0 where
  pub size : length after ≡ length before
  pub past : drop m after ≡ drop m before

-- no position is related to one before it
abbrev pub Up : Relation → Type 0
Up R = (i j : ℕ) → R i j → i ≤ j

abbrev pub Empty : Relation
Empty i j = ⊥

-- no position of stop lies in [i, j)
abbrev pub Gap : (m stop : ℕ) → Relation
Gap m stop i j = (i ≤ j) × (j < m) × ((k : ℕ) → i ≤ k → k < j → bit stop k ≡ false)

-- exactly one position of all lies in [i, j), and it is marked
pub record Single (m all marked i j : ℕ) : Type 0 where
  pub end : j < m
  pub place : ℕ
  pub from : i ≤ place
  pub to : place < j
  pub member : bit all place ≡ true
  pub mark : bit marked place ≡ true
  pub only : (k : ℕ) → i ≤ k → k < j → bit all k ≡ true → k ≡ place
