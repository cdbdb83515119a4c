-- What the parts of a relation's computation hold, before they are joined to the relation of a row.
use Rattle.std.specs.Prelude.{ℕ, ◌+◌, ◌*◌, ◌≤◌, ◌<◌, ◌≡◌, true, false, List, length}
use Rattle.schema.specs.Rows.{kind_of, a_of, b_of}
use Rattle.schema.specs.Relations.{connective}
use Rattle.sets.specs.Bits.{positions, bit, Only}
use Rattle.relations.specs.Relations.{Relation, Or, Plus}
use Rattle.relations.specs.Words.{Gap, front, next}
use Rattle.matching.specs.Setting.{Setting, Asked, Covered, HoldsRelated}

-- R under a condition
abbrev pub Where : Type 0 → Relation → Relation
Where P R i j = P × R i j

-- the one member of a is in marked
abbrev pub OneIn : ℕ → ℕ → Type 0
OneIn a marked = (x : ℕ) × Only a x × (bit marked x ≡ true)

-- the members of a are in b
abbrev pub Subset : ℕ → ℕ → Type 0
Subset a b = (x : ℕ) → bit a x ≡ true → bit b x ≡ true

-- each attribute of a matches alone; then come steps of R, or, beside attributes, no items
abbrev pub Repetition : (m a k alone : ℕ) → Relation → Relation
Repetition m a k alone R = Where (Subset a alone) (Or (Plus R) (Where (0 < a) (Gap m k)))

-- the words hold the relation of row p, if that has no operands
abbrev pub HoldsLeaf : (s marks : List ℕ) (m a k p : ℕ) → List ℕ → Type 0
HoldsLeaf s marks m a k p words =
    connective (kind_of s p) ≡ false → (named taken single : List ℕ)
    → HoldsRelated s marks named taken single m a k p words

-- the operands of row p are smaller rows, each with its share of the attributes and items
pub record SharedOut (s marks named taken single : List ℕ) (m p a₁ k₁ a₂ k₂ : ℕ) (work : List ℕ) : Type 0 where
  pub setting : Setting s
  pub first_less : a_of s p < p
  pub second_less : b_of s p < p
  pub first_asked : Asked setting a₁ k₁
  pub second_asked : Asked setting a₂ k₂
  pub first_covered : Covered setting marks named taken single (a_of s p)
  pub second_covered : Covered setting marks named taken single (b_of s p)
  pub few : m ≤ positions
  pub room : positions * (p + 1) ≤ length work

-- the first relation is that of row p's first operand, and the next that of its second
pub record Operands (s marks named taken single : List ℕ) (m p a₁ k₁ a₂ k₂ : ℕ) (w : List ℕ) : Type 0 where
  pub first : HoldsRelated s marks named taken single m a₁ k₁ (a_of s p) (front m w)
  pub second : HoldsRelated s marks named taken single m a₂ k₂ (b_of s p) (next m w)
