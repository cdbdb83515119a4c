-- How rows stand to each other: child, below, and what occurs in a pattern.
use Rattle.std.specs.Prelude.{ℕ, ◌≡◌, Bool, true, ◌&&◌, List, leb}
use Rattle.schema.specs.Kinds as kind
use Rattle.schema.specs.Rows.{kind_of, a_of, b_of, names_a, names_b}

-- r is a child of p
pub data Child (s : List ℕ) (r p : ℕ) : Type 0 where
  by_a : names_a s p ≡ true → a_of s p ≡ r → Child s r p
  by_b : names_b s p ≡ true → b_of s p ≡ r → Child s r p

-- r is below p, at any depth; a ref is not followed, since a definition is no child
pub data Below (s : List ℕ) (r : ℕ) : ℕ → Type 0 where
  child : {p : ℕ} → Child s r p → Below s r p
  deeper : {p q : ℕ} → Child s q p → Below s r q → Below s r p

-- oneOrMore, choice, group and interleave
abbrev pub connective : ℕ → Bool
connective k = leb kind.one_or_more k && leb k kind.interleave

-- r occurs in p: it is p, or is reached from p through choice, group, interleave and oneOrMore alone
pub data Occurs (s : List ℕ) (r : ℕ) : ℕ → Type 0 where
  itself : Occurs s r r
  within : {p q : ℕ} → connective (kind_of s p) ≡ true → Child s q p → Occurs s r q → Occurs s r p
