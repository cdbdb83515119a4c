-- Code 3: where clause 8 of ISO/IEC 19757-2 has no place for empty or notAllowed (FORMAT, "Restrictions").
use Rattle.std.specs.Prelude.{ℕ, ◌≡◌, Bool, false, ◌&&◌, ◌||◌, List, eqb}
use Rattle.schema.specs.Kinds as kind
use Rattle.schema.specs.Rows.{kind_of, a_of}
use Rattle.schema.specs.Relations.{Child}

-- a row of kind k holds its pattern whole: a definition or the start
abbrev pub holds_whole : ℕ → Bool
holds_whole k = eqb k kind.element || eqb k kind.start

-- empty may be the child r of p: whole, an attribute's or a list's pattern, a whole except, or field a of a choice
abbrev pub empty_fits : List ℕ → ℕ → ℕ → Bool
empty_fits s p r =
    holds_whole (kind_of s p) || eqb (kind_of s p) kind.attribute || eqb (kind_of s p) kind.list
    || eqb (kind_of s p) kind.«data»
    || eqb (kind_of s p) kind.choice && eqb (a_of s p) r

-- code 3 at row r
pub data PlaceFault (s : List ℕ) (r : ℕ) : Type 0 where
  not_allowed_inside : (p : ℕ) → kind_of s r ≡ kind.not_allowed → Child s r p → holds_whole (kind_of s p) ≡ false
      → PlaceFault s r
  empty_inside : (p : ℕ) → kind_of s r ≡ kind.empty → Child s r p → empty_fits s p r ≡ false → PlaceFault s r
