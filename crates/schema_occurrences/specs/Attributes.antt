-- Code 7: the restrictions on attributes of ISO/IEC 19757-2, 10.4, but for its third paragraph (docs/DECISIONS.md, 4).
use Rattle.std.specs.Prelude.{ℕ, ◌≡◌, Bool, true, ◌||◌, List, eqb}
use Rattle.schema.specs.Kinds as kind
use Rattle.schema.specs.Rows.{kind_of, child_a, child_b}
use Rattle.schema.specs.Relations.{Below, Occurs}
use Rattle.schema_classes.specs.Least.{Common}
use Rattle.schema_places.specs.Paths.{sharing_kind}

-- anyName and nsName
abbrev pub is_wildcard : ℕ → Bool
is_wildcard k = eqb k kind.any_name || eqb k kind.ns_name

-- the class at row c has anyName or nsName in it
pub data Infinite (s : List ℕ) (c : ℕ) : Type 0 where
  of_wildcard : is_wildcard (kind_of s c) ≡ true → Infinite s c
  has_wildcard : (d : ℕ) → Below s d c → is_wildcard (kind_of s d) ≡ true → Infinite s c

-- code 7 at row r
pub data AttributeFault (s : List ℕ) (r : ℕ) : Type 0 where
  duplicate : (x y u l : ℕ) → sharing_kind (kind_of s r) ≡ true → Occurs s x (child_a s r)
      → kind_of s x ≡ kind.attribute
      → Occurs s y (child_b s r) → kind_of s y ≡ kind.attribute → Common s (child_a s x) (child_a s y) u l
      → AttributeFault s r
  not_repeated : kind_of s r ≡ kind.attribute → Infinite s (child_a s r)
      → ((p : ℕ) → kind_of s p ≡ kind.one_or_more → ¬ Below s r p) → AttributeFault s r
