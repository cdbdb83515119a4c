-- Code 3 for one parent.
use Rattle.std.specs.Prelude.{ℕ, ◌≡◌, false, List}
use Rattle.schema.specs.Kinds as kind
use Rattle.schema.specs.Rows.{kind_of}
use Rattle.schema_places.specs.Places.{holds_whole, empty_fits}

-- p has no place for r among its children
pub data Misplaced (s : List ℕ) (p r : ℕ) : Type 0 where
  no_not_allowed : kind_of s r ≡ kind.not_allowed → holds_whole (kind_of s p) ≡ false → Misplaced s p r
  no_empty : kind_of s r ≡ kind.empty → empty_fits s p r ≡ false → Misplaced s p r
