-- Code 4: the name class constraint. The only child of an anyName or nsName is its except.
use Rattle.std.specs.Prelude.{ℕ, ◌≡◌, List}
use Rattle.schema.specs.Kinds as kind
use Rattle.schema.specs.Rows.{kind_of}
use Rattle.schema.specs.Relations.{Below}

-- code 4 at row r, below the except of row p
pub data NameFault (s : List ℕ) (r : ℕ) : Type 0 where
  any_name_in_any_name : (p : ℕ) → kind_of s r ≡ kind.any_name → kind_of s p ≡ kind.any_name → Below s r p
      → NameFault s r
  any_name_in_ns_name : (p : ℕ) → kind_of s r ≡ kind.any_name → kind_of s p ≡ kind.ns_name → Below s r p → NameFault s r
  ns_name_in_ns_name : (p : ℕ) → kind_of s r ≡ kind.ns_name → kind_of s p ≡ kind.ns_name → Below s r p → NameFault s r
