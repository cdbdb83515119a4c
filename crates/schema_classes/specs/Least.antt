-- The least name that two classes have in common, by namespace and then by local number. A namespace may be any number,
-- a local any but 0 (`in_class`).
use Rattle.std.specs.Prelude.{ℕ, ◌≤◌, ◌<◌, ◌≡◌, true, ◌⊎◌, List, Option, Some, None}
use Rattle.schema_classes.specs.Membership.{in_class}
use Rattle.schema_classes.specs.declared.Name.{Name}

-- the classes at rows c and d both hold the name u, l
pub record Common (s : List ℕ) (c d u l : ℕ) : Type 0 where
  pub first : in_class s u l c ≡ true
  pub second : in_class s u l d ≡ true

-- the name u, l is before v, k, or is the same
abbrev pub NotAfter : ℕ → ℕ → ℕ → ℕ → Type 0
NotAfter u l v k = (u < v) ⊎ ((u ≡ v) × (l ≤ k))

abbrev pub LeastCommon : List ℕ → ℕ → ℕ → Option Name → Type 0
LeastCommon s c d (Some n) = Common s c d n.namespace n.local
    × ((v k : ℕ) → Common s c d v k → NotAfter n.namespace n.local v k)
LeastCommon s c d None = (u l : ℕ) → ¬ Common s c d u l
