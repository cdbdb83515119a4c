-- Code 8: the restrictions on interleave of ISO/IEC 19757-2, 10.5.
use Rattle.std.specs.Prelude.{ℕ, ◌≡◌, List}
use Rattle.schema.specs.Kinds as kind
use Rattle.schema.specs.Rows.{kind_of, a_of, child_a, child_b}
use Rattle.schema.specs.Relations.{Occurs}
use Rattle.schema_classes.specs.Least.{Common}

-- the name class of the element that the ref at row x refers to
abbrev pub class_referred : List ℕ → ℕ → ℕ
class_referred s x = child_a s (a_of s x)

-- code 8 at row r
pub data InterleaveFault (s : List ℕ) (r : ℕ) : Type 0 where
  same_element : (x y u l : ℕ) → kind_of s r ≡ kind.interleave → Occurs s x (child_a s r) → kind_of s x ≡ kind.ref
      → Occurs s y (child_b s r) → kind_of s y ≡ kind.ref → Common s (class_referred s x) (class_referred s y) u l
      → InterleaveFault s r
  text_twice : (x y : ℕ) → kind_of s r ≡ kind.interleave → Occurs s x (child_a s r) → kind_of s x ≡ kind.text
      → Occurs s y (child_b s r) → kind_of s y ≡ kind.text → InterleaveFault s r
