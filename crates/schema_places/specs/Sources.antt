-- The rows that mark those below them.
use Rattle.std.specs.Prelude.{ℕ, ◌≡◌, true, ◌⊎◌, List}
use Rattle.schema.specs.Rows.{kind_of}
use Rattle.schema.specs.Marks.{Marked}
use Rattle.schema_places.specs.Paths.{sharing_kind}
use Rattle.schema_places.specs.declared.Source.{Source}
use Rattle.schema_places.specs.declared.Source.TheVariants as source

abbrev pub HasKind : List ℕ → ℕ → ℕ → Type 0
HasKind s k p = kind_of s p ≡ k

-- a group or interleave that t marks
pub record SharingIn (s t : List ℕ) (p : ℕ) : Type 0 where
  pub sharing : sharing_kind (kind_of s p) ≡ true
  pub mark : Marked t p

abbrev pub IsSource : List ℕ → Source → ℕ → Type 0
IsSource s (source.OfKind k) p = HasKind s k p
IsSource s (source.SharingIn t) p = SharingIn s t.now p

-- the marks of below pass on to the children of p
abbrev pub MarksChildren : List ℕ → Source → List ℕ → ℕ → Type 0
MarksChildren s source below p = IsSource s source p ⊎ Marked below p
