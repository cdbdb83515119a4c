-- What is looked for among the patterns that occur in a pattern, and what is remembered of comparisons; cited by
-- private functions only.
use Rattle.std.specs.Prelude.{ℕ, ◌+◌, ◌*◌, ◌/◌, ◌%◌, ◌<◌, ◌≡◌, true, List, get_or}
use Rattle.schema.specs.Kinds as kind
use Rattle.schema.specs.Rows.{kind_of, child_a}
use Rattle.schema.specs.Relations.{Occurs}
use Rattle.schema.specs.RowRule.{max_rows}
use Rattle.schema_classes.specs.Least.{Common}
use Rattle.sets.specs.Bits.{bit}
use Rattle.schema_occurrences.specs.Interleaves.{class_referred}
use Rattle.schema_occurrences.specs.declared.Wanted.{Wanted}
use Rattle.schema_occurrences.specs.declared.Wanted.TheVariants.{Text, AttributeSharing, RefSharing}
use Rattle.schema_occurrences.specs.declared.Wanted.TheVariants.{AttributeMeeting, RefMeeting}

-- a pattern with P occurs in p
abbrev pub Somewhere : List ℕ → (ℕ → Type 0) → ℕ → Type 0
Somewhere s P p = (x : ℕ) × Occurs s x p × P x

-- the classes at rows c and d have a name in common
abbrev pub Shared : List ℕ → ℕ → ℕ → Type 0
Shared s c d = (u : ℕ) × (l : ℕ) × Common s c d u l

-- the classes that m has for the class at row c share no name with it: eight words of 64 rows each, from word c * 8 on
pub record Compared (s m : List ℕ) : Type 0 where
  pub apart : (c d : ℕ) → d < max_rows → bit (get_or m (c * 8 + d / 64) 0) (d % 64) ≡ true → ¬ Shared s c d

-- an attribute, or a ref to an element, that shares a name with the class at row c
abbrev pub SharingAttribute : List ℕ → ℕ → ℕ → Type 0
SharingAttribute s c x = (kind_of s x ≡ kind.attribute) × Shared s c (child_a s x)

abbrev pub SharingRef : List ℕ → ℕ → ℕ → Type 0
SharingRef s c x = (kind_of s x ≡ kind.ref) × Shared s c (class_referred s x)

-- row x is what is wanted: text; an attribute or ref that shares a name with a class; one that shares a name with one
-- that occurs in a pattern
abbrev pub Suits : List ℕ → Wanted → ℕ → Type 0
Suits s Text x = kind_of s x ≡ kind.text
Suits s (AttributeSharing c) x = SharingAttribute s c x
Suits s (RefSharing c) x = SharingRef s c x
Suits s (AttributeMeeting q) x = (kind_of s x ≡ kind.attribute) × Somewhere s (SharingAttribute s (child_a s x)) q
Suits s (RefMeeting q) x = (kind_of s x ≡ kind.ref) × Somewhere s (SharingRef s (class_referred s x)) q

-- how many searches in patterns are left
abbrev pub rank : Wanted → ℕ
rank Text = 0
rank (AttributeSharing c) = 0
rank (RefSharing c) = 0
rank (AttributeMeeting q) = 1
rank (RefMeeting q) = 1
