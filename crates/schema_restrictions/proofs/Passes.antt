-- What a schema that passes has, as matching needs it: attributes on the two sides of a group or interleave are apart,
-- and elements and texts on those of an interleave; no attribute stands in a group below oneOrMore; what stands in an
-- except is plain.
use mathlib.Core.Path.{◌≡◌, sym, ◌∙◌, ap}
use mathlib.Core.Bool.{true, false, false≢true}
use mathlib.Core.Logic.{◌≢◌, ◌⊎◌, inl, inr}
use mathlib.Core.List.{List}
use Prim.Native.Nat.{ℕ}
use Rattle.std.specs.Prelude.{Ok}
use Rattle.tables.specs.Codes.{goes_on}
use Rattle.tables.proofs.Booleans.{is_false}
use Rattle.schema.specs.Kinds as kind
use Rattle.schema.specs.Rows.{kind_of, child_a, child_b}
use Rattle.schema.specs.Relations.{Below, Occurs}
use Rattle.schema_classes.specs.Membership.{in_class}
use Rattle.schema_places.specs.Places.{holds_whole, not_allowed_inside}
use Rattle.schema_places.specs.Paths.{sharing_kind, not_in_list, not_in_except, in_repeated_sharing, in_list, in_except}
use Rattle.schema_occurrences.specs.Attributes.{duplicate}
use Rattle.schema_occurrences.specs.Interleaves.{class_referred, same_element, text_twice}
use Rattle.schema_restrictions.specs.Schema.{SchemaVerdict, SchemaPasses}
use Rattle.schema_restrictions.proofs.Outside.{below_parent, whole_outside}

pub passes : {strings : ℕ} {s : List ℕ} → SchemaVerdict strings s (Ok tt) → SchemaPasses strings s
passes (goes_on rows (goes_on places
    (goes_on names (goes_on paths (goes_on sequences (goes_on attributes (goes_on interleaves e))))))) = record {
      rows = rows;
      places = places;
      names = names;
      paths = paths;
      sequences = sequences;
      attributes = attributes;
      interleaves = interleaves;
    }

module _ {strings : ℕ} {s : List ℕ} (p : SchemaPasses strings s) where
  -- no name is allowed to attributes on both sides of a group or interleave (10.4)
  pub attributes_apart : (r x y u l : ℕ) → sharing_kind (kind_of s r) ≡ true → Occurs s x (child_a s r)
      → kind_of s x ≡ kind.attribute → Occurs s y (child_b s r) → kind_of s y ≡ kind.attribute
      → in_class s u l (child_a s x) ≡ true → in_class s u l (child_a s y) ≡ true → ⊥
  attributes_apart r x y u l e o k o' k' a b =
      p.attributes r (duplicate x y u l e o k o' k' (record { first = a; second = b }))

  -- no name is allowed to elements on both sides of an interleave, and text stands on one side only (10.5)
  pub elements_apart : (r x y u l : ℕ) → kind_of s r ≡ kind.interleave → Occurs s x (child_a s r)
      → kind_of s x ≡ kind.ref → Occurs s y (child_b s r) → kind_of s y ≡ kind.ref
      → in_class s u l (class_referred s x) ≡ true → in_class s u l (class_referred s y) ≡ true → ⊥
  elements_apart r x y u l e o k o' k' a b =
      p.interleaves r (same_element x y u l e o k o' k' (record { first = a; second = b }))

  pub texts_apart : (r x y : ℕ) → kind_of s r ≡ kind.interleave → Occurs s x (child_a s r)
      → kind_of s x ≡ kind.text → Occurs s y (child_b s r) → kind_of s y ≡ kind.text → ⊥
  texts_apart r x y e o k o' k' = p.interleaves r (text_twice x y e o k o' k')

  -- no attribute stands in a group or interleave below oneOrMore (10.2.3)
  pub repeats_flat : (r q m : ℕ) → kind_of s m ≡ kind.one_or_more → Below s q m
      → sharing_kind (kind_of s q) ≡ true → Below s r q → kind_of s r ≡ kind.attribute → ⊥
  repeats_flat r q m e b f c k = p.paths r (in_repeated_sharing q m k f c e b)

  -- what may not stand below a list (10.2.4), or below a data's except (10.2.5), does not
  pub list_flat : (r q : ℕ) → kind_of s q ≡ kind.list → Below s r q → not_in_list (kind_of s r) ≡ false
  list_flat r q e b = is_false (not_in_list (kind_of s r)) (λ f. p.paths r (in_list q f e b))

  -- nor does notAllowed (clause 8)
  pub list_no_not_allowed : (r q : ℕ) → kind_of s q ≡ kind.list → Below s r q → kind_of s r ≢ kind.not_allowed
  list_no_not_allowed r q e b f =
      let u = below_parent b in
      p.places r
      (not_allowed_inside u.0 f u.1 (is_false (holds_whole (kind_of s u.0)) (whole_outside_of u.2)))
    where
      whole_outside_of : {x : ℕ} → (x ≡ q) ⊎ Below s x q → holds_whole (kind_of s x) ≡ true → ⊥
      whole_outside_of (inl i) h = false≢true (sym (ap holds_whole (ap (kind_of s) i ∙ e)) ∙ h)
      whole_outside_of (inr d) h = whole_outside h d

  pub except_plain : (r q : ℕ) → kind_of s q ≡ kind.«data» → Below s r q → not_in_except (kind_of s r) ≡ false
  except_plain r q e b = is_false (not_in_except (kind_of s r)) (λ f. p.paths r (in_except q f e b))
