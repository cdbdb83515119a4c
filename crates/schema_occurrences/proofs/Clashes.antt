-- Codes 7 and 8 at one row, from what is found in its two sides.
use mathlib.Core.Path.{◌≡◌, sym, ◌∙◌, ap, subst}
use mathlib.Core.Bool.{Bool, true, false, true≢false, false≢true}
use mathlib.Core.List.{List}
use Prim.Native.Nat.{ℕ, ◌<◌}
use native.Mathlib.Omega.{arith}
use Rattle.tables.specs.Answers.{Decides}
use Rattle.tables.proofs.Answers.{decides_same}
use Rattle.schema.specs.Kinds as kind
use Rattle.schema.specs.Rows.{rows_of, kind_of, child_a, child_b}
use Rattle.schema.specs.Relations.{Occurs}
use Rattle.schema.specs.RowRule.{SizeRight}
use Rattle.schema.proofs.RowLaws.{in_table}
use Rattle.schema.specs.Marks.{Marked}
use Rattle.schema_places.specs.Marks.{MarksExactly, Under}
use Rattle.schema_places.specs.Paths.{sharing_kind}
use Rattle.schema_places.specs.Sources.{HasKind}
use Rattle.schema_occurrences.specs.Attributes.{Infinite, AttributeFault, duplicate, not_repeated}
use Rattle.schema_occurrences.specs.Interleaves.{InterleaveFault, same_element, text_twice}
use Rattle.schema_occurrences.specs.Occurrences.{Somewhere, Suits}
use Rattle.schema_occurrences.specs.declared.Wanted.TheVariants.{Text, AttributeMeeting, RefMeeting}

module _ (s : List ℕ) (r : ℕ) where
  -- the kind of an attribute is no group or interleave
  not_sharing : kind_of s r ≡ kind.attribute → sharing_kind (kind_of s r) ≡ true → ⊥
  not_sharing e p = false≢true (sym (ap sharing_kind e) ∙ p)

  -- attributes on the two sides of a group or interleave
  pub sharing_decides : sharing_kind (kind_of s r) ≡ true → (x : Bool)
      → Decides (Somewhere s (Suits s (AttributeMeeting (child_b s r))) (child_a s r)) x
      → Decides (AttributeFault s r) x
  sharing_decides p x = decides_same x to from
    where
      to : Somewhere s (Suits s (AttributeMeeting (child_b s r))) (child_a s r) → AttributeFault s r
      to f =
          let g = f.2.1 in
          duplicate f.0 g.0 g.2.1.0 g.2.1.1 p f.1 f.2.0 g.1 g.2.0 g.2.1.2

      from : AttributeFault s r → Somewhere s (Suits s (AttributeMeeting (child_b s r))) (child_a s r)
      from (duplicate x y u l q o k o' k' c) = (x, o, (k, (y, o', (k', (u, l, c)))))
      from (not_repeated k i n) = absurd (not_sharing k p)

  -- another row that is no attribute
  pub no_attribute_fault : sharing_kind (kind_of s r) ≡ false → (kind_of s r ≡ kind.attribute → ⊥)
      → ¬ AttributeFault s r
  no_attribute_fault p n (duplicate x y u l q o k o' k' c) = true≢false (sym q ∙ p)
  no_attribute_fault p n (not_repeated k i m) = n k

  module _ {repeated : List ℕ} (marks : MarksExactly (Under s (HasKind s kind.one_or_more)) repeated)
      (e : kind_of s r ≡ kind.attribute) where
    -- an attribute below a oneOrMore may have any class
    pub repeated_right : Marked repeated r → ¬ AttributeFault s r
    repeated_right m (duplicate x y u l q o k o' k' c) = not_sharing e q
    repeated_right m (not_repeated k i n) =
        let under = marks.sound r m in
        n under.row under.source under.below

    -- another may not have an infinite one
    pub infinite_decides : ¬ Marked repeated r → (x : Bool)
        → Decides (Infinite s (child_a s r)) x → Decides (AttributeFault s r) x
    infinite_decides n x = decides_same x to from
      where
        to : Infinite s (child_a s r) → AttributeFault s r
        to i = not_repeated e i (λ p k b. n (marks.complete r (record { row = p; source = k; below = b })))

        from : AttributeFault s r → Infinite s (child_a s r)
        from (duplicate x y u l q o k o' k' c) = absurd (not_sharing e q)
        from (not_repeated k i m) = i

  -- only an interleave can break a restriction on interleave
  pub no_interleave_fault : (kind_of s r ≡ kind.interleave → ⊥) → ¬ InterleaveFault s r
  no_interleave_fault n (same_element x y u l k o kx o' ky c) = n k
  no_interleave_fault n (text_twice x y k o kx o' ky) = n k

  -- an interleave, by what is found in its sides a and b
  module _ (e : kind_of s r ≡ kind.interleave) {a b : ℕ} (is-a : a ≡ child_a s r) (is_b : b ≡ child_b s r) where
    pub element_fault : Somewhere s (Suits s (RefMeeting b)) a → InterleaveFault s r
    element_fault f =
        let g = f.2.1 in
        same_element f.0 g.0 g.2.1.0 g.2.1.1 e (subst (Occurs s f.0) is-a f.1)
        f.2.0 (subst (Occurs s g.0) is_b g.1) g.2.0 g.2.1.2

    module _ (no_element : ¬ Somewhere s (Suits s (RefMeeting b)) a) where
      text_sides : InterleaveFault s r → Somewhere s (Suits s Text) a × Somewhere s (Suits s Text) b
      text_sides (same_element x y u l k o kx o' ky c) =
          absurd (no_element
          (x, subst (Occurs s x) (sym is-a) o, (kx, (y, subst (Occurs s y) (sym is_b) o', (ky, (u, l, c))))))
      text_sides (text_twice x y k o kx o' ky) =
          ((x, subst (Occurs s x) (sym is-a) o, kx), (y, subst (Occurs s y) (sym is_b) o', ky))

      pub text_decides : Somewhere s (Suits s Text) a → (x : Bool)
          → Decides (Somewhere s (Suits s Text) b) x → Decides (InterleaveFault s r) x
      text_decides f x =
          decides_same x (λ g. text_twice f.0 g.0 e (subst (Occurs s f.0) is-a f.1)
          f.2 (subst (Occurs s g.0) is_b g.1) g.2) (λ h. (text_sides h).1)

      pub no_text_fault : ¬ Somewhere s (Suits s Text) a → ¬ InterleaveFault s r
      no_text_fault n h = n (text_sides h).0

-- faults are at rows of the table
pub attribute_row : {s : List ℕ} {r : ℕ} → SizeRight s → AttributeFault s r → r < rows_of s
attribute_row w (duplicate x y u l q o k o' k' c) = in_table w (λ z. false≢true (sym (ap sharing_kind z) ∙ q))
attribute_row w (not_repeated k i n) = in_table w (λ z. omega (arith, k, z))

pub interleave_row : {s : List ℕ} {r : ℕ} → SizeRight s → InterleaveFault s r → r < rows_of s
interleave_row w (same_element x y u l k o kx o' ky c) = in_table w (λ z. omega (arith, k, z))
interleave_row w (text_twice x y k o kx o' ky) = in_table w (λ z. omega (arith, k, z))
