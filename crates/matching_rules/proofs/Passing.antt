-- Every schema that passes has what matching needs of it.
use mathlib.Core.Path.{◌≡◌, refl, sym, ◌∙◌, ap, subst}
use mathlib.Core.Logic.{◌⊎◌, inl, inr, ⊎_elim}
use mathlib.Core.Bool.{true, true≢false, false≢true}
use mathlib.Core.List.{List}
use Prim.Native.Nat.{ℕ, ◌≤◌}
use native.Mathlib.Omega.{arith}
use Rattle.tables.specs.Tables.{Tables}
use Rattle.schema.specs.Kinds as kind
use Rattle.schema.specs.Rows.{rows_of, kind_of, a_of, b_of, shape_of, sort_of, is_element, child_a}
use Rattle.schema.specs.Relations.{Child, by_b, connective, Occurs, itself, within}
use Rattle.schema.specs.Views.{pattern_by, pattern_of, one_or_more, no_pattern}
use Rattle.schema.proofs.Children.{child_less, kind_past}
use Rattle.schema.proofs.Fields.{pattern_b}
use Rattle.tables.proofs.Booleans.{and_both}
use Rattle.schema.proofs.RowLaws.{right_size, whole_rows}
use Rattle.schema.proofs.Sorts.{definition_kind, class_a}
use Rattle.schema_classes.specs.Membership.{in_class}
use Rattle.schema_places.specs.Paths as path
use Rattle.instance.specs.Nodes as node
use Rattle.schema_sequences.specs.Content.{HasType, InList, simple_type, complex_type}
use Rattle.schema_occurrences.specs.Interleaves.{class_referred}
use Rattle.schema_restrictions.specs.Schema.{SchemaPasses}
use Rattle.schema_restrictions.proofs.Passes.{attributes_apart, elements_apart, texts_apart, list_flat}
use Rattle.schema_restrictions.proofs.Outside.{whole_outside, child_outside}
use Rattle.schema_restrictions.proofs.Passes as passes
use Rattle.matching_rules.specs.Items.{Item, element, string, Lookups}
use Rattle.matching_rules.specs.Job.{lookups}
use Rattle.matching_rules.specs.Reach.{Subpattern, operand, Reaches, is_simple, takes_any}
use Rattle.matching_rules.specs.Reach.{takes_string, names_attribute, names_element, takes, repeated}
use Rattle.matching_rules.specs.Restricted.{Flat, NamesApart, Sequenced, Sequential, Restricted}
use Rattle.matching_rules.proofs.RowPatterns.{row_makes, from_one_or_more, from_interleave, has_kind, Sides}
use Rattle.matching_rules.proofs.RowPatterns.{group_sides, interleave_sides, repeated_sides, part_child}
use Rattle.matching_rules.proofs.RowPatterns.{reached_row, inside_row, occurs_below, child_below}
use Rattle.matching_rules.proofs.ContentTypes.{least_type, occurs_least, simple_least, any_least}
use Rattle.matching_rules.proofs.ContentTypes.{Grouped, sides_grouped, repeated_type}
use Rattle.matching_rules.proofs.KindTests.{attribute_made, ref_made, sharing_made, string_kind}
use Rattle.matching_rules.proofs.Paths.{excepts_plain, lists_listable}

module _ {strings : ℕ} (J : Tables) (pass : SchemaPasses strings J.schema) where
  abbrev s : List ℕ
  s = J.schema

  abbrev t : List ℕ
  t = J.instance

  abbrev L : Lookups
  L = lookups J

  -- the class of an attribute, and that of the definition that a ref names, are children
  attribute_class : (x u : ℕ) → names_attribute L u (pattern_of s x) ≡ true
      → (kind_of s x ≡ kind.attribute) × (in_class s (node.a_of t u) (node.b_of t u) (child_a s x) ≡ true)
  unfolding shape_of
  attribute_class x u h =
      let m = attribute_made L u (row_makes s x refl) h in (
        m.0,
        rw (class_a strings s pass.rows x (has_kind pass.rows m.0 (λ z. omega arith))
            kind.attribute m.0 refl) m.1,
      )

  ref_class : (x u : ℕ) → names_element L u (pattern_of s x) ≡ true
      → (kind_of s x ≡ kind.ref) × (in_class s (node.a_of t u) (node.b_of t u) (class_referred s x) ≡ true)
  unfolding shape_of
  ref_class x u h =
      let m = ref_made L u (row_makes s x refl) h in
      let i = and_both (is_element (sort_of s (a_of s x)))
      (in_class s (node.a_of t u) (node.b_of t u) (a_of s (a_of s x))) m.1 in
      let k = definition_kind s (a_of s x) i.0 in (
        m.0,
        rw (class_a strings s pass.rows (a_of s x) (has_kind pass.rows k (λ z. omega arith)) kind.element k refl)
            i.1,
      )

  -- what a pattern reaches shows in its content type
  simple_type_lem : {p c : ℕ} → HasType s p c → Reaches L is_simple (pattern_of s p) → simple_type ≤ c
  simple_type_lem {p} w h =
      let r = reached_row J pass.rows p h in
      omega (arith, simple_least (pattern_of s r.0) (row_makes s r.0 refl) r.2, occurs_least r.1 w)

  any_type : {p c : ℕ} → HasType s p c → Reaches L takes_any (pattern_of s p) → complex_type ≤ c
  any_type {p} w h =
      let r = reached_row J pass.rows p h in
      omega (arith, any_least (pattern_of s r.0) (row_makes s r.0 refl) r.2, occurs_least r.1 w)

  -- no attribute name on both sides of a group or interleave (10.4)
  names_apart : {p p₁ p₂ : ℕ} → Sides s p p₁ p₂ → NamesApart L p₁ p₂
  names_apart {p} {p₁} {p₂} sides u h i =
      let x = reached_row J pass.rows p₁ h in
      let y = reached_row J pass.rows p₂ i in
      let a = attribute_class x.0 u x.2 in
      let b = attribute_class y.0 u y.2 in
      attributes_apart pass p x.0 y.0 (node.a_of t u) (node.b_of t u) sides.is_sharing
      (rw sides.first x.1) a.0 (rw sides.second y.1) b.0 a.1 b.1

  -- 10.3 of a row that is below no list
  sequenced : {p p₁ p₂ : ℕ} → ¬ InList s p → Sides s p p₁ p₂ → Sequenced L p₁ p₂
  sequenced {p} {p₁} {p₂} out sides =
      let grouped = sides_grouped pass p out p₁ p₂ sides in
      record {
        first = λ h i. let f = grouped.before (simple_type_lem grouped.first_type h) in
            omega (arith, any_type grouped.second_type i);
        second = λ h i. let f = grouped.after (simple_type_lem grouped.second_type h) in
            omega (arith, any_type grouped.first_type i);
      }

  -- an interleave stands in no list
  interleave_outside : (p : ℕ) → kind_of s p ≡ kind.interleave → ¬ InList s p
  interleave_outside p e h = true≢false (rw e at (list_flat pass p h.row h.source h.below))

  -- a row whose pattern takes strings is text, or has content type simple
  abbrev TextOrSimple : ℕ → Type 0
  TextOrSimple x = (kind_of s x ≡ kind.text) ⊎ (simple_type ≤ least_type (kind_of s x))

  text_or_simple : (x : ℕ) → takes_string (pattern_of s x) ≡ true → TextOrSimple x
  text_or_simple x h =
      ⊎_elim (λ e. inl e) (λ e. inr (simple_least (pattern_of s x) (row_makes s x refl) e))
      (string_kind (row_makes s x refl) h)

  complex_at_least : (x : ℕ) → TextOrSimple x → complex_type ≤ least_type (kind_of s x)
  complex_at_least x (inl e) = rw e (omega arith)
  complex_at_least x (inr h) = omega arith

  -- strings go to one side of an interleave: data, value or list on one side leaves the other without items (10.3), and
  -- text stands on one side only (10.5)
  strings_apart : {p p₁ p₂ : ℕ} → kind_of s p ≡ kind.interleave → Sides s p p₁ p₂
      → Reaches L takes_string (pattern_of s p₁) → ¬ Reaches L takes_string (pattern_of s p₂)
  strings_apart {p} {p₁} {p₂} e sides h i = go (text_or_simple x.0 x.2) (text_or_simple y.0 y.2)
    where
      x : (r : ℕ) × Occurs s r p₁ × (takes_string (pattern_of s r) ≡ true)
      x = reached_row J pass.rows p₁ h

      y : (r : ℕ) × Occurs s r p₂ × (takes_string (pattern_of s r) ≡ true)
      y = reached_row J pass.rows p₂ i

      grouped : Grouped s p₁ p₂
      grouped = sides_grouped pass p (interleave_outside p e) p₁ p₂ sides

      low : least_type (kind_of s x.0) ≤ grouped.first
      low = occurs_least x.1 grouped.first_type

      high : least_type (kind_of s y.0) ≤ grouped.second
      high = occurs_least y.1 grouped.second_type

      go : TextOrSimple x.0 → TextOrSimple y.0 → ⊥
      go (inl a) (inl b) = texts_apart pass p x.0 y.0 e (rw sides.first x.1) a (rw sides.second y.1) b
      go (inr a) b = omega (arith, grouped.before (omega (arith, low)), complex_at_least y.0 b, high)
      go (inl a) (inr b) = omega (arith, grouped.after (omega (arith, high)), complex_at_least x.0 (inl a), low)

  -- an item goes to one side of an interleave (10.5)
  items_apart : {p p₁ p₂ : ℕ} → kind_of s p ≡ kind.interleave → Sides s p p₁ p₂ → (y : Item)
      → Reaches L (takes L y) (pattern_of s p₁) → ¬ Reaches L (takes L y) (pattern_of s p₂)
  items_apart {p} {p₁} {p₂} e sides (element u) h i =
      let x = reached_row J pass.rows p₁ h in
      let y = reached_row J pass.rows p₂ i in
      let a = ref_class x.0 u x.2 in
      let b = ref_class y.0 u y.2 in
      elements_apart pass p x.0 y.0 (node.a_of t u) (node.b_of t u) e
      (rw sides.first x.1) a.0 (rw sides.second y.1) b.0 a.1 b.1
  items_apart e sides (string m) h i = strings_apart e sides h i

  -- no attribute stands in a group or interleave that is repeated (10.2.3)
  flat : (p q : ℕ) → pattern_of s p ≡ one_or_more q → Flat L (pattern_of s q)
  flat p q e y inside pair u h =
      let m = from_one_or_more (row_makes s p e) in
      let d = part_child pass.rows p (subst (Subpattern q) (sym e) (operand repeated)) in
      let x = inside_row J pass.rows q inside in
      let g = sharing_made (row_makes s x.0 x.2) pair in
      let z = reached_row J pass.rows x.0 (subst (Reaches L (names_attribute L u)) (sym x.2) h) in
      let a = attribute_class z.0 u z.2 in
      passes.repeats_flat pass z.0 x.0 p m.0 (child_below d x.1) g
      (⊎_elim (λ f. absurd (itself x.0 z.0 f g a.0)) (λ b. b) (occurs_below z.1)) a.0
    where
      itself : (x z : ℕ) → z ≡ x → path.sharing_kind (kind_of s x) ≡ true → kind_of s z ≡ kind.attribute → ⊥
      itself x z f g a = false≢true (sym (ap path.sharing_kind (ap (kind_of s) (sym f) ∙ a)) ∙ g)

  -- nothing of content type simple is repeated (10.3)
  not_simple : (p q : ℕ) → ¬ InList s p → pattern_of s p ≡ one_or_more q → ¬ Reaches L is_simple (pattern_of s q)
  not_simple p q out e h =
      let m = from_one_or_more (row_makes s p e) in
      let i = repeated_sides pass.rows p e in
      let w = repeated_type pass p out q m.0 i.0 i.1 i.2 in
      omega (arith, simple_type_lem w.1 h)

  -- what occurs in a row that is below no list is below none
  occurs_outside : {r p : ℕ} → ¬ InList s p → Occurs s r p → ¬ InList s r
  occurs_outside out itself = out
  occurs_outside out (within k c o) =
      occurs_outside (child_outside pass.rows c (λ e. false≢true (sym (ap connective e) ∙ k)) out) o

  sequential : (d : ℕ) → is_element (sort_of s d) ≡ true → Sequential L (pattern_of s (b_of s d))
  unfolding shape_of
  sequential d i = record {
    groups = λ p₁ p₂ w. let r = inside_row J pass.rows (b_of s d) w in
        sequenced (out r.1) (group_sides pass.rows r.0 r.2);
    interleaves = λ p₁ p₂ w. let r = inside_row J pass.rows (b_of s d) w in
        sequenced (out r.1) (interleave_sides pass.rows r.0 r.2);
    repeats = λ q w. let r = inside_row J pass.rows (b_of s d) w in not_simple r.0 q (out r.1) r.2;
  }
    where
      k : kind_of s d ≡ kind.element
      k = definition_kind s d i

      content : Child s (b_of s d) d
      content =
          by_b (pattern_b strings s pass.rows d (has_kind pass.rows k (λ z. omega arith)) kind.element k refl).0
          refl

      out : {r : ℕ} → Occurs s r (b_of s d) → ¬ InList s r
      out o =
          occurs_outside (child_outside pass.rows content
          (λ e. omega (arith, k)) (λ h. whole_outside (rw k refl) h.below)) o

  -- past the table there is no pattern
  past : (p : ℕ) → rows_of s ≤ p → pattern_of s p ≡ no_pattern
  unfolding pattern_by
  past p h = rw (kind_past s p (whole_rows (right_size pass.rows)) h)

  pub restricted : Restricted (lookups J)
  restricted = record {
    bounded = past;
    falls = λ p q i. child_less (part_child pass.rows p i);
    same_name = λ x. (refl, refl);
    groups = λ p p₁ p₂ e. names_apart (group_sides pass.rows p e);
    interleaves = λ p p₁ p₂ e. names_apart (interleave_sides pass.rows p e);
    items = λ p p₁ p₂ e. items_apart (from_interleave (row_makes s p e)).0 (interleave_sides pass.rows p e);
    repeats_flat = flat;
    excepts = excepts_plain J pass;
    lists = lists_listable J pass;
    contents = sequential;
  }
