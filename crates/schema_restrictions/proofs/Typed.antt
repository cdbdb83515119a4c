-- In a schema that passes, every pattern outside lists but notAllowed has a content type (10.3).
use mathlib.Core.Path.{◌≡◌, refl, sym, ◌∙◌, ap}
use mathlib.Core.Bool.{Bool, true, false}
use mathlib.Core.Logic.{◌≢◌, ⊎_elim}
use mathlib.Core.List.{List}
use Prim.Native.Nat.{ℕ, zero, suc, ◌<◌}
use native.Mathlib.Omega.{arith}
use Rattle.schema.specs.Kinds as kind
use Rattle.schema.specs.Rows.{rows_of, kind_of, a_of, b_of, shape_of, child_a, child_b, sort_of, is_pattern}
use Rattle.schema.specs.Relations.{Child, by_a, by_b}
use Rattle.schema.proofs.Children.{child_less}
use Rattle.schema.proofs.Fields.{pattern_a, pattern_b, pattern_or_none, pattern_kind, PatternKind}
use Rattle.schema.proofs.Fields.{is_empty, is_not_allowed, is_text, is_data, is_value, is_list}
use Rattle.schema.proofs.Fields.{is_attribute_lem, is_ref, is_one_or_more, is_choice, is_group, is_interleave}
use Rattle.schema.proofs.RowLaws.{right_size, in_table}
use Rattle.schema_places.specs.Paths.{sharing_kind}
use Rattle.schema_places.specs.Places.{holds_whole, not_allowed_inside}
use Rattle.schema_sequences.specs.Content.{HasType, InList, groupable, value_type, data_type_1, data_type_2}
use Rattle.schema_sequences.specs.Content.{list_type, text_type, ref_type, type_of_empty, attribute_type, sharing_type}
use Rattle.schema_sequences.specs.Content.{one_or_more_type, choice_type, sharing_not_groupable, repeat_not_groupable}
use Rattle.schema_restrictions.specs.Schema.{SchemaPasses}
use Rattle.schema_restrictions.proofs.Outside.{child_outside}

abbrev Typed : List ℕ → ℕ → Type 0
Typed s r = (c : ℕ) × HasType s r c

module _ {strings : ℕ} {s : List ℕ} (p : SchemaPasses strings s) where
  -- a row of a kind that is given is in the table
  table : {r k : ℕ} → kind_of s r ≡ k → k ≢ 0 → r < rows_of s
  table e n = in_table (right_size p.rows) (λ z. n (sym e ∙ z))

  -- types go together where there is no fault
  pub grouped : (b : Bool) {A : Type 0} → ¬ A → (b ≡ false → A) → b ≡ true
  grouped true n f = refl
  grouped false n f = absurd (n (f refl))

  module _ (r : ℕ) (out : ¬ InList s r) (below : (q : ℕ) → q < r → is_pattern (sort_of s q) ≡ true
      → kind_of s q ≢ kind.not_allowed → ¬ InList s q → Typed s q) where
    -- a child of a row that holds no pattern whole, and is no list, has a type
    operand : (q : ℕ) → Child s q r → is_pattern (sort_of s q) ≡ true
        → holds_whole (kind_of s r) ≡ false → kind_of s r ≢ kind.list → Typed s q
    operand q c i w n =
        below q (child_less c) i (λ e. p.places q (not_allowed_inside r e c w)) (child_outside p.rows c n out)

    module _ {k : ℕ} (e : kind_of s r ≡ k) (some : k ≢ 0) (w : holds_whole k ≡ false) (n : k ≢ kind.list) where
      side_a : (shape_of k).a ≡ (shape_of kind.one_or_more).a → Typed s (child_a s r)
      unfolding shape_of
      side_a f =
          let m = pattern_a strings s p.rows r (table e some) k e f in
          rw m.0 (operand (a_of s r) (by_a m.0 refl) m.1 (ap holds_whole e ∙ w) (λ z. n (sym e ∙ z)))

      side_b : (shape_of k).b ≡ (shape_of kind.group).b → Typed s (child_b s r)
      unfolding shape_of
      side_b f =
          let m = pattern_b strings s p.rows r (table e some) k e f in
          rw m.0 (operand (b_of s r) (by_b m.0 refl) m.1 (ap holds_whole e ∙ w) (λ z. n (sym e ∙ z)))

    pair : {k : ℕ} → kind_of s r ≡ k → sharing_kind k ≡ true → Typed s (child_a s r) → Typed s (child_b s r) → Typed s r
    pair e i t u =
        let j : sharing_kind (kind_of s r) ≡ true = rw e i in (
          _,
          sharing_type j t.1 u.1 (grouped (groupable t.0 u.0) (p.sequences r)
              (λ f. record { clash = sharing_not_groupable t.0 u.0 j t.1 u.1 f; outside = out })),
        )

    by_kind : PatternKind (kind_of s r) → kind_of s r ≢ kind.not_allowed → Typed s r
    unfolding shape_of
    by_kind (is_empty e) n = (_, type_of_empty e)
    by_kind (is_not_allowed e) n = absurd (n e)
    by_kind (is_text e) n = (_, text_type e)
    by_kind (is_data e) n =
        ⊎_elim (λ f. (_, data_type_1 e f))
        (λ f. let t : Typed s (child_b s r) = rw f.0 (operand (b_of s r) (by_b f.0 refl)
        f.1 (ap holds_whole e) (λ z. omega arith)) in (_, data_type_2 e t.1))
        (pattern_or_none strings s p.rows r (table e (λ z. omega arith)) kind.«data» e refl)
    by_kind (is_value e) n = (_, value_type e)
    by_kind (is_list e) n = (_, list_type e)
    by_kind (is_attribute_lem e) n = (_, attribute_type e (side_b e (λ z. omega arith) refl (λ z. omega arith) refl).1)
    by_kind (is_ref e) n = (_, ref_type e)
    by_kind (is_one_or_more e) n =
        let t = side_a e (λ z. omega arith) refl (λ z. omega arith) refl in (
          _,
          one_or_more_type e t.1 (grouped (groupable t.0 t.0) (p.sequences r)
              (λ f. record { clash = repeat_not_groupable t.0 e t.1 f; outside = out })),
        )
    by_kind (is_choice e) n = (
      _,
      choice_type e (side_a e (λ z. omega arith) refl (λ z. omega arith) refl).1
          (side_b e (λ z. omega arith) refl (λ z. omega arith) refl).1,
    )
    by_kind (is_group e) n =
        pair e refl (side_a e (λ z. omega arith) refl (λ z. omega arith) refl)
        (side_b e (λ z. omega arith) refl (λ z. omega arith) refl)
    by_kind (is_interleave e) n =
        pair e refl (side_a e (λ z. omega arith) refl (λ z. omega arith) refl)
        (side_b e (λ z. omega arith) refl (λ z. omega arith) refl)

  up_to : (n r : ℕ) → r < n → is_pattern (sort_of s r) ≡ true → kind_of s r ≢ kind.not_allowed → ¬ InList s r
      → Typed s r
  up_to zero r h i f o = absurd (omega arith)
  up_to (suc n) r h i f o = by_kind r o (λ q l. up_to n q (omega arith)) (pattern_kind (kind_of s r) i) f

  pub has_content_type : (r : ℕ) → is_pattern (sort_of s r) ≡ true
      → kind_of s r ≢ kind.not_allowed → ¬ InList s r → (c : ℕ) × HasType s r c
  has_content_type r = up_to (suc r) r (omega arith)
