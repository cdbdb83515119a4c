-- (valid) of 9.4 for a schema that passes: the root is proved against a definition that the start names.
use mathlib.Core.Path.{◌≡◌, refl, sym, ◌∙◌, ap, subst}
use mathlib.Core.Logic.{◌⊎◌, inl, inr, ⊎_elim, ◌↔◌}
use mathlib.Core.Bool.{false, false≢true}
use mathlib.Core.List.{List, [], ◌∷◌}
use Prim.Native.Nat.{ℕ, ◌-◌}
use native.Mathlib.Omega.{arith}
use Rattle.tables.specs.Tables.{Tables}
use Rattle.schema.specs.Kinds as kind
use Rattle.schema.specs.Rows.{rows_of, kind_of, a_of, b_of, shape_of, names}
use Rattle.schema.specs.Relations.{Child, by_a, by_b, Below, child, deeper}
use Rattle.schema.specs.Views.{Pattern, pattern_of, ref}
use Rattle.schema_places.proofs.Sweep.{further}
use Rattle.schema_restrictions.specs.Schema.{SchemaPasses}
use Rattle.matching_rules.specs.Items.{Item, element, Attributes, no_attributes, Lookups}
use Rattle.matching_rules.specs.Rules.{choice_1, choice_2, Matches, Proved}
use Rattle.matching_rules.specs.Rules as rule
use Rattle.matching_rules.specs.Job.{lookups, Valid, StartNames, by_ref}
use Rattle.matching_rules.specs.Reach.{Subpattern, operand, choice_first, choice_second}
use Rattle.matching_rules.specs.Restricted.{Starts, starts_not_allowed, starts_ref, starts_choice}
use Rattle.matching_rules.proofs.RowPatterns.{row_makes, from_not_allowed, from_ref, from_choice, part_child}
use Rattle.matching_rules.proofs.Paths.{start_kind, start_child, start_starts}

-- what is below p is a child of p or below one
below_child : {s : List ℕ} {r p : ℕ} → Below s r p → (q : ℕ) × Child s q p × ((r ≡ q) ⊎ Below s r q)
below_child {r = r} (child c) = (r, c, inl refl)
below_child (deeper {q = q} c b) = (q, c, inr b)

module _ {s : List ℕ} {p q : ℕ} where
  -- the children of a row of kind k, where field b, or both fields, name none
  field_a_child : (k : ℕ) → ((x : ℕ) → names s p (shape_of k).b x ≡ false) → kind_of s p ≡ k → Child s q p
      → a_of s p ≡ q
  field_a_child k f e (by_a n g) = g
  field_a_child k f e (by_b n g) = absurd (false≢true (sym (f (b_of s p)) ∙ rw e at n))

  childless : (k : ℕ) → ((x : ℕ) → names s p (shape_of k).a x ≡ false)
      → ((x : ℕ) → names s p (shape_of k).b x ≡ false) → kind_of s p ≡ k → ¬ Child s q p
  childless k f g e (by_a n h) = false≢true (sym (f (a_of s p)) ∙ rw e at n)
  childless k f g e (by_b n h) = false≢true (sym (g (b_of s p)) ∙ rw e at n)

  -- a child is what one of the fields holds
  child_side : {a b : ℕ} → a_of s p ≡ a → b_of s p ≡ b → Child s q p → (q ≡ a) ⊎ (q ≡ b)
  child_side f g (by_a n h) = inl (sym h ∙ f)
  child_side f g (by_b n h) = inr (sym h ∙ g)

module _ {strings : ℕ} (J : Tables) (pass : SchemaPasses strings J.schema) where
  abbrev s : List ℕ
  s = J.schema

  abbrev L : Lookups
  L = lookups J

  -- what matches a pattern below start matches a ref that stands there
  valid_to : {a : Attributes} {m : List Item} {x : Pattern} → Starts L x → (p : ℕ) → pattern_of s p ≡ x
      → Below s p (rows_of s - 1) → Matches L a m x → (d : ℕ) × StartNames J d × Matches L a m (ref d)
  valid_to {a = a} {m = m} starts_not_allowed p f b x9 = elim x9 [ ]
  valid_to (starts_ref {d = d}) p f b (rule.element e i o c w w₁ w₂) =
      let k = from_ref (row_makes s p f) in
      (d, by_ref p b k.0 k.1, rule.element e i o c w w₁ w₂)
  valid_to (starts_choice {p₁ = q} k₁ k₂) p f b (choice_1 m) =
      valid_to k₁ q refl (further b (part_child pass.rows p (subst (Subpattern q) (sym f) (operand choice_first)))) m
  valid_to (starts_choice {p₂ = q} k₁ k₂) p f b (choice_2 m) =
      valid_to k₂ q refl
      (further b (part_child pass.rows p (subst (Subpattern q) (sym f) (operand choice_second)))) m

  -- an element that is proved against the definition that the ref at row r names matches every pattern of start that
  -- is, or has below it, that ref
  module _ (e r d : ℕ) (k : kind_of s r ≡ kind.ref) (names-d : a_of s r ≡ d) (proved : Proved L e d) where
    valid_from : {x : Pattern} → Starts L x → (p : ℕ) → pattern_of s p ≡ x
        → (r ≡ p) ⊎ Below s r p → Matches L no_attributes (element e ∷ []) x
    unfolding shape_of
    valid_from starts_not_allowed p f (inl z) =
        absurd (let i = from_not_allowed (row_makes s p f) in let j = ap (kind_of s) z in omega arith)
    valid_from starts_not_allowed p f (inr b) =
        absurd (childless kind.not_allowed (λ x. refl) (λ x. refl)
        (from_not_allowed (row_makes s p f)) (below_child b).1)
    valid_from starts_ref p f (inl z) =
        let i = from_ref (row_makes s p f) in
        subst (λ (c : ℕ). Proved L e c) (sym names-d ∙ ap (a_of s) z ∙ i.1) proved
    valid_from starts_ref p f (inr b) =
        absurd (childless kind.ref (λ x. refl) (λ x. refl) (from_ref (row_makes s p f)).0 (below_child b).1)
    valid_from (starts_choice k₁ k₂) p f (inl z) =
        absurd (let i = (from_choice (row_makes s p f)).0 in let j = ap (kind_of s) z in omega arith)
    valid_from (starts_choice {p₁ = p₁} {p₂ = p₂} k₁ k₂) p f (inr b) =
        let i = from_choice (row_makes s p f) in
        let c = below_child b in
        ⊎_elim
        (λ z. choice_1 (valid_from k₁ p₁ refl (subst (λ (y : ℕ). (r ≡ y) ⊎ Below s r y) z c.2)))
        (λ z. choice_2 (valid_from k₂ p₂ refl (subst (λ (y : ℕ). (r ≡ y) ⊎ Below s r y) z c.2)))
        (child_side i.1 i.2 c.1)

  -- start has one child
  started : (e d : ℕ) → StartNames J d → Proved L e d
      → Matches L no_attributes (element e ∷ []) (pattern_of s (a_of s (rows_of s - 1)))
  unfolding shape_of
  started e d (by_ref r b k f) proved =
      let c = below_child b in
      let a = field_a_child kind.start (λ x. refl) (start_kind pass) c.1 in
      valid_from e r d k f proved (start_starts J pass) (a_of s (rows_of s - 1))
      refl (subst (λ (y : ℕ). (r ≡ y) ⊎ Below s r y) (sym a) c.2)

  pub valid : Valid J ↔ ((d : ℕ) × StartNames J d × Proved (lookups J) 0 d)
  valid = (
    λ m. valid_to (start_starts J pass) (a_of s (rows_of s - 1)) refl (child (start_child pass)) m,
    λ i. started 0 i.0 i.1 i.2,
  )
