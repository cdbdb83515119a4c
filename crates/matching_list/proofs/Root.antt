-- The root against a pattern of start, by its kind, from the table of pairs.
use Prim.Native.Nat.{ℕ, zero, suc, ◌-◌, ◌<◌}
use mathlib.Core.Path.{◌≡◌, refl, sym, ◌∙◌, ap, subst}
use mathlib.Core.Bool.{Bool, true, false}
use mathlib.Core.List.{List, [], ◌∷◌}
use mathlib.Core.Logic.{◌≢◌}
use native.Mathlib.Nat.{zero-add}
use native.Mathlib.Omega.{arith}
use lib.Dec.{eqb}
use lib.ListN.{get_or}
use borrow.Author.Tests.{eq-eqb, eqb-true, eqb-false}
use Rattle.tables.specs.Tables.{tables_of}
use Rattle.tables.specs.Answers.{Decides}
use Rattle.schema.specs.Kinds as kind
use Rattle.schema.specs.Rows.{rows_of, kind_of, a_of, b_of, shape_of}
use Rattle.schema.specs.Views.{Pattern, not_allowed, ref, choice, pattern_by, pattern_of}
use Rattle.schema.specs.RowRule.{RowsRight, without_row}
use Rattle.schema.proofs.Fields.{both_fields}
use Rattle.schema.proofs.RowLaws.{right_size}
use Rattle.schema.proofs.Sorts.{definition_kind}
use Rattle.instance.specs.NodeRule.{NodesRight}
use Rattle.instance.specs.Elements.{is_element}
use Rattle.instance.proofs.Elements.{rooted}
use Rattle.instance.proofs.Size.{some_node}
use Rattle.matching_rules.specs.Items.{Item, element, Attributes, no_attributes, Lookups}
use Rattle.matching_rules.specs.Rules.{Matches, NotMatchBy, choice_1, choice_2}
use Rattle.matching_rules.specs.Job.{lookups}
use Rattle.matching_rules.proofs.Inversion.{step, against}
use Rattle.matching_rules.proofs.Passing.{restricted}
use Rattle.matching_rules.proofs.Paths.{start_starts}
use Rattle.matching_rules.specs.Reach.{Subpattern, Operand, operand, choice_first, choice_second}
use Rattle.matching_rules.specs.Restricted.{Starts, starts_not_allowed, starts_ref, starts_choice}
use Rattle.matching_rules.proofs.RowPatterns.{row_makes, from_ref, from_choice, has_kind}
use Rattle.matching_marks.specs.Given.{pair_entry}
use Rattle.matching_list.specs.Start.{RootAsked, StartAsked, TellsRoot, TellsValid}

pub some_row : {strings : ℕ} {s : List ℕ} → RowsRight strings s → 0 < rows_of s
some_row {strings} {s} right = at (rows_of s) refl
  where
    at : (n : ℕ) → rows_of s ≡ n → 0 < n
    at zero e = absurd (right_size right 0 (without_row e refl))
    at (suc n) e = omega arith

-- row 0 is an element
pub root_element : {strings : ℕ} {t : List ℕ} → NodesRight strings t → is_element t 0 ≡ true
root_element right = eq-eqb _ _ ((rooted right).root_kind (some_node right))

-- a ref names a definition, which is a row of the table
ref_row : {strings : ℕ} {s : List ℕ} → RowsRight strings s → (p : ℕ) → kind_of s p ≡ kind.ref → a_of s p < rows_of s
unfolding shape_of
ref_row {strings} {s} right p e =
    let d = definition_kind s (a_of s p)
    (rw e at (both_fields strings s right p (has_kind right e (λ z. omega arith))).0) in
    has_kind right d (λ z. omega arith)

module _ (L : Lookups) where
  -- the operands of a choice that start may have
  sides : {p₁ p₂ : ℕ} → Starts L (choice p₁ p₂) → Starts L (L.pattern p₁) × Starts L (L.pattern p₂)
  sides (starts_choice k₁ k₂) = (k₁, k₂)

  neither : {a : Attributes} {m : List Item} {p₁ p₂ : ℕ} → ¬ Matches L a m (L.pattern p₁)
      → ¬ Matches L a m (L.pattern p₂) → ¬ Matches L a m (choice p₁ p₂)
  neither f g (choice_1 m) = f m
  neither f g (choice_2 m) = g m

  never : {a : Attributes} {m : List Item} → ¬ Matches L a m not_allowed
  never d = step L (NotMatchBy L L.rows) d

module _ (s pairs : List ℕ) (p : ℕ) where
  -- a ref: the entry of the root and the definition
  pub tells_ref : {v : ℕ} (r : Bool) → kind_of s p ≡ kind.ref
      → v ≡ get_or pairs (a_of s p) 0 → r ≡ eqb v 1 → TellsRoot s pairs p r
  unfolding pattern_by
  tells_ref {v} r e f g T t pass right starts = rw (ap (λ (k : ℕ). pattern_by k (a_of s p) (b_of s p)) e) (go r g)
    where
      at : v ≡ pair_entry pairs 0 (a_of s p)
      at = f ∙ ap (λ (i : ℕ). get_or pairs i 0) (sym (zero-add (a_of s p)))

      entry : (v ≡ 1) → Matches (lookups (tables_of T s t)) no_attributes (element 0 ∷ []) (ref (a_of s p))
      entry z =
          (against (lookups (tables_of T s t)) (NotMatchBy (lookups (tables_of T s t)) (rows_of s))
          0 (a_of s p)).1 ((right.entries 0 (a_of s p) (omega arith)
          (some_node pass.nodes) (ref_row pass.schema.rows p e)).0 (sym at ∙ z)).1

      back : Matches (lookups (tables_of T s t)) no_attributes (element 0 ∷ []) (ref (a_of s p)) → v ≡ 1
      back m =
          at ∙ (right.entries 0 (a_of s p) (omega arith)
          (some_node pass.nodes) (ref_row pass.schema.rows p e)).1 (
            root_element pass.nodes,
            (against (lookups (tables_of T s t)) (NotMatchBy (lookups (tables_of T s t)) (rows_of s)) 0 (a_of s p)).0 m,
          )

      go : (r : Bool) → r ≡ eqb v 1
          → Decides (Matches (lookups (tables_of T s t)) no_attributes (element 0 ∷ []) (ref (a_of s p))) r
      go true g = entry (eqb-true v 1 (sym g))
      go false g = λ m. eqb-false v 1 (sym g) (back m)

  module _ (e : kind_of s p ≡ kind.choice) {p₁ p₂ : ℕ} (f₁ : p₁ ≡ a_of s p) (f₂ : p₂ ≡ b_of s p) where
    is_choice : pattern_of s p ≡ choice p₁ p₂
    unfolding pattern_by
    is_choice = ap (λ (k : ℕ). pattern_by k (a_of s p) (b_of s p)) e ∙ rw (f₁, f₂)

    pub tells_first : (r : Bool) → r ≡ true → TellsRoot s pairs p₁ r → TellsRoot s pairs p true
    tells_first r g h T t pass right starts =
        let k = sides (lookups (tables_of T s t)) (subst (Starts (lookups (tables_of T s t))) is_choice starts) in
        rw is_choice (choice_1 (rw g at (h T t pass right k.0)))

    pub tells_second : (r₁ r : Bool) → r₁ ≡ false → TellsRoot s pairs p₁ r₁
        → TellsRoot s pairs p₂ r → TellsRoot s pairs p r
    tells_second r₁ r g h₁ h₂ T t pass right starts = rw is_choice (go r (h₂ T t pass right k.1))
      where
        k : Starts (lookups (tables_of T s t)) (pattern_of s p₁) × Starts (lookups (tables_of T s t)) (pattern_of s p₂)
        k = sides (lookups (tables_of T s t)) (subst (Starts (lookups (tables_of T s t))) is_choice starts)

        no_first : Matches (lookups (tables_of T s t)) no_attributes (element 0 ∷ []) (pattern_of s p₁) → ⊥
        no_first = rw g at (h₁ T t pass right k.0)

        go : (r : Bool)
            → Decides (Matches (lookups (tables_of T s t)) no_attributes (element 0 ∷ []) (pattern_of s p₂)) r
            → Decides (Matches (lookups (tables_of T s t)) no_attributes (element 0 ∷ []) (choice p₁ p₂)) r
        go true m = choice_2 m
        go false m = neither (lookups (tables_of T s t)) no_first m

    -- operands are smaller rows, and of the sort that start may have
    module _ (q : StartAsked s pairs p) where
      less : {r : ℕ} → Operand r (choice p₁ p₂) → r < p
      less {r} i =
          (restricted (tables_of q.root.strings s q.root.instance)
          q.root.pass.schema).falls p r (subst (Subpattern r) (sym is_choice) (operand i))

      pub first_less : p₁ < p
      first_less = less choice_first

      pub second_less : p₂ < p
      second_less = less choice_second

      both : Starts (lookups (tables_of q.root.strings s q.root.instance)) (pattern_of s p₁)
          × Starts (lookups (tables_of q.root.strings s q.root.instance)) (pattern_of s p₂)
      both =
          sides (lookups (tables_of q.root.strings s q.root.instance))
          (subst (Starts (lookups (tables_of q.root.strings s q.root.instance))) is_choice q.starts)

      pub first_asked : StartAsked s pairs p₁
      first_asked = record { root = q.root; starts = both.0 }

      pub second_asked : StartAsked s pairs p₂
      second_asked = record { root = q.root; starts = both.1 }

  -- another pattern of start is notAllowed
  pub tells_nothing : kind_of s p ≢ kind.ref → kind_of s p ≢ kind.choice → TellsRoot s pairs p false
  tells_nothing n₈ n₁₀ T t pass right starts = go (pattern_of s p) refl starts
    where
      go : (x : Pattern) → pattern_of s p ≡ x → Starts (lookups (tables_of T s t)) x
          → Matches (lookups (tables_of T s t)) no_attributes (element 0 ∷ []) (pattern_of s p) → ⊥
      go x f starts_not_allowed m =
          never (lookups (tables_of T s t))
          (subst (Matches (lookups (tables_of T s t)) no_attributes (element 0 ∷ [])) f m)
      go x f starts_ref m = n₈ (from_ref (row_makes s p f)).0
      go x f (starts_choice k₁ k₂) m = n₁₀ (from_choice (row_makes s p f)).0

-- the pattern of start is the first field of the last row
module _ (s pairs : List ℕ) (q : ℕ) (f : q ≡ a_of s (rows_of s - 1)) where
  pub start_asked : RootAsked s pairs → StartAsked s pairs q
  start_asked r =
      record { root = r; starts = rw f (start_starts (tables_of r.strings s r.instance) r.pass.schema) }

  pub tells_valid : (r : Bool) → TellsRoot s pairs q r → TellsValid s pairs r
  tells_valid r h = record {
    tells = λ T t pass right. rw f at (h T t pass right (rw f (start_starts (tables_of T s t) pass.schema)));
  }
