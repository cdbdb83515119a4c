-- Spans: the attributes A and the items of a set K of positions in [i, j) match the pattern at row p. By kind, for the
-- patterns that do not share attributes or items out.
use Prim.Native.Nat.{ℕ, ◌-◌, ◌≤◌}
use mathlib.Core.Path.{◌≡◌, refl, ap, ap₂, sym, ◌∙◌}
use mathlib.Core.Bool.{Bool, false}
use mathlib.Core.List.{List, [], ◌∷◌, ◌++◌}
use mathlib.Core.Logic.Iff
use mathlib.Core.Logic.{inl, inr, ◌↔◌}
use native.Mathlib.Omega.{arith}
use Rattle.schema.specs.Views.{Pattern, empty, not_allowed, text, attribute, ref, choice, no_pattern}
use Rattle.relations.specs.Relations.{Or}
use Rattle.matching_rules.specs.Items.{Item, element, string, Attributes, no_attributes, Lookups}
use Rattle.matching_rules.specs.Rules.{Match, ws_empty}
use Rattle.matching_rules.specs.Reach.{role_of, one_string}
use Rattle.matching_rules.specs.Spans.{Paired, Span, CleanAt, run}
use Rattle.matching_rules.proofs.Inversion.{One, cast, AttributeMatch, ElementMatch}
use Rattle.matching_rules.proofs.Inversion.{Step, stepwise, string_alone}
use Rattle.matching_rules.proofs.Occurrences.{clean_run, clean_element}
use Rattle.matching_rules.proofs.Sequences.{has_element}

-- no attributes, and the items in [i, j) are as asked
pub record ItemsOnly (A : Attributes) (it : ℕ → Item) (K : ℕ → Bool)
    (Asked : List Item → Type 0) (i j : ℕ) : Type 0 where
  pub ordered : i ≤ j
  pub free : A ≡ no_attributes
  pub items : Asked (run it K i (j - i))

module _ (L : Lookups) (NotMatch : List ℕ → ℕ → Type 0) where
  -- all positions of a run, and none
  pub span_whole : (A : Attributes) (it : ℕ → Item) (K : ℕ → Bool) (p n : ℕ) {m : List Item}
      → run it K 0 n ≡ m → Span L NotMatch A it K p 0 n ↔ Match L NotMatch A m (L.pattern p)
  span_whole A it K p n e =
      let z : n - 0 ≡ n = omega arith in (
        λ s. cast L NotMatch refl (ap (run it K 0) z ∙ e) s.1,
        λ d. (omega arith, cast L NotMatch refl (sym (ap (run it K 0) z ∙ e)) d),
      )

  pub span_nowhere : (A : Attributes) (it : ℕ → Item) (K : ℕ → Bool) (p i : ℕ)
      → Span L NotMatch A it K p i i ↔ Match L NotMatch A [] (L.pattern p)
  unfolding run
  span_nowhere A it K p i =
      let z : i - i ≡ 0 = omega arith in (
        λ s. cast L NotMatch refl (ap (run it K i) z) s.1,
        λ d. (omega arith, cast L NotMatch refl (sym (ap (run it K i) z)) d),
      )

  -- the sequence of one element, which is paired with the definition
  abbrev pub OnePaired : ℕ → List Item → Type 0
  OnePaired d m = (e : ℕ) × (m ≡ element e ∷ []) × Paired L NotMatch e d

  module _ (A : Attributes) (it : ℕ → Item) (K : ℕ → Bool) (p i j : ℕ) where
    pub by_kind : (x : Pattern) → L.pattern p ≡ x
        → Span L NotMatch A it K p i j ↔ ((i ≤ j) × Step L NotMatch x A (run it K i (j - i)))
    by_kind x e =
        (λ s. (s.0, (stepwise L NotMatch x).0 (rw e at s.1)), λ s. (s.0, rw e ((stepwise L NotMatch x).1 s.1)))

    pub span_not_allowed : L.pattern p ≡ not_allowed → ¬ Span L NotMatch A it K p i j
    span_not_allowed e s = ((by_kind not_allowed e).0 s).1

    pub span_no_pattern : L.pattern p ≡ no_pattern → ¬ Span L NotMatch A it K p i j
    span_no_pattern e s = ((by_kind no_pattern e).0 s).1

    -- a kind that takes items and no attribute
    pub items_only : (x : Pattern) (Asked : List Item → Type 0)
        → Step L NotMatch x A (run it K i (j - i)) ↔ ((A ≡ no_attributes) × Asked (run it K i (j - i)))
        → L.pattern p ≡ x → Span L NotMatch A it K p i j ↔ ItemsOnly A it K Asked i j
    items_only x Asked f e = (
      λ s. let t = f.0 ((by_kind x e).0 s).1 in record { ordered = s.0; free = t.0; items = t.1 },
      λ s. (by_kind x e).1 (s.ordered, f.1 (s.free, s.items)),
    )

    pub span_empty : L.pattern p ≡ empty → Span L NotMatch A it K p i j ↔ ItemsOnly A it K (λ m. m ≡ []) i j
    span_empty = items_only empty (λ m. m ≡ []) Iff.rfl

    pub span_text : L.pattern p ≡ text
        → Span L NotMatch A it K p i j ↔ ItemsOnly A it K (λ m. has_element m ≡ false) i j
    span_text = items_only text (λ m. has_element m ≡ false) Iff.rfl

    -- a pattern of one string
    pub span_string : role_of (L.pattern p) ≡ one_string → Span L NotMatch A it K p i j
        ↔ ItemsOnly A it K (One (λ s. Match L NotMatch no_attributes (string s ∷ []) (L.pattern p))) i j
    span_string e =
        let f = string_alone L NotMatch {a = A} {m = run it K i (j - i)} (L.pattern p) e in (
          λ s. let t = f.0 s.1 in record { ordered = s.0; free = t.0; items = t.1 },
          λ s. (s.ordered, f.1 (s.free, s.items)),
        )

    pub span_ref : {d : ℕ} → CleanAt L it K → L.pattern p ≡ ref d
        → Span L NotMatch A it K p i j ↔ ItemsOnly A it K (OnePaired d) i j
    span_ref {d} clean = items_only (ref d) (OnePaired d) (to, from)
      where
        to : ElementMatch L NotMatch A (run it K i (j - i)) d → (A ≡ no_attributes) × OnePaired d (run it K i (j - i))
        to s =
            let z = clean_element L s.row
            (rw s.sequence at (clean_run L it K clean i (j - i))) s.before s.after in (
              s.set,
              (s.row, s.sequence ∙ ap₂ (λ (w v : List Item). w ++ element s.row ∷ v) z.0 z.1, s.paired),
            )

        from : (A ≡ no_attributes) × OnePaired d (run it K i (j - i)) → ElementMatch L NotMatch A (run it K i (j - i)) d
        from s = record {
          row = s.1.0;
          ws₁ = [];
          ws₂ = [];
          set = s.0;
          sequence = s.1.1;
          paired = s.1.2;
          before = ws_empty;
          after = ws_empty;
        }

    pub span_attribute : {nc q : ℕ} → L.pattern p ≡ attribute nc q
        → Span L NotMatch A it K p i j ↔ ((i ≤ j) × AttributeMatch L NotMatch A (run it K i (j - i)) nc (L.pattern q))
    span_attribute {nc} {q} = by_kind (attribute nc q)

    pub span_choice : {p₁ p₂ : ℕ} → L.pattern p ≡ choice p₁ p₂
        → Span L NotMatch A it K p i j ↔ Or (Span L NotMatch A it K p₁) (Span L NotMatch A it K p₂) i j
    span_choice {p₁} {p₂} e = (to, from)
      where
        to : Span L NotMatch A it K p i j → Or (Span L NotMatch A it K p₁) (Span L NotMatch A it K p₂) i j
        to s = elim ((by_kind (choice p₁ p₂) e).0 s).1 [ inl d ↦ inl (s.0, d) | inr d ↦ inr (s.0, d) ]

        from : Or (Span L NotMatch A it K p₁) (Span L NotMatch A it K p₂) i j → Span L NotMatch A it K p i j
        from (inl s) = (by_kind (choice p₁ p₂) e).1 (s.0, inl s.1)
        from (inr s) = (by_kind (choice p₁ p₂) e).1 (s.0, inr s.1)
