-- Spans of oneOrMore (9.3.5). Without attributes they are a closure. No attribute stands in a group below (10.2.3), so
-- each comes alone, with no items.
use Prim.Native.Nat.{ℕ, zero, suc, ◌-◌, ◌≤◌, ◌<◌}
use mathlib.Core.Path.{◌≡◌, refl, ap, ap₂, sym, ◌∙◌, subst, fun_ext}
use mathlib.Core.Bool.{Bool, true, false, not, true≢false, false≢true, or-false}
use mathlib.Core.List.{List, [], ◌++◌, append-nil}
use mathlib.Core.Logic.{◌⊎◌, inl, inr, ⊎_map, ◌↔◌}
use native.Mathlib.Omega.{arith}
use lib.Dec.{eqb}
use borrow.Author.Tests.{eqb-true}
use Rattle.schema.specs.Views.{Pattern}
use Rattle.schema.specs.Views as pattern
use Rattle.relations.specs.Relations.{Plus, once, more}
use Rattle.matching_rules.specs.Items.{Item, Attributes, no_attributes, only, ◌∪◌, Lookups}
use Rattle.matching_rules.specs.Rules.{Disjoint, Match, choice_1, choice_2, group, empty}
use Rattle.matching_rules.specs.Rules.{text_1, text_2, one_or_more_1, one_or_more_2, interleave}
use Rattle.matching_rules.specs.Rules.{attribute, element, value, data_1, data_2, list}
use Rattle.tables.proofs.Booleans.{or_either, and_left}
use Rattle.matching_rules.proofs.Booleans.{◌∖◌, no_member, ∖-only, one_and_rest, none_left, none_right}
use Rattle.matching_rules.proofs.Inversion.{cast}
use Rattle.matching_rules.proofs.Occurrences.{named}
use Rattle.matching_rules.specs.Reach.{Operand, repeated, choice_first, choice_second}
use Rattle.matching_rules.specs.Reach.{Reaches, itself, down, names_attribute}
use Rattle.matching_rules.specs.Restricted.{Restricted, Flat}
use Rattle.matching_rules.specs.Spans.{run, Distinct, Span}
use Rattle.matching_rules.proofs.Runs.{run_join, run_split}

module _ (L : Lookups) where
  pub distinct_part : (A B : Attributes) → ((x : ℕ) → B x ≡ true → A x ≡ true) → Distinct L A → Distinct L B
  distinct_part A B f d x y h k = d x y (f x h) (f y k)

  flat_operand : {x : Pattern} (r : ℕ) → Operand r x → Flat L x → Flat L (L.pattern r)
  flat_operand r s f y k = f y (down r s k)

  module _ (NotMatch : List ℕ → ℕ → Type 0) where
    -- no items, or items that match without attributes
    abbrev NoneOr : Pattern → List Item → Type 0
    NoneOr x m = (m ≡ []) ⊎ Match L NotMatch no_attributes m x

    -- the attributes of a match come apart: each alone, and the items without them
    record Apart (a : Attributes) (m : List Item) (x : Pattern) : Type 0 where
      single : (y : ℕ) → a y ≡ true → Match L NotMatch (only y) [] x
      items : NoneOr x m

    no_attribute : {a : Attributes} {m : List Item} {x : Pattern} → Match L NotMatch a m x
        → ((y : ℕ) → ¬ Reaches L (names_attribute L y) x) → Apart a m x
    no_attribute {a} d h = record {
      single = λ y k. absurd (h y (named L NotMatch d y k));
      items = inr (cast L NotMatch (no_member a (λ y k. h y (named L NotMatch d y k))) refl d);
    }

    only_items : {m : List Item} {x : Pattern} → Match L NotMatch no_attributes m x → Apart no_attributes m x
    only_items d = record { single = λ y h. absurd (false≢true h); items = inr d }

    apart_map : {a : Attributes} {m : List Item} {x z : Pattern}
        → ((a : Attributes) (m : List Item) → Match L NotMatch a m x → Match L NotMatch a m z)
        → Apart a m x → Apart a m z
    apart_map {m = m} f d =
        record { single = λ y k. f (only y) [] (d.single y k); items = ⊎_map (λ e. e) (f no_attributes m) d.items }

    items_join : {m₁ m₂ : List Item} (q : ℕ) → NoneOr (L.pattern q) m₁
        → NoneOr (pattern.one_or_more q) m₂ → NoneOr (pattern.one_or_more q) (m₁ ++ m₂)
    items_join q (inl u) (inl v) = inl (ap₂ ◌++◌ u v)
    items_join {m₂ = m₂} q (inl u) (inr d) = inr (cast L NotMatch refl (ap (λ (t : List Item). t ++ m₂) (sym u)) d)
    items_join {m₁ = m₁} q (inr d) (inl v) =
        inr (cast L NotMatch refl (sym (append-nil m₁) ∙ ap (λ (t : List Item). m₁ ++ t) (sym v)) (one_or_more_1 d))
    items_join q (inr c) (inr d) = inr (one_or_more_2 c d (λ x y h. absurd (false≢true h)))

    apart : {a : Attributes} {m : List Item} {x : Pattern} → Match L NotMatch a m x → Flat L x → Apart a m x
    apart (choice_1 {p₁ = p} d) f = apart_map (λ a m. choice_1) (apart d (flat_operand p choice_first f))
    apart (choice_2 {p₂ = p} d) f = apart_map (λ a m. choice_2) (apart d (flat_operand p choice_second f))
    apart (group {p₁ = p₁} {p₂ = p₂} d₁ d₂) f = no_attribute (group d₁ d₂) (f (pattern.group p₁ p₂) itself refl)
    apart empty f = only_items empty
    apart text_1 f = only_items text_1
    apart (text_2 s d) f = only_items (text_2 s d)
    apart (one_or_more_1 {p = q} d) f = apart_map (λ a m. one_or_more_1) (apart d (flat_operand q repeated f))
    apart (one_or_more_2 {a₁ = a₁} {a₂ = a₂} {p = q} d₁ d₂ z) f =
        let l = apart d₁ (flat_operand q repeated f) in
        let r = apart d₂ f in
        record {
          single = λ y h.
              elim (or_either (a₁ y) (a₂ y) h) [ inl k ↦ one_or_more_1 (l.single y k) | inr k ↦ r.single y k ];
          items = items_join q l.items r.items;
        }
    apart (interleave {p₁ = p₁} {p₂ = p₂} d₁ d₂ w) f =
        no_attribute (interleave d₁ d₂ w) (f (pattern.interleave p₁ p₂) itself refl)
    apart (attribute {nc = nc} {p = p} x n w) f =
        record {
          single = λ y h. subst (λ (z : ℕ). Match L NotMatch (only z) [] (pattern.attribute nc p))
              (eqb-true x y h) (attribute x n w);
          items = inl refl;
        }
    apart (element e h o n w b c) f = only_items (element e h o n w b c)
    apart (value z) f = only_items (value z)
    apart data_1 f = only_items data_1
    apart (data_2 z) f = only_items (data_2 z)
    apart (list d) f = only_items (list d)

    module _ (q : ℕ) where
      -- the same of the repetitions of a pattern
      repeated_single : Flat L (L.pattern q) → {a : Attributes} {m : List Item}
          → Match L NotMatch a m (pattern.one_or_more q) → (y : ℕ) → a y ≡ true
          → Match L NotMatch (only y) [] (L.pattern q)
      repeated_single f (one_or_more_1 d) y h = (apart d f).single y h
      repeated_single f (one_or_more_2 {a₁ = a₁} {a₂ = a₂} d₁ d₂ z) y h =
          elim (or_either (a₁ y) (a₂ y) h) [ inl k ↦ (apart d₁ f).single y k | inr k ↦ repeated_single f d₂ y k ]

      repeated_items : Flat L (L.pattern q) → {a : Attributes} {m : List Item}
          → Match L NotMatch a m (pattern.one_or_more q) → NoneOr (pattern.one_or_more q) m
      repeated_items f (one_or_more_1 d) = ⊎_map (λ e. e) one_or_more_1 (apart d f).items
      repeated_items f (one_or_more_2 d₁ d₂ z) = items_join q (apart d₁ f).items (repeated_items f d₂)

      -- the other way: a repetition for each attribute
      abbrev Singles : Attributes → Type 0
      Singles A = (x : ℕ) → A x ≡ true → Match L NotMatch (only x) [] (L.pattern q)

      -- one attribute besides others, if there are any
      besides : {m : List Item} (A : Attributes) (y : ℕ) → A y ≡ true
          → Distinct L A → Singles A → NoneOr (pattern.one_or_more q) m
          → (A ∖ only y ≡ no_attributes) ⊎ Match L NotMatch (A ∖ only y) m (pattern.one_or_more q)
          → Match L NotMatch A m (pattern.one_or_more q)
      besides A y h u s b (inr d) = cast L NotMatch (one_and_rest A y h) refl (one_or_more_2 (s y h) d disjoint)
        where
          disjoint : Disjoint L (only y) (A ∖ only y)
          disjoint x z e f same =
              ∖-only A y z f (u y z h (and_left (A z) (not (eqb y z)) f) (rw (← eqb-true y x e) at same))
      besides A y h u s b (inl z) =
          cast L NotMatch (ap (λ (B : Attributes). only y ∪ B) (sym z) ∙ one_and_rest A y h) refl (alone b)
        where
          alone : {m : List Item} → NoneOr (pattern.one_or_more q) m
              → Match L NotMatch (only y ∪ no_attributes) m (pattern.one_or_more q)
          alone (inl e) = cast L NotMatch (fun_ext (λ x. sym (or-false (eqb y x)))) (sym e) (one_or_more_1 (s y h))
          alone (inr c) = one_or_more_2 (s y h) c (λ x y e f. absurd (false≢true f))

      -- of a set of rows before N
      abbrev Joined : List Item → ℕ → Attributes → Type 0
      Joined m N A =
          ((x : ℕ) → A x ≡ true → x < N) → Distinct L A → Singles A
          → (A ≡ no_attributes) ⊎ Match L NotMatch A m (pattern.one_or_more q)

      joined : {m : List Item} → NoneOr (pattern.one_or_more q) m → (N : ℕ) (A : Attributes) → Joined m N A
      joined b zero A l u s = inl (no_member A (λ x h. let z = l x h in omega arith))
      joined {m} b (suc N) A l u s = go (A N) refl (joined b N)
        where
          go : (t : Bool) → A N ≡ t → ((B : Attributes) → Joined m N B)
              → (A ≡ no_attributes) ⊎ Match L NotMatch A m (pattern.one_or_more q)
          go false e rest =
              rest A (λ x h. let z = l x h in
              let y : ¬ (N ≡ x) = (λ k. true≢false (sym h ∙ ap A (sym k) ∙ e)) in omega arith) u s
          go true e rest =
              let member : (x : ℕ) → (A ∖ only N) x ≡ true → A x ≡ true = (λ x. and_left (A x) (not (eqb N x))) in
              let below : (x : ℕ) → (A ∖ only N) x ≡ true → x < N = (λ x h. let z = l x (member x h) in
              let y = ∖-only A N x h in omega arith) in
              inr (besides A N e u s b
              (rest (A ∖ only N) below (distinct_part A (A ∖ only N) member u) (λ x h. s x (member x h))))

    module _ (it : ℕ → Item) (K : ℕ → Bool) (q : ℕ) where
      steps : {a : Attributes} {m : List Item} → Match L NotMatch a m (pattern.one_or_more q) → a ≡ no_attributes
          → (i j : ℕ) → i ≤ j → run it K i (j - i) ≡ m → Plus (Span L NotMatch no_attributes it K q) i j
      steps (one_or_more_1 d) z i j l e = once (l, cast L NotMatch z (sym e) d)
      steps (one_or_more_2 {a₁ = a₁} {a₂ = a₂} {m₁ = m₁} {m₂ = m₂} d₁ d₂ x) z i j l e =
          let s = run_split it K m₁ m₂ l e in
          more (s.after, cast L NotMatch (none_left a₁ a₂ z) (sym s.first) d₁)
          (steps d₂ (none_right a₁ a₂ z) s.h j s.before s.second)

      unsteps : {i j : ℕ} → Plus (Span L NotMatch no_attributes it K q) i j
          → (i ≤ j) × Match L NotMatch no_attributes (run it K i (j - i)) (pattern.one_or_more q)
      unsteps (once s) = (s.0, one_or_more_1 s.1)
      unsteps (more s t) =
          let r = unsteps t in
          let l = s.0 in
          let k = r.0 in (
            omega arith,
            cast L NotMatch refl (sym (run_join it K l k)) (one_or_more_2 s.1 r.1 (λ x y h. absurd (false≢true h))),
          )

      pub span_one_or_more : (p i j : ℕ) → L.pattern p ≡ pattern.one_or_more q
          → Span L NotMatch no_attributes it K p i j ↔ Plus (Span L NotMatch no_attributes it K q) i j
      span_one_or_more p i j e =
          (λ s. steps (rw e at s.1) refl i j s.0 refl, λ s. let t = unsteps s in (t.0, rw e t.1))

      -- what a oneOrMore with attributes asks
      pub record Repeated (A : Attributes) (i j : ℕ) : Type 0 where
        pub ordered : i ≤ j
        pub single : (x : ℕ) → A x ≡ true → Match L NotMatch (only x) [] (L.pattern q)
        pub items : (run it K i (j - i) ≡ []) ⊎ Plus (Span L NotMatch no_attributes it K q) i j

      pub span_one_or_more_attributes : Restricted L → (A : Attributes) (N x₀ : ℕ) → ((x : ℕ) → A x ≡ true → x < N)
          → A x₀ ≡ true → Distinct L A → (p i j : ℕ) → L.pattern p ≡ pattern.one_or_more q
          → Span L NotMatch A it K p i j ↔ Repeated A i j
      span_one_or_more_attributes R A N x₀ bound some distinct p i j e = (to, from)
        where
          to : Span L NotMatch A it K p i j → Repeated A i j
          to s =
              let d : Match L NotMatch A (run it K i (j - i)) (pattern.one_or_more q) = rw e at s.1 in
              let f = R.repeats_flat p q e in
              record {
                ordered = s.0;
                single = repeated_single q f d;
                items = ⊎_map (λ z. z) (λ c. steps c refl i j s.0 refl) (repeated_items q f d);
              }

          from : Repeated A i j → Span L NotMatch A it K p i j
          from s =
              elim (joined q (⊎_map (λ z. z) (λ t. (unsteps t).1) s.items) N A bound distinct s.single) [
                | inl z ↦ absurd (true≢false (sym some ∙ ap (λ (B : Attributes). B x₀) z))
                | inr d ↦ (s.ordered, rw e d)
              ]
