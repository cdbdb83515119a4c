-- What a match has its pattern reaches: an attribute of each name, and for each item a pattern that takes it.
use Prim.Native.Nat.{ℕ}
use mathlib.Core.Path.{◌≡◌, refl, sym, ◌∙◌}
use mathlib.Core.Bool.{Bool, true, false, true≢false, false≢true}
use mathlib.Core.List.{List, [], ◌∷◌, ◌++◌}
use mathlib.Core.Logic.{inl, inr}
use borrow.Author.Tests.{eqb-true}
use Rattle.schema.specs.Views.{Pattern}
use Rattle.schema.specs.Views as pattern
use Rattle.matching_rules.specs.Items.{Item, string, Attributes, Lookups}
use Rattle.matching_rules.specs.Items as item
use Rattle.matching_rules.specs.Rules.{Ws, ws_empty, ws_string, Match, choice_1, choice_2, group}
use Rattle.matching_rules.specs.Rules.{empty, text_1, text_2, one_or_more_1, one_or_more_2, interleave}
use Rattle.matching_rules.specs.Rules.{attribute, element, value, data_1, data_2, list}
use Rattle.tables.proofs.Booleans.{or_either, both_and}
use Rattle.matching_rules.proofs.Interleavings.{shuffle, swap, among_first, among_either}
use Rattle.matching_rules.proofs.Positions.{among_run}
use Rattle.matching_rules.specs.Spans.{CleanAt, run}
use Rattle.matching_rules.specs.Reach.{Role, strings, one_string, an_attribute, an_element, sharing, another}
use Rattle.matching_rules.specs.Reach.{role_of, string_by, item_by, repeated, choice_first, choice_second}
use Rattle.matching_rules.specs.Reach.{group_first, group_second, interleave_first, interleave_second}
use Rattle.matching_rules.specs.Reach.{Reaches, here, there, takes_any, takes_string, names_attribute, takes}
use Rattle.matching_rules.proofs.Sequences.{Among, first, later, among_append}
use Rattle.matching_rules.proofs.Sequences.{among_left, among_right, among_one}

module _ (L : Lookups) where
  -- no string of whitespace stands beside an element
  abbrev pub Clean : List Item → Type 0
  Clean m = (e : ℕ) (s : List ℕ) → Among (item.element e) m → Among (string s) m → L.whitespace s ≡ false

  pub clean_run : (it : ℕ → Item) (K : ℕ → Bool) → CleanAt L it K → (i n : ℕ) → Clean (run it K i n)
  clean_run it K c i n e s a b =
      let h = among_run it K i n a in
      let k = among_run it K i n b in
      c h.place k.place e s h.member h.item k.member k.item

  pub clean_part : (it : ℕ → Item) (K J : ℕ → Bool)
      → ((k : ℕ) → J k ≡ true → K k ≡ true) → CleanAt L it K → CleanAt L it J
  clean_part it K J f c h k e s a x b y = c h k e s (f h a) x (f k b) y

  -- then nothing stands beside an element that a ref takes
  bare : {w m : List Item} {e : ℕ} → Clean m → Among (item.element e) m
      → ((y : Item) → Among y w → Among y m) → Ws L w → w ≡ []
  bare c h a ws_empty = refl
  bare {e = e} c h a (ws_string {s = s} b) = absurd (true≢false (sym b ∙ c e s h (a (string s) (first refl))))

  pub clean_element : {w v : List Item} (e : ℕ)
      → Clean (w ++ item.element e ∷ v) → Ws L w → Ws L v → (w ≡ []) × (v ≡ [])
  clean_element {w} {v} e c a b =
      let h : Among (item.element e) (w ++ item.element e ∷ v) = among_right w (first refl) in
      (bare c h (λ y. among_left (item.element e ∷ v)) a, bare c h (λ y k. among_right w (later k)) b)

  module _ (NotMatch : List ℕ → ℕ → Type 0) where
    pub named : {a : Attributes} {m : List Item} {x : Pattern} → Match L NotMatch a m x
        → (y : ℕ) → a y ≡ true → Reaches L (names_attribute L y) x
    named (choice_1 {p₁ = p} d) y h = there p choice_first (named d y h)
    named (choice_2 {p₂ = p} d) y h = there p choice_second (named d y h)
    named (group {a₁ = a₁} {a₂ = a₂} {p₁ = p₁} {p₂ = p₂} d₁ d₂) y h =
        elim (or_either (a₁ y) (a₂ y) h) [
          | inl k ↦ there p₁ group_first (named d₁ y k)
          | inr k ↦ there p₂ group_second (named d₂ y k)
        ]
    named empty y h = absurd (false≢true h)
    named text_1 y h = absurd (false≢true h)
    named (text_2 s d) y h = absurd (false≢true h)
    named (one_or_more_1 {p = p} d) y h = there p repeated (named d y h)
    named (one_or_more_2 {a₁ = a₁} {a₂ = a₂} {p = p} d₁ d₂ z) y h =
        elim (or_either (a₁ y) (a₂ y) h) [ inl k ↦ there p repeated (named d₁ y k) | inr k ↦ named d₂ y k ]
    named (interleave {a₁ = a₁} {a₂ = a₂} {p₁ = p₁} {p₂ = p₂} d₁ d₂ w) y h =
        elim (or_either (a₁ y) (a₂ y) h) [
          | inl k ↦ there p₁ interleave_first (named d₁ y k)
          | inr k ↦ there p₂ interleave_second (named d₂ y k)
        ]
    named (attribute {nc = nc} {p = p} x n w) y h = here {x = pattern.attribute nc p} (rw (eqb-true x y h) at n)
    named (element e f o n w b a) y h = absurd (false≢true h)
    named (value z) y h = absurd (false≢true h)
    named data_1 y h = absurd (false≢true h)
    named (data_2 z) y h = absurd (false≢true h)
    named (list d) y h = absurd (false≢true h)

    -- a test passes each item of a sequence that (element) derives from good items
    abbrev Refs : (Item → Pattern → Bool) → (Item → Type 0) → Type 0
    Refs T Good =
        (d e : ℕ) (w v : List Item) → L.is_definition d ≡ true → L.in_class (L.name_class d) e ≡ true → Ws L w → Ws L v
        → ((y : Item) → Among y (w ++ item.element e ∷ v) → Good y) → (y : Item)
        → Among y (w ++ item.element e ∷ v) → T y (pattern.ref d) ≡ true

    module _ (T : Item → Pattern → Bool) (Good : Item → Type 0)
        (strings : (s : List ℕ) (x : Pattern) → takes_string x ≡ true → T (string s) x ≡ true)
        (refs : Refs T Good) where
      one_string_lem : {s : List ℕ} {y : Item} (x : Pattern)
          → takes_string x ≡ true → Among y (string s ∷ []) → Reaches L (T y) x
      one_string_lem {s} x h k = here {x = x} (rw (among_one k) at (strings s x h))

      reached : {a : Attributes} {m : List Item} {x : Pattern} → Match L NotMatch a m x
          → ((y : Item) → Among y m → Good y) → (y : Item) → Among y m → Reaches L (T y) x
      reached empty g y h = elim h [ ]
      reached text_1 g y h = elim h [ ]
      reached (attribute {nc = nc} {p = p} _ _ _) g y h = elim h [ ]
      reached (choice_1 {p₁ = p} d) g y h = there p choice_first (reached d g y h)
      reached (choice_2 {p₂ = p} d) g y h = there p choice_second (reached d g y h)
      reached (group {m₁ = l} {m₂ = r} {p₁ = p₁} {p₂ = p₂} d₁ d₂) g y h =
          elim (among_append l r h) [
            | inl k ↦ there p₁ group_first (reached d₁ (λ y k. g y (among_left r k)) y k)
            | inr k ↦ there p₂ group_second (reached d₂ (λ y k. g y (among_right l k)) y k)
          ]
      reached (text_2 {m = m} s d) g y h =
          elim (among_append m (string s ∷ []) h) [
            | inl k ↦ reached d (λ y k. g y (among_left (string s ∷ []) k)) y k
            | inr k ↦ one_string_lem pattern.text refl k
          ]
      reached (one_or_more_1 {p = p} d) g y h = there p repeated (reached d g y h)
      reached (one_or_more_2 {m₁ = l} {m₂ = r} {p = p} d₁ d₂ z) g y h =
          elim (among_append l r h) [
            | inl k ↦ there p repeated (reached d₁ (λ y k. g y (among_left r k)) y k)
            | inr k ↦ reached d₂ (λ y k. g y (among_right l k)) y k
          ]
      reached (interleave {p₁ = p₁} {p₂ = p₂} d₁ d₂ w) g y h =
          let s = shuffle w in
          elim (among_either s h) [
            | inl k ↦ there p₁ interleave_first (reached d₁ (λ y k. g y (among_first s k)) y k)
            | inr k ↦ there p₂ interleave_second (reached d₂ (λ y k. g y (among_first (swap s) k)) y k)
          ]
      reached (element {d = d} e {ws₁ = w} {ws₂ = v} f o n c b a) g y h =
          here {x = pattern.ref d} (refs d e w v f n b a g y h)
      reached (value {t = t} {k = k} z) g y h = one_string_lem (pattern.value t k) refl h
      reached (data_1 {t = t}) g y h = one_string_lem (pattern.data_all t) refl h
      reached (data_2 {t = t} {p = p} z) g y h = one_string_lem (pattern.data_except t p) refl h
      reached (list {p = p} d) g y h = one_string_lem (pattern.list p) refl h

    pub taken : {a : Attributes} {m : List Item} {x : Pattern} → Match L NotMatch a m x
        → Clean m → (y : Item) → Among y m → Reaches L (takes L y) x
    taken {m = m} d c = reached (takes L) (λ y. Among y m) (λ s x h. h) by_ref d (λ y h. h)
      where
        by_ref : Refs (takes L) (λ y. Among y m)
        by_ref d e w v f n b a g y h =
            let z = clean_element e (λ i s j k. c i s (g (item.element i) j) (g (string s) k)) b a in
            let k : Among y (item.element e ∷ []) = rw (z.0, z.1) at h in
            rw (← among_one k) (both_and f n)

    -- a pattern that takes nothing matches no items
    pub takes_nothing : {a : Attributes} {m : List Item} {x : Pattern}
        → Match L NotMatch a m x → ¬ Reaches L takes_any x → m ≡ []
    takes_nothing {m = []} d n = refl
    takes_nothing {m = y ∷ m} d n =
        absurd (n (reached (λ y. takes_any) (λ y. Unit {0}) (λ s. any_string)
        (λ d e w v f n b a g y h. refl) d (λ y h. tt) y (first refl)))
      where
        by_role : (r : Role) → string_by r ≡ true → item_by r ≡ true
        by_role strings h = refl
        by_role one_string h = refl
        by_role (an_attribute nc) h = h
        by_role (an_element d) h = refl
        by_role sharing h = h
        by_role another h = h

        any_string : (x : Pattern) → takes_string x ≡ true → takes_any x ≡ true
        any_string x h = by_role (role_of x) h
