-- What a pattern does with one string, and with nothing, by its kind.
use Prim.Native.Nat.{ℕ}
use mathlib.Core.Path.{◌≡◌, refl, sym, ◌∙◌, ap}
use mathlib.Core.Bool.{true≢false}
use mathlib.Core.List.{List, [], ◌∷◌, ◌++◌, nil≢cons, head-eq_of_cons-eq, tail-eq_of_cons-eq}
use mathlib.Core.Logic.{◌⊎◌, inl, inr, ◌↔◌}
use native.Mathlib.Omega.{arith}
use borrow.Author.Tests.{eq-eqb}
use Rattle.schema.specs.Views.{Pattern}
use Rattle.schema.specs.Views as pattern
use Rattle.matching_rules.specs.Items.{Item, element, string, Attributes, no_attributes, only, ◌∪◌, Lookups}
use Rattle.matching_rules.specs.Rules.{Match, group, one_or_more_1, one_or_more_2, interleave}
use Rattle.matching_rules.proofs.Booleans.{none_left, none_right}
use Rattle.matching_rules.proofs.Interleavings.{Shuffle, shuffle, interleaved, done, left, right}
use Rattle.matching_rules.proofs.Inversion.{cast, stepwise}

-- the two ways to share one item out, and the one way to share none
pub data Shared (y : Item) : List Item → List Item → Type 0 where
  to_first : Shared y (y ∷ []) []
  to_second : Shared y [] (y ∷ [])

share : (y : Item) (l r : List Item) → y ∷ [] ≡ l ++ r → Shared y l r
share y [] r e = rw (← e) to_second
share y (x ∷ []) [] e = rw (head-eq_of_cons-eq e) to_first
share y (x ∷ []) (z ∷ r) e = absurd (nil≢cons (tail-eq_of_cons-eq e))
share y (x ∷ z ∷ l) r e = absurd (nil≢cons (tail-eq_of_cons-eq e))

shuffle_one : {y : Item} {l r : List Item} → Shuffle (y ∷ []) l r → Shared y l r
shuffle_one (left x done) = to_first
shuffle_one (right x done) = to_second

shared_shuffle : {y : Item} {l r : List Item} → Shared y l r → Shuffle (y ∷ []) l r
shared_shuffle {y} to_first = left y done
shared_shuffle {y} to_second = right y done

shared_append : {y : Item} {l r : List Item} → Shared y l r → l ++ r ≡ y ∷ []
shared_append to_first = refl
shared_append to_second = refl

-- the empty sequence and the empty set come apart in one way
no_items : (l r : List Item) → [] ≡ l ++ r → (l ≡ []) × (r ≡ [])
no_items [] r e = (refl, sym e)
no_items (x ∷ l) r e = absurd (nil≢cons e)

shuffle_none : {l r : List Item} → Shuffle [] l r → (l ≡ []) × (r ≡ [])
shuffle_none done = (refl, refl)

pub not_none : (x : ℕ) → ¬ (no_attributes ≡ only x)
not_none x e = true≢false (sym (eq-eqb x x refl) ∙ ap (λ (a : Attributes). a x) (sym e))

pub no_element : (b a : List Item) (e : ℕ) (s : List ℕ) → ¬ (string s ∷ [] ≡ b ++ element e ∷ a)
no_element [] a e s h = let z : ◌≡◌ {A = ℕ} 0 1 = cc in absurd (omega arith)
no_element (x ∷ []) a e s h = nil≢cons (tail-eq_of_cons-eq h)
no_element (x ∷ y ∷ b) a e s h = nil≢cons (tail-eq_of_cons-eq h)

pub some_element : (b a : List Item) (e : ℕ) → ¬ ([] ≡ b ++ element e ∷ a)
some_element [] a e h = nil≢cons h
some_element (x ∷ b) a e h = nil≢cons h

module _ (L : Lookups) (NotMatch : List ℕ → ℕ → Type 0) where
  -- the pattern at row p matches the string alone, and the empty sequence
  abbrev pub Lone : ℕ → List ℕ → Type 0
  Lone p s = Match L NotMatch no_attributes (string s ∷ []) (L.pattern p)

  abbrev pub Null : ℕ → Type 0
  Null p = Match L NotMatch no_attributes [] (L.pattern p)

  -- a match without attributes of two patterns
  pair_apart : {a₁ a₂ : Attributes} {m₁ m₂ : List Item} {x₁ x₂ : Pattern}
      → no_attributes ≡ a₁ ∪ a₂ → Match L NotMatch a₁ m₁ x₁ → Match L NotMatch a₂ m₂ x₂
      → Match L NotMatch no_attributes m₁ x₁ × Match L NotMatch no_attributes m₂ x₂
  pair_apart {a₁} {a₂} e d₁ d₂ =
      (cast L NotMatch (none_left a₁ a₂ (sym e)) refl d₁, cast L NotMatch (none_right a₁ a₂ (sym e)) refl d₂)

  abbrev pub Either : ℕ → ℕ → List ℕ → Type 0
  Either p₁ p₂ s = (Lone p₁ s × Null p₂) ⊎ (Null p₁ × Lone p₂ s)

  shared : (p₁ p₂ : ℕ) {s : List ℕ} {m₁ m₂ : List Item} → Shared (string s) m₁ m₂ → Match L NotMatch no_attributes m₁
      (L.pattern p₁) → Match L NotMatch no_attributes m₂ (L.pattern p₂) → Either p₁ p₂ s
  shared p₁ p₂ to_first d₁ d₂ = inl (d₁, d₂)
  shared p₁ p₂ to_second d₁ d₂ = inr (d₁, d₂)

  module _ (p p₁ p₂ : ℕ) where
    pub null_group : L.pattern p ≡ pattern.group p₁ p₂ → Null p ↔ (Null p₁ × Null p₂)
    null_group e = (to, λ d. rw e (group d.0 d.1))
      where
        to : Null p → Null p₁ × Null p₂
        to d =
            let g = (stepwise L NotMatch (pattern.group p₁ p₂)).0 (rw e at d) in
            let z = no_items g.m₁ g.m₂ g.sequence in
            pair_apart g.set (cast L NotMatch refl z.0 g.first) (cast L NotMatch refl z.1 g.second)

    pub null_interleave : L.pattern p ≡ pattern.interleave p₁ p₂ → Null p ↔ (Null p₁ × Null p₂)
    null_interleave e = (to, λ d. rw e (interleave d.0 d.1 (interleaved done)))
      where
        to : Null p → Null p₁ × Null p₂
        to d =
            let g = (stepwise L NotMatch (pattern.interleave p₁ p₂)).0 (rw e at d) in
            let z = shuffle_none (shuffle g.order) in
            pair_apart g.set (cast L NotMatch refl z.0 g.first) (cast L NotMatch refl z.1 g.second)

    pub lone_group : {s : List ℕ} → L.pattern p ≡ pattern.group p₁ p₂ → Lone p s ↔ Either p₁ p₂ s
    lone_group {s} e = (to, from)
      where
        to : Lone p s → Either p₁ p₂ s
        to d =
            let g = (stepwise L NotMatch (pattern.group p₁ p₂)).0 (rw e at d) in
            let a = pair_apart g.set g.first g.second in
            shared p₁ p₂ (share (string s) g.m₁ g.m₂ g.sequence) a.0 a.1

        from : Either p₁ p₂ s → Lone p s
        from (inl d) = rw e (group d.0 d.1)
        from (inr d) = rw e (group d.0 d.1)

    pub lone_interleave : {s : List ℕ} → L.pattern p ≡ pattern.interleave p₁ p₂ → Lone p s ↔ Either p₁ p₂ s
    lone_interleave {s} e = (to, from)
      where
        to : Lone p s → Either p₁ p₂ s
        to d =
            let g = (stepwise L NotMatch (pattern.interleave p₁ p₂)).0 (rw e at d) in
            let a = pair_apart g.set g.first g.second in
            shared p₁ p₂ (shuffle_one (shuffle g.order)) a.0 a.1

        from : Either p₁ p₂ s → Lone p s
        from (inl d) = rw e (interleave d.0 d.1 (interleaved (shared_shuffle to_first)))
        from (inr d) = rw e (interleave d.0 d.1 (interleaved (shared_shuffle to_second)))

  -- steps of oneOrMore without items can be left out
  null_more : {a : Attributes} {m : List Item} {q : ℕ}
      → Match L NotMatch a m (pattern.one_or_more q) → a ≡ no_attributes → m ≡ [] → Null q
  null_more (one_or_more_1 d) e f = cast L NotMatch e f d
  null_more (one_or_more_2 {a₁ = a₁} {a₂ = a₂} {m₁ = m₁} {m₂ = m₂} d₁ d₂ z) e f =
      cast L NotMatch (none_left a₁ a₂ e) (no_items m₁ m₂ (sym f)).0 d₁

  lone_step : {s : List ℕ} {q : ℕ} {m₁ m₂ : List Item} → Shared (string s) m₁ m₂
      → Match L NotMatch no_attributes m₁ (L.pattern q) → (m₂ ≡ string s ∷ [] → Lone q s) → Lone q s
  lone_step to_first d f = d
  lone_step to_second d f = f refl

  lone_more : {a : Attributes} {m : List Item} {q : ℕ} {s : List ℕ}
      → Match L NotMatch a m (pattern.one_or_more q) → a ≡ no_attributes → m ≡ string s ∷ [] → Lone q s
  lone_more (one_or_more_1 d) e f = cast L NotMatch e f d
  lone_more {s = s} (one_or_more_2 {a₁ = a₁} {a₂ = a₂} {m₁ = m₁} {m₂ = m₂} d₁ d₂ z) e f =
      lone_step (share (string s) m₁ m₂ (sym f)) (cast L NotMatch (none_left a₁ a₂ e) refl d₁)
      (λ g. lone_more d₂ (none_right a₁ a₂ e) g)

  module _ {p : ℕ} where
    pub null_one_or_more : {q : ℕ} → L.pattern p ≡ pattern.one_or_more q → Null p ↔ Null q
    null_one_or_more e = (λ d. null_more (rw e at d) refl refl, λ d. rw e (one_or_more_1 d))

    pub lone_one_or_more : {q : ℕ} {s : List ℕ} → L.pattern p ≡ pattern.one_or_more q → Lone p s ↔ Lone q s
    lone_one_or_more e = (λ d. lone_more (rw e at d) refl refl, λ d. rw e (one_or_more_1 d))

    pub null_choice : {p₁ p₂ : ℕ} → L.pattern p ≡ pattern.choice p₁ p₂ → Null p ↔ (Null p₁ ⊎ Null p₂)
    null_choice {p₁} {p₂} e = (
      λ d. (stepwise L NotMatch (pattern.choice p₁ p₂)).0 (rw e at d),
      λ d. rw e ((stepwise L NotMatch (pattern.choice p₁ p₂)).1 d),
    )

    pub lone_choice : {p₁ p₂ : ℕ} {s : List ℕ}
        → L.pattern p ≡ pattern.choice p₁ p₂ → Lone p s ↔ (Lone p₁ s ⊎ Lone p₂ s)
    lone_choice {p₁} {p₂} e = (
      λ d. (stepwise L NotMatch (pattern.choice p₁ p₂)).0 (rw e at d),
      λ d. rw e ((stepwise L NotMatch (pattern.choice p₁ p₂)).1 d),
    )
