-- What the rules of 9.3 say of a sequence of tokens with no attributes, by the kind of pattern. Tokens stand newest
-- first.
use mathlib.Core.Path.{◌≡◌, refl, sym, ◌∙◌, ap, subst}
use mathlib.Core.Bool.{Bool, true, false≢true}
use mathlib.Core.Logic.{◌⊎◌, inl, inr, ◌↔◌}
use mathlib.Core.List.{List, [], ◌∷◌, ◌++◌, map, map-append, reverse, reverse-append, reverse-reverse}
use Prim.Native.Nat.{ℕ}
use native.Mathlib.Omega.{arith}
use Rattle.schema.specs.Views.{Pattern}
use Rattle.schema.specs.Views as pattern
use Rattle.matching_rules.specs.Items.{Item, string, Attributes, no_attributes, Lookups}
use Rattle.matching_rules.specs.Rules.{Match, choice_1, choice_2, group, empty, one_or_more_1, one_or_more_2}
use Rattle.matching_rules.specs.Reach.{one_string, role_of}
use Rattle.matching_rules.proofs.Booleans.{none_left, none_right}
use Rattle.matching_rules.proofs.Inversion.{cast, step, string_alone}
use Rattle.matching_tokens.specs.Marked.{is_data}
use Rattle.matching_tokens.proofs.Stretches.{Tokens, Joined, Repeats, once, onward}

-- data and value take one string alone
data_role : (x : Pattern) → is_data x ≡ true → role_of x ≡ one_string
data_role pattern.empty e = absurd (false≢true e)
data_role pattern.not_allowed e = absurd (false≢true e)
data_role pattern.text e = absurd (false≢true e)
data_role (pattern.data_all t) e = refl
data_role (pattern.data_except t p) e = refl
data_role (pattern.value t k) e = refl
data_role (pattern.list p) e = absurd (false≢true e)
data_role (pattern.attribute nc p) e = absurd (false≢true e)
data_role (pattern.ref d) e = absurd (false≢true e)
data_role (pattern.one_or_more p) e = absurd (false≢true e)
data_role (pattern.choice p q) e = absurd (false≢true e)
data_role (pattern.group p q) e = absurd (false≢true e)
data_role (pattern.interleave p q) e = absurd (false≢true e)
data_role pattern.no_pattern e = absurd (false≢true e)

-- tokens as a sequence of items, the oldest first
abbrev pub items : Tokens → List Item
items m = map string (reverse m)

no_items : (m : Tokens) → items m ≡ [] → m ≡ []
no_items m e = sym (reverse-reverse m) ∙ ap reverse (go (reverse m) e)
  where
    go : (l : Tokens) → map string l ≡ [] → l ≡ []
    go [] e = refl
    go (t ∷ l) e = let z : ◌≡◌ {A = ℕ} 0 1 = cc in absurd (omega arith)

one_item : (m : Tokens) (t : List ℕ) → items m ≡ string t ∷ [] → m ≡ t ∷ []
one_item m t e = sym (reverse-reverse m) ∙ ap reverse (go (reverse m) e)
  where
    go : (l : Tokens) → map string l ≡ string t ∷ [] → l ≡ t ∷ []
    go [] e = let z : ◌≡◌ {A = ℕ} 0 1 = cc in absurd (omega arith)
    go (u ∷ []) e = let f : u ≡ t = cc in rw f
    go (u ∷ v ∷ l) e = let z : ◌≡◌ {A = ℕ} 0 1 = cc in absurd (omega arith)

items_append : (m₁ m₂ : Tokens) → items m₁ ++ items m₂ ≡ items (m₂ ++ m₁)
items_append m₁ m₂ = sym (ap (map string) (reverse-append m₂ m₁) ∙ map-append string (reverse m₁) (reverse m₂))

-- two sequences of items that make a sequence of tokens are made of tokens
record Cut (l r : List Item) (m : Tokens) : Type 0 where
  m₁ : Tokens
  m₂ : Tokens
  made : m ≡ m₂ ++ m₁
  first : l ≡ items m₁
  next : r ≡ items m₂

cut : (l r : List Item) (m : Tokens) → l ++ r ≡ items m → Cut l r m
cut l r m e = go (strings l r (reverse m) e)
  where
    strings : (l r : List Item) (ts : Tokens) → l ++ r ≡ map string ts
        → (ts₁ : Tokens) × (ts₂ : Tokens) × (ts ≡ ts₁ ++ ts₂) × (l ≡ map string ts₁) × (r ≡ map string ts₂)
    strings [] r ts e = ([], ts, refl, refl, e)
    strings (x ∷ l) r [] e = let z : ◌≡◌ {A = ℕ} 0 1 = cc in absurd (omega arith)
    strings (x ∷ l) r (t ∷ ts) e =
        let f : l ++ r ≡ map string ts = cc in
        let g : x ≡ string t = cc in
        let c = strings l r ts f in
        (t ∷ c.0, c.1, rw (← c.2), rw (g, ← c.3), c.4)

    twice : (ts : Tokens) → map string ts ≡ items (reverse ts)
    twice ts = ap (map string) (sym (reverse-reverse ts))

    go : (ts₁ : Tokens) × (ts₂ : Tokens) × (reverse m ≡ ts₁ ++ ts₂)
        × (l ≡ map string ts₁) × (r ≡ map string ts₂) → Cut l r m
    go c = record {
      m₁ = reverse c.0;
      m₂ = reverse c.1;
      made = sym (reverse-reverse m) ∙ ap reverse c.2 ∙ reverse-append c.0 c.1;
      first = c.3 ∙ twice c.0;
      next = c.4 ∙ twice c.1;
    }

module _ (L : Lookups) (NotMatch : List ℕ → ℕ → Type 0) where
  -- the tokens match the pattern
  abbrev pub Ends : Pattern → Tokens → Type 0
  Ends x m = Match L NotMatch no_attributes (items m) x

  pub ends_empty : (m : Tokens) → (m ≡ []) ↔ Ends pattern.empty m
  ends_empty m = (λ e. rw e empty, λ d. no_items m (step L NotMatch d).1)

  pub ends_data : (x : Pattern) → is_data x ≡ true → (takes : List ℕ → Bool)
      → ((t : List ℕ) → (takes t ≡ true) ↔ Ends x (t ∷ []))
      → (m : Tokens) → ((t : List ℕ) × (m ≡ t ∷ []) × (takes t ≡ true)) ↔ Ends x m
  ends_data x i takes tells m = (λ o. rw o.1 ((tells o.0).0 o.2), from)
    where
      from : Ends x m → (t : List ℕ) × (m ≡ t ∷ []) × (takes t ≡ true)
      from d =
          let o = ((string_alone L NotMatch x (data_role x i)).0 d).1 in
          (o.0, one_item m o.0 o.1, (tells o.0).1 o.2)

  pub ends_choice : (a b : ℕ) (m : Tokens)
      → (Ends (L.pattern a) m ⊎ Ends (L.pattern b) m) ↔ Ends (pattern.choice a b) m
  ends_choice a b m = (to, λ d. step L NotMatch d)
    where
      to : Ends (L.pattern a) m ⊎ Ends (L.pattern b) m → Ends (pattern.choice a b) m
      to (inl d) = choice_1 d
      to (inr d) = choice_2 d

  pub ends_group : (a b : ℕ) (m : Tokens)
      → Joined (Ends (L.pattern a)) (Ends (L.pattern b)) m ↔ Ends (pattern.group a b) m
  ends_group a b m =
      (λ j. rw j.made (cast L NotMatch refl (items_append j.m₁ j.m₂) (group j.first j.next)), from)
    where
      from : Ends (pattern.group a b) m → Joined (Ends (L.pattern a)) (Ends (L.pattern b)) m
      from d =
          let g = step L NotMatch d in
          let c = cut g.m₁ g.m₂ m (sym g.sequence) in
          record {
            m₁ = c.m₁;
            m₂ = c.m₂;
            made = c.made;
            first = cast L NotMatch (none_left g.a₁ g.a₂ (sym g.set)) c.first g.first;
            next = cast L NotMatch (none_right g.a₁ g.a₂ (sym g.set)) c.next g.second;
          }

  repeats_to : (a : ℕ) {m : Tokens} → Repeats (Ends (L.pattern a)) m → Ends (pattern.one_or_more a) m
  repeats_to a (once d) = one_or_more_1 d
  repeats_to a (onward {m₁ = m₁} {m₂ = m₂} d r) =
      cast L NotMatch refl (items_append m₁ m₂) (one_or_more_2 d (repeats_to a r) (λ x y e f. absurd (false≢true e)))

  repeats_from : {s : Attributes} {l : List Item} {a : ℕ} → Match L NotMatch s l (pattern.one_or_more a)
      → s ≡ no_attributes → (m : Tokens) → l ≡ items m → Repeats (Ends (L.pattern a)) m
  repeats_from (one_or_more_1 d) z m e = once (cast L NotMatch z e d)
  repeats_from {a = a} (one_or_more_2 {a₁ = a₁} {a₂ = a₂} {m₁ = m₁} {m₂ = m₂} d f k) z m e =
      let c = cut m₁ m₂ m e in
      subst (Repeats (Ends (L.pattern a))) (sym c.made) (onward (cast L NotMatch (none_left a₁ a₂ z) c.first d)
      (repeats_from f (none_right a₁ a₂ z) c.m₂ c.next))

  pub ends_one_or_more : (a : ℕ) (m : Tokens) → Repeats (Ends (L.pattern a)) m ↔ Ends (pattern.one_or_more a) m
  ends_one_or_more a m = (λ r. repeats_to a r, λ d. repeats_from d refl m refl)
