-- What single rules of 9.3 grant or shut out: text, whitespace beside an element, content that is empty, the order of
-- what interleaves, the tokens of a list, repetitions that share an attribute name.
use Prim.Native.Nat.{ℕ}
use mathlib.Core.Path.{◌≡◌, sym, ◌∙◌, ap}
use mathlib.Core.Bool.{true}
use mathlib.Core.List.{List, [], ◌∷◌, map, cons≢nil}
use mathlib.Core.Logic.{◌≢◌, ◌⊎◌, inl, inr}
use borrow.Author.Tests.{eqb-true}
use Rattle.schema.specs.Views.{Pattern}
use Rattle.schema.specs.Views as pattern
use Rattle.matching_rules.specs.Items.{Item, string, Attributes, no_attributes, Lookups}
use Rattle.matching_rules.specs.Items as item
use Rattle.matching_rules.specs.Rules.{Interleaves, interleaves_1, interleaves_2, interleaves_3, ws_empty}
use Rattle.matching_rules.specs.Rules.{ws_string, Match, WeakMatch, text_1, text_2, one_or_more_1}
use Rattle.matching_rules.specs.Rules.{one_or_more_2, attribute, element, value, data_1, list, weak_match_3}
use Rattle.tables.proofs.Booleans.{or_either}
use Rattle.matching_rules.specs.Spans.{Paired}

-- an item of the second side may come before one of the first
pub second_first : (x y : Item) → Interleaves (x ∷ y ∷ []) (y ∷ []) (x ∷ [])
second_first x y = interleaves_3 (x ∷ []) (interleaves_2 (y ∷ []) interleaves_1)

module _ (L : Lookups) (NotMatch : List ℕ → ℕ → Type 0) where
  -- text takes no string, and more than one
  pub no_string : Match L NotMatch no_attributes [] pattern.text
  no_string = text_1

  pub two_strings : (s₁ s₂ : List ℕ) → Match L NotMatch no_attributes (string s₁ ∷ string s₂ ∷ []) pattern.text
  two_strings s₁ s₂ = text_2 s₂ (text_2 s₁ text_1)

  -- whitespace after an element needs no pattern of its own
  pub whitespace_after : {e d : ℕ} {s : List ℕ} → L.whitespace s ≡ true → Paired L NotMatch e d
      → Match L NotMatch no_attributes (item.element e ∷ string s ∷ []) (pattern.ref d)
  whitespace_after {e} h p = element e p.defined p.ordered p.named p.content ws_empty (ws_string h)

  -- no children are the empty string to a datatype
  pub no_children : (t : ℕ) → WeakMatch L NotMatch no_attributes [] (pattern.data_all t)
  no_children t = weak_match_3 data_1

  -- a value takes one token of a list, and no token is not the empty string to it
  value_some : {a : Attributes} {m : List Item} {t k : ℕ} → Match L NotMatch a m (pattern.value t k) → m ≢ []
  value_some (value h) e = cons≢nil e

  pub no_tokens : {a : Attributes} {m : List Item} {t k p : ℕ} → L.pattern p ≡ pattern.value t k
      → Match L NotMatch a m (pattern.list p) → (s : List ℕ) → m ≡ string s ∷ [] → L.split s ≢ []
  no_tokens f (list {s = u} d) s e z =
      let same : u ≡ s = cc e in
      value_some (rw f at d) (ap (map string) (ap L.split same ∙ z))

  -- the attributes that a repeated attribute pattern takes have names of their own
  module _ (q : ℕ) {nc p : ℕ} (repeats : L.pattern q ≡ pattern.attribute nc p)
      (symmetric : (x y : ℕ) → L.SameName x y → L.SameName y x) where
    single : {a : Attributes} {m : List Item} {z : Pattern} → z ≡ pattern.attribute nc p
        → Match L NotMatch a m z → (x y : ℕ) → a x ≡ true → a y ≡ true → x ≡ y
    single e d x y h k = one (rw e at d) h k
      where
        one : {a : Attributes} {m : List Item}
            → Match L NotMatch a m (pattern.attribute nc p) → a x ≡ true → a y ≡ true → x ≡ y
        one (attribute r n w) h k = sym (eqb-true r x h) ∙ eqb-true r y k

    pub repeated_names : {a : Attributes} {m : List Item} → Match L NotMatch a m (pattern.one_or_more q)
        → (x y : ℕ) → a x ≡ true → a y ≡ true → L.SameName x y → x ≡ y
    repeated_names (one_or_more_1 d) x y h k same = single repeats d x y h k
    repeated_names (one_or_more_2 {a₁ = a₁} {a₂ = a₂} d₁ d₂ z) x y h k same =
        go (or_either (a₁ x) (a₂ x) h) (or_either (a₁ y) (a₂ y) k) (λ i j. repeated_names d₂ x y i j same)
      where
        go : (a₁ x ≡ true) ⊎ (a₂ x ≡ true) → (a₁ y ≡ true) ⊎ (a₂ y ≡ true) → (a₂ x ≡ true → a₂ y ≡ true → x ≡ y) → x ≡ y
        go (inl i) (inl j) rest = single repeats d₁ x y i j
        go (inl i) (inr j) rest = absurd (z x y i j same)
        go (inr i) (inl j) rest = absurd (z y x j i (symmetric x y same))
        go (inr i) (inr j) rest = rest i j
