-- Whitespace put back beside elements: a match stays a match, as (element) of 9.3.7 allows ws on either side.
use Prim.Native.Nat.{ℕ}
use mathlib.Core.Path.{◌≡◌, refl, ap, sym, ◌∙◌}
use mathlib.Core.Bool.{Bool, true, false, true≢false, false≢true}
use mathlib.Core.List.{List, [], ◌∷◌, ◌++◌, append-nil, append_assoc}
use Rattle.schema.specs.Views.{Pattern}
use Rattle.matching_rules.specs.Items.{Item, string, Attributes, Lookups}
use Rattle.matching_rules.specs.Items as item
use Rattle.matching_rules.specs.Rules.{OkAsChildren, ok_empty, ok_element, ok_last, ok_string, Ws}
use Rattle.matching_rules.specs.Rules.{ws_empty, ws_string, Match, choice_1, choice_2, group}
use Rattle.matching_rules.specs.Rules.{empty, text_1, text_2, one_or_more_1, one_or_more_2, interleave}
use Rattle.matching_rules.specs.Rules.{attribute, element, value, data_1, data_2, list}
use Rattle.matching_rules.proofs.Interleavings.{Shuffle, done, left, right, lefts, rights, shuffle, interleaved}
use Rattle.matching_rules.proofs.Inversion.{cast}
use Rattle.matching_rules.proofs.Runs.{kept}
use Rattle.matching_rules.proofs.Sequences.{has_element}
use Rattle.matching_rules.proofs.Stripping.{stripped, stripped_whitespace, stripped_string}

module _ (L : Lookups) where
  -- n is m with ws before and after each element
  data Padded : List Item → List Item → Type 0 where
    padded_empty : Padded [] []
    padded_string : {m n : List Item} (s : List ℕ) → L.whitespace s ≡ false
        → Padded m n → Padded (string s ∷ m) (string s ∷ n)
    padded_element : {m n w v : List Item} (e : ℕ) → Ws L w → Ws L v
        → Padded m n → Padded (item.element e ∷ m) (w ++ item.element e ∷ v ++ n)

  record PaddedParts (l r n : List Item) : Type 0 where
    n₁ : List Item
    n₂ : List Item
    whole : n ≡ n₁ ++ n₂
    first : Padded l n₁
    second : Padded r n₂

  padded_append : (l r : List Item) {n : List Item} → Padded (l ++ r) n → PaddedParts l r n
  padded_append [] r p = record { n₁ = []; n₂ = _; whole = refl; first = padded_empty; second = p }
  padded_append (string s ∷ l) r (padded_string t b p) =
      let g = padded_append l r p in
      record {
        n₁ = string s ∷ g.n₁;
        n₂ = g.n₂;
        whole = ap (λ (t : List Item). string s ∷ t) g.whole;
        first = padded_string s b g.first;
        second = g.second;
      }
  padded_append (item.element x ∷ l) r (padded_element {w = w} {v = v} e a b p) =
      let g = padded_append l r p in
      record {
        n₁ = w ++ item.element x ∷ v ++ g.n₁;
        n₂ = g.n₂;
        whole = ap (λ (t : List Item). w ++ item.element x ∷ v ++ t) g.whole
            ∙ sym (append_assoc (w ++ item.element x ∷ v) _ _);
        first = padded_element x a b g.first;
        second = g.second;
      }

  record PaddedSides (l r n : List Item) : Type 0 where
    n₁ : List Item
    n₂ : List Item
    order : Shuffle n n₁ n₂
    first : Padded l n₁
    second : Padded r n₂

  padded_shuffle : {m l r n : List Item} → Shuffle m l r → Padded m n → PaddedSides l r n
  padded_shuffle done padded_empty =
      record { n₁ = []; n₂ = []; order = done; first = padded_empty; second = padded_empty }
  padded_shuffle (left x s) (padded_string t b p) =
      let g = padded_shuffle s p in
      record {
        n₁ = string t ∷ g.n₁;
        n₂ = g.n₂;
        order = left _ g.order;
        first = padded_string t b g.first;
        second = g.second;
      }
  padded_shuffle (right x s) (padded_string t b p) =
      let g = padded_shuffle s p in
      record {
        n₁ = g.n₁;
        n₂ = string t ∷ g.n₂;
        order = right _ g.order;
        first = g.first;
        second = padded_string t b g.second;
      }
  padded_shuffle (left x s) (padded_element {w = w} {v = v} e a b p) =
      let g = padded_shuffle s p in
      record {
        n₁ = w ++ item.element e ∷ v ++ g.n₁;
        n₂ = g.n₂;
        order = lefts (w ++ item.element e ∷ v) g.order;
        first = padded_element e a b g.first;
        second = g.second;
      }
  padded_shuffle (right x s) (padded_element {w = w} {v = v} e a b p) =
      let g = padded_shuffle s p in
      record {
        n₁ = g.n₁;
        n₂ = w ++ item.element e ∷ v ++ g.n₂;
        order = rights (w ++ item.element e ∷ v) g.order;
        first = g.first;
        second = padded_element e a b g.second;
      }

  padded_none : {n : List Item} → Padded [] n → n ≡ []
  padded_none padded_empty = refl

  padded_one : {s : List ℕ} {n : List Item} → Padded (string s ∷ []) n → n ≡ string s ∷ []
  padded_one (padded_string s b padded_empty) = refl

  record Between (e : ℕ) (n : List Item) : Type 0 where
    w : List Item
    v : List Item
    whole : n ≡ w ++ item.element e ∷ v
    before : Ws L w
    after : Ws L v

  padded_alone : {w v n : List Item} {e : ℕ} → Ws L w → Ws L v → Padded (w ++ item.element e ∷ v) n → Between e n
  padded_alone ws_empty ws_empty (padded_element {w = w} {v = v} e a b padded_empty) =
      record { w = w; v = v; whole = append-nil _; before = a; after = b }
  padded_alone ws_empty (ws_string t) (padded_element e a b (padded_string s f h)) = absurd (true≢false (sym t ∙ f))
  padded_alone (ws_string t) v (padded_string s f h) = absurd (true≢false (sym t ∙ f))

  module _ (NotMatch : List ℕ → ℕ → Type 0) where
    pad : {a : Attributes} {m n : List Item} {x : Pattern}
        → Match L NotMatch a m x → Padded m n → Match L NotMatch a n x
    pad (choice_1 d) h = choice_1 (pad d h)
    pad (choice_2 d) h = choice_2 (pad d h)
    pad (group {m₁ = l} {m₂ = r} d₁ d₂) h =
        let g = padded_append l r h in
        cast L NotMatch refl (sym g.whole) (group (pad d₁ g.first) (pad d₂ g.second))
    pad empty h = cast L NotMatch refl (sym (padded_none h)) empty
    pad text_1 h = cast L NotMatch refl (sym (padded_none h)) text_1
    pad (text_2 {m = m} s d) h =
        let g = padded_append m (string s ∷ []) h in
        cast L NotMatch refl (sym (g.whole ∙ ap (λ (t : List Item). g.n₁ ++ t) (padded_one g.second)))
        (text_2 s (pad d g.first))
    pad (one_or_more_1 d) h = one_or_more_1 (pad d h)
    pad (one_or_more_2 {m₁ = l} {m₂ = r} d₁ d₂ z) h =
        let g = padded_append l r h in
        cast L NotMatch refl (sym g.whole) (one_or_more_2 (pad d₁ g.first) (pad d₂ g.second) z)
    pad (interleave d₁ d₂ w) h =
        let g = padded_shuffle (shuffle w) h in
        interleave (pad d₁ g.first) (pad d₂ g.second) (interleaved g.order)
    pad (attribute x n w) h = cast L NotMatch refl (sym (padded_none h)) (attribute x n w)
    pad (element e f o n k b a) h =
        let g = padded_alone b a h in
        cast L NotMatch refl (sym g.whole) (element e f o n k g.before g.after)
    pad (value z) h = cast L NotMatch refl (sym (padded_one h)) (value z)
    pad data_1 h = cast L NotMatch refl (sym (padded_one h)) data_1
    pad (data_2 z) h = cast L NotMatch refl (sym (padded_one h)) (data_2 z)
    pad (list d) h = cast L NotMatch refl (sym (padded_one h)) (list d)

  -- children with an element are their stripped form, padded
  element_padded : {w v m n : List Item} (e : ℕ) → Ws L w → Ws L v → Padded m n
      → Padded (item.element e ∷ m) (w ++ item.element e ∷ (v ++ n))
  element_padded {w} {v} {m} {n} e a b p = rw (append_assoc w (item.element e ∷ v) n) at (padded_element e a b p)

  before_string : {w m : List Item} (e : ℕ) (s : List ℕ) (b : Bool)
      → L.whitespace s ≡ b → Ws L w → Padded (stripped L m) m
      → Padded (item.element e ∷ stripped L (string s ∷ m)) (w ++ item.element e ∷ string s ∷ m)
  before_string {w} {m} e s true b a p = rw (stripped_whitespace L s m b) (element_padded e a (ws_string b) p)
  before_string {w} {m} e s false b a p =
      rw (stripped_string L s m b) (element_padded e a ws_empty (padded_string s b p))

  after_element : {w m : List Item} (e : ℕ) → Ws L w → OkAsChildren m
      → Padded (item.element e ∷ stripped L m) (w ++ item.element e ∷ m)
  unfolding kept
  after_element e w ok_empty = element_padded e w ws_empty padded_empty
  after_element e w (ok_element {e = x} o) = element_padded e w ws_empty (after_element x ws_empty o)
  after_element e w (ok_last {c = c} {s = s}) = before_string e (c ∷ s) (L.whitespace (c ∷ s)) refl w padded_empty
  after_element e w (ok_string {c = c} {e = x} {s = s} o) =
      before_string e (c ∷ s) (L.whitespace (c ∷ s)) refl w (after_element x ws_empty o)

  children_padded : {m : List Item} → OkAsChildren m → has_element m ≡ true → Padded (stripped L m) m
  unfolding kept
  children_padded ok_empty h = absurd (false≢true h)
  children_padded (ok_element {e = x} o) h = after_element x ws_empty o
  children_padded ok_last h = absurd (false≢true h)
  children_padded (ok_string {c = c} {e = x} {s = s} {m = m} o) h = go (L.whitespace (c ∷ s)) refl
    where
      go : (b : Bool) → L.whitespace (c ∷ s) ≡ b
          → Padded (stripped L (string (c ∷ s) ∷ item.element x ∷ m)) (string (c ∷ s) ∷ item.element x ∷ m)
      go true b = rw (stripped_whitespace L (c ∷ s) (item.element x ∷ m) b) (after_element x (ws_string b) o)
      go false b =
          rw (stripped_string L (c ∷ s) (item.element x ∷ m) b) (padded_string (c ∷ s) b (after_element x ws_empty o))

  pub unstrip : (NotMatch : List ℕ → ℕ → Type 0) {a : Attributes} {m : List Item} {x : Pattern}
      → OkAsChildren m → has_element m ≡ true
      → Match L NotMatch a (stripped L m) x → Match L NotMatch a m x
  unstrip NotMatch o h d = pad NotMatch d (children_padded o h)
