-- Whitespace left out: a sequence with an element that matches does so without its strings of whitespace, since by 10.3
-- no data, value or list takes a string beside an element.
use Prim.Native.Nat.{ℕ}
use mathlib.Core.Path.{◌≡◌, refl, ap, sym, ◌∙◌}
use mathlib.Core.Bool.{Bool, true, false, not, true≢false, false≢true}
use mathlib.Core.List.{List, [], ◌∷◌, ◌++◌}
use mathlib.Core.Logic.{◌⊎◌, inl, inr}
use Rattle.schema.specs.Views.{Pattern}
use Rattle.schema.specs.Views as pattern
use Rattle.matching_rules.specs.Items.{Item, string, Attributes, no_attributes, Lookups}
use Rattle.matching_rules.specs.Items as item
use Rattle.matching_rules.specs.Rules.{Ws, ws_empty, ws_string, Match, choice_1, choice_2, group}
use Rattle.matching_rules.specs.Rules.{empty, text_1, text_2, one_or_more_1, one_or_more_2, interleave}
use Rattle.matching_rules.specs.Rules.{attribute, element, value, data_1, data_2, list}
use Rattle.matching_rules.proofs.Interleavings.{Shuffle, done, left, right, shuffle, interleaved, kept_shuffle}
use Rattle.matching_rules.proofs.Inversion.{cast, step, stepwise}
use Rattle.matching_rules.proofs.Occurrences.{takes_nothing}
use Rattle.matching_rules.specs.Reach.{Operand, repeated, choice_first, choice_second, group_first}
use Rattle.matching_rules.specs.Reach.{group_second, interleave_first, interleave_second, Reaches}
use Rattle.matching_rules.specs.Reach.{here, there, itself, down, is_simple}
use Rattle.matching_rules.specs.Restricted.{Sequenced, Sequential}
use Rattle.matching_rules.specs.Spans.{added}
use Rattle.matching_rules.proofs.Runs.{kept, kept_append}
use Rattle.matching_rules.proofs.Sequences.{has_element, strings_append}

strings_shuffle : {m l r : List Item} → Shuffle m l r
    → has_element l ≡ false → has_element r ≡ false → has_element m ≡ false
strings_shuffle done e f = refl
strings_shuffle (left (string s) o) e f = strings_shuffle o e f
strings_shuffle (left (item.element x) o) e f = e
strings_shuffle (right (string s) o) e f = strings_shuffle o e f
strings_shuffle (right (item.element x) o) e f = f

strings_kept : (P : Item → Bool) (m : List Item) → has_element m ≡ false → has_element (kept P m) ≡ false
unfolding kept
strings_kept P [] e = refl
strings_kept P (item.element x ∷ m) e = absurd (true≢false e)
strings_kept P (string s ∷ m) e = go (P (string s)) (strings_kept P m e)
  where
    go : (b : Bool) → has_element (kept P m) ≡ false → has_element (added b (string s) (kept P m)) ≡ false
    go true h = h
    go false h = h

module _ (L : Lookups) where
  abbrev pub not_whitespace : Item → Bool
  not_whitespace (item.element e) = true
  not_whitespace (string s) = not (L.whitespace s)

  abbrev pub stripped : List Item → List Item
  stripped m = kept not_whitespace m

  pub stripped_whitespace : (s : List ℕ) (m : List Item) → L.whitespace s ≡ true → stripped (string s ∷ m) ≡ stripped m
  unfolding kept
  stripped_whitespace s m b = rw b

  pub stripped_string : (s : List ℕ) (m : List Item) → L.whitespace s ≡ false
      → stripped (string s ∷ m) ≡ string s ∷ stripped m
  unfolding kept
  stripped_string s m b = rw b

  stripped_ws : {w : List Item} → Ws L w → stripped w ≡ []
  unfolding kept
  stripped_ws ws_empty = refl
  stripped_ws (ws_string b) = rw b

  stripped_element : {w v : List Item} (e : ℕ) → Ws L w → Ws L v
      → stripped (w ++ item.element e ∷ v) ≡ item.element e ∷ []
  unfolding kept
  stripped_element {w} {v} e b a =
      rw (kept_append not_whitespace w (item.element e ∷ v), stripped_ws b)
      (ap (λ (t : List Item). item.element e ∷ t) (stripped_ws a))

  module _ (NotMatch : List ℕ → ℕ → Type 0) where
    -- the match without whitespace, or strings that a pattern of content type simple takes
    data Stripped (a : Attributes) (m : List Item) (x : Pattern) : Type 0 where
      without : Match L NotMatch a (stripped m) x → Stripped a m x
      strings : has_element m ≡ false → Reaches L is_simple x → Stripped a m x

    stripped_map : {a : Attributes} {m : List Item} {x z : Pattern}
        → ((n : List Item) → Match L NotMatch a n x → Match L NotMatch a n z)
        → (Reaches L is_simple x → Reaches L is_simple z) → Stripped a m x → Stripped a m z
    stripped_map {m = m} f g (without d) = without (f (stripped m) d)
    stripped_map f g (strings h i) = strings h (g i)

    -- the two sides of a group or interleave
    data Sides (a₁ a₂ : Attributes) (l r : List Item) (p₁ p₂ : ℕ) : Type 0 where
      both_without : Match L NotMatch a₁ (stripped l) (L.pattern p₁)
          → Match L NotMatch a₂ (stripped r) (L.pattern p₂) → Sides a₁ a₂ l r p₁ p₂
      both_strings : has_element l ≡ false → has_element r ≡ false
          → Reaches L is_simple (L.pattern p₁) ⊎ Reaches L is_simple (L.pattern p₂) → Sides a₁ a₂ l r p₁ p₂

    sides : {a₁ a₂ : Attributes} {l r : List Item} {p₁ p₂ : ℕ} → Sequenced L p₁ p₂
        → Match L NotMatch a₁ l (L.pattern p₁) → Match L NotMatch a₂ r (L.pattern p₂)
        → Stripped a₁ l (L.pattern p₁) → Stripped a₂ r (L.pattern p₂) → Sides a₁ a₂ l r p₁ p₂
    sides q d₁ d₂ (without c₁) (without c₂) = both_without c₁ c₂
    sides q d₁ d₂ (strings h i) c = both_strings h (ap has_element (takes_nothing L NotMatch d₂ (q.first i))) (inl i)
    sides q d₁ d₂ (without c) (strings h i) =
        both_strings (ap has_element (takes_nothing L NotMatch d₁ (q.second i))) h (inr i)

    -- the operands of a pattern that keeps 10.3 keep it
    sequential_operand : {x : Pattern} (r : ℕ) → Operand r x → Sequential L x → Sequential L (L.pattern r)
    sequential_operand r o q = record {
      groups = λ p₁ p₂ i. q.groups p₁ p₂ (down r o i);
      interleaves = λ p₁ p₂ i. q.interleaves p₁ p₂ (down r o i);
      repeats = λ p i. q.repeats p (down r o i);
    }

    repeat_not_simple : {p : ℕ} → Sequential L (pattern.one_or_more p) → ¬ Reaches L is_simple (pattern.one_or_more p)
    repeat_not_simple q (here h) = false≢true h
    repeat_not_simple {p} q (there r repeated i) = q.repeats p itself i

    text_stripped : {m : List Item} → Match L NotMatch no_attributes m pattern.text
        → Match L NotMatch no_attributes (stripped m) pattern.text
    text_stripped {m} d =
        (stepwise L NotMatch pattern.text).1 (refl, strings_kept not_whitespace m (step L NotMatch d).1)

    stripped_match : {a : Attributes} {m : List Item} {x : Pattern}
        → Match L NotMatch a m x → Sequential L x → Stripped a m x
    unfolding kept
    stripped_match (choice_1 {p₁ = u} d) q =
        stripped_map (λ n. choice_1) (there u choice_first) (stripped_match d (sequential_operand u choice_first q))
    stripped_match (choice_2 {p₂ = u} d) q =
        stripped_map (λ n. choice_2) (there u choice_second) (stripped_match d (sequential_operand u choice_second q))
    stripped_match (group {m₁ = l} {m₂ = r} {p₁ = u} {p₂ = v} d₁ d₂) q =
        elim (sides (q.groups u v itself) d₁ d₂ (stripped_match d₁ (sequential_operand u group_first q))
        (stripped_match d₂ (sequential_operand v group_second q))) [
          | both_without c₁ c₂ ↦ without (cast L NotMatch refl (sym (kept_append not_whitespace l r)) (group c₁ c₂))
          | both_strings f g h ↦ strings (strings_append l r f g)
              (elim h [ inl i ↦ there u group_first i | inr i ↦ there v group_second i ])
        ]
    stripped_match empty q = without empty
    stripped_match text_1 q = without text_1
    stripped_match (text_2 s d) q = without (text_stripped (text_2 s d))
    stripped_match (one_or_more_1 {p = u} d) q =
        stripped_map (λ n. one_or_more_1) (there u repeated) (stripped_match d (sequential_operand u repeated q))
    stripped_match (one_or_more_2 {m₁ = l} {m₂ = r} {p = u} d₁ d₂ z) q =
        elim (stripped_match d₁ (sequential_operand u repeated q)) [
          | strings h i ↦ absurd (q.repeats u itself i)
          | without c₁ ↦ elim (stripped_match d₂ q) [
            | strings h i ↦ absurd (repeat_not_simple q i)
            | without c₂ ↦ without (cast L NotMatch refl (sym (kept_append not_whitespace l r)) (one_or_more_2 c₁ c₂ z))
          ]
        ]
    stripped_match (interleave {p₁ = u} {p₂ = v} d₁ d₂ w) q =
        let o = shuffle w in
        elim (sides (q.interleaves u v itself) d₁ d₂ (stripped_match d₁ (sequential_operand u interleave_first q))
        (stripped_match d₂ (sequential_operand v interleave_second q))) [
          | both_without c₁ c₂ ↦ without (interleave c₁ c₂ (interleaved (kept_shuffle not_whitespace o)))
          | both_strings f g h ↦ strings (strings_shuffle o f g)
              (elim h [ inl i ↦ there u interleave_first i | inr i ↦ there v interleave_second i ])
        ]
    stripped_match (attribute x n w) q = without (attribute x n w)
    stripped_match (element x f o n k b a) q =
        without (cast L NotMatch refl (sym (stripped_element x b a)) (element x f o n k ws_empty ws_empty))
    stripped_match (value z) q = strings refl (here refl)
    stripped_match data_1 q = strings refl (here refl)
    stripped_match (data_2 z) q = strings refl (here refl)
    stripped_match (list d) q = strings refl (here refl)

    pub strip : {a : Attributes} {m : List Item} {x : Pattern} → Sequential L x
        → has_element m ≡ true → Match L NotMatch a m x → Match L NotMatch a (stripped m) x
    strip q h d = elim (stripped_match d q) [ without c ↦ c | strings f i ↦ absurd (true≢false (sym h ∙ f)) ]
