-- The weak matches of 9.3.7 by content: with an element among the children whitespace is left out, and the other
-- contents are no item or one string.
use Prim.Native.Nat.{ℕ}
use mathlib.Core.Path.{◌≡◌, refl, ap, sym, ◌∙◌}
use mathlib.Core.Bool.{Bool, true, false, true≢false, false≢true}
use mathlib.Core.List.{List, [], ◌∷◌}
use mathlib.Core.Logic.{◌⊎◌, inl, inr, ◌↔◌}
use borrow.Author.Tests.{not-true}
use Rattle.schema.specs.Views.{Pattern}
use Rattle.matching_rules.specs.Items.{Item, element, string, Attributes, Lookups}
use Rattle.matching_rules.specs.Rules.{OkAsChildren, ok_empty, ok_element, ok_last, ok_string, ws_empty}
use Rattle.matching_rules.specs.Rules.{ws_string, Match, WeakMatch, weak_match_1, weak_match_2, weak_match_3}
use Rattle.matching_rules.proofs.Inversion.{One}
use Rattle.matching_rules.specs.Spans.{CleanAt, run, Span}
use Rattle.matching_rules.proofs.Padding.{unstrip}
use Rattle.matching_rules.specs.Restricted.{Sequential}
use Rattle.matching_rules.proofs.Sequences.{has_element}
use Rattle.matching_rules.proofs.Spans.{span_whole}
use Rattle.matching_rules.proofs.Stripping.{not_whitespace, stripped, strip}

-- children with no element among them
pub no_element : {m : List Item} → OkAsChildren m → has_element m ≡ false → (m ≡ []) ⊎ One (λ s. Unit {0}) m
no_element ok_empty h = inl refl
no_element (ok_element o) h = absurd (true≢false h)
no_element ok_last h = inr (_, refl, tt)
no_element (ok_string o) h = absurd (true≢false h)

module _ (L : Lookups) where
  -- positions of strings alone, and positions without whitespace, are clean
  pub strings_clean : (it : ℕ → Item) (K : ℕ → Bool) → ((k e : ℕ) → K k ≡ true → ¬ (it k ≡ element e)) → CleanAt L it K
  strings_clean it K f h k e s a x b y = absurd (f h e a x)

  pub stripped_clean : (it : ℕ → Item) (K : ℕ → Bool)
      → ((k : ℕ) → K k ≡ true → not_whitespace L (it k) ≡ true) → CleanAt L it K
  stripped_clean it K f h k e s a x b y = not-true (L.whitespace s) (sym (ap (not_whitespace L) y) ∙ f k b)

  module _ (NotMatch : List ℕ → ℕ → Type 0) (a : Attributes) where
    module _ (x : Pattern) where
      pub weak_empty : WeakMatch L NotMatch a [] x ↔ (Match L NotMatch a [] x ⊎ Match L NotMatch a (string [] ∷ []) x)
      weak_empty = (to, from)
        where
          to : WeakMatch L NotMatch a [] x → Match L NotMatch a [] x ⊎ Match L NotMatch a (string [] ∷ []) x
          to (weak_match_1 d) = inl d
          to (weak_match_2 w d) = inl d
          to (weak_match_3 d) = inr d

          from : Match L NotMatch a [] x ⊎ Match L NotMatch a (string [] ∷ []) x → WeakMatch L NotMatch a [] x
          from (inl d) = weak_match_1 d
          from (inr d) = weak_match_3 d

      pub weak_string : (s : List ℕ) → WeakMatch L NotMatch a (string s ∷ []) x
          ↔ (Match L NotMatch a (string s ∷ []) x ⊎ ((L.whitespace s ≡ true) × Match L NotMatch a [] x))
      weak_string s = (to, from)
        where
          to : WeakMatch L NotMatch a (string s ∷ []) x
              → Match L NotMatch a (string s ∷ []) x ⊎ ((L.whitespace s ≡ true) × Match L NotMatch a [] x)
          to (weak_match_1 d) = inl d
          to (weak_match_2 (ws_string w) d) = inr (w, d)

          from : Match L NotMatch a (string s ∷ []) x ⊎ ((L.whitespace s ≡ true) × Match L NotMatch a [] x)
              → WeakMatch L NotMatch a (string s ∷ []) x
          from (inl d) = weak_match_1 d
          from (inr d) = weak_match_2 (ws_string d.0) d.1

      -- the three rules over any sequence
      abbrev pub Weakly : List Item → Type 0
      Weakly m =
          Match L NotMatch a m x ⊎ (((m ≡ []) × Match L NotMatch a (string [] ∷ []) x)
          ⊎ (One (λ s. L.whitespace s ≡ true) m × Match L NotMatch a [] x))

      pub weak_rules : (m : List Item) → WeakMatch L NotMatch a m x ↔ Weakly m
      weak_rules m = (to, from)
        where
          to : {m : List Item} → WeakMatch L NotMatch a m x → Weakly m
          to (weak_match_1 d) = inl d
          to (weak_match_2 ws_empty d) = inl d
          to (weak_match_2 (ws_string w) d) = inr (inr ((_, refl, w), d))
          to (weak_match_3 d) = inr (inl (refl, d))

          from : Weakly m → WeakMatch L NotMatch a m x
          from (inl d) = weak_match_1 d
          from (inr (inl d)) = rw d.0 (weak_match_3 d.1)
          from (inr (inr d)) = rw d.0.1 (weak_match_2 (ws_string d.0.2) d.1)

    -- with an element only the first rule is left
    first_rule : {m : List Item} {x : Pattern} → has_element m ≡ true
        → WeakMatch L NotMatch a m x → Match L NotMatch a m x
    first_rule h (weak_match_1 d) = d
    first_rule h (weak_match_2 ws_empty d) = d
    first_rule h (weak_match_2 (ws_string w) d) = absurd (false≢true h)
    first_rule h (weak_match_3 d) = absurd (false≢true h)

    module _ (p : ℕ) (q : Sequential L (L.pattern p)) {m : List Item}
        (o : OkAsChildren m) (h : has_element m ≡ true) where
      pub weak_stripped : WeakMatch L NotMatch a m (L.pattern p) ↔ Match L NotMatch a (stripped L m) (L.pattern p)
      weak_stripped = (λ w. strip L NotMatch q h (first_rule h w), λ d. weak_match_1 (unstrip L NotMatch o h d))

      -- as a span over the positions without whitespace
      pub weak_span : (it : ℕ → Item) (K : ℕ → Bool) (n : ℕ) → run it K 0 n ≡ stripped L m
          → WeakMatch L NotMatch a m (L.pattern p) ↔ Span L NotMatch a it K p 0 n
      weak_span it K n e =
          let s = span_whole L NotMatch a it K p n e in
          (λ w. s.1 (weak_stripped.0 w), λ d. weak_stripped.1 (s.0 d))
