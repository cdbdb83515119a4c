-- Clause 9.3 of ISO/IEC 19757-2: one constructor for each inference rule, under the rule's name. A pattern is the
-- content of a schema row; its parts are row numbers.
use Rattle.std.specs.Prelude.{ℕ, zero, suc, ◌≡◌, true, List, [], ◌∷◌, ◌++◌, map}
use Rattle.schema.specs.Views.{Pattern}
use Rattle.schema.specs.Views as pattern
use Rattle.matching_rules.specs.Items.{Item, string, Attributes, no_attributes, only, ◌∪◌, Lookups}
use Rattle.matching_rules.specs.Items as item

-- m₁ interleaves m₂; m₃ (9.3.6)
pub data Interleaves : List Item → List Item → List Item → Type 0 where
  interleaves_1 : Interleaves [] [] []
  interleaves_2 : {m₁ m₂ m₃ : List Item} (m₄ : List Item) → Interleaves m₁ m₂ m₃ → Interleaves (m₄ ++ m₁) (m₄ ++ m₂) m₃
  interleaves_3 : {m₁ m₂ m₃ : List Item} (m₄ : List Item) → Interleaves m₁ m₂ m₃ → Interleaves (m₄ ++ m₁) m₂ (m₄ ++ m₃)

-- okAsChildren (4.2.2): no member is an empty string, and no two consecutive members are strings
pub data OkAsChildren : List Item → Type 0 where
  ok_empty : OkAsChildren []
  ok_element : {e : ℕ} {m : List Item} → OkAsChildren m → OkAsChildren (item.element e ∷ m)
  ok_last : {c : ℕ} {s : List ℕ} → OkAsChildren (string (c ∷ s) ∷ [])
  ok_string : {c e : ℕ} {s : List ℕ} {m : List Item} → OkAsChildren m
      → OkAsChildren (string (c ∷ s) ∷ item.element e ∷ m)

module _ (L : Lookups) where
  -- ws (4.2.1): the empty sequence, or a string that consists entirely of whitespace
  pub data Ws : List Item → Type 0 where
    ws_empty : Ws []
    ws_string : {s : List ℕ} → L.whitespace s ≡ true → Ws (string s ∷ [])

  -- disjoint(a₁, a₂) (4.2.2): no name is the name of an attribute in both
  abbrev pub Disjoint : Attributes → Attributes → Type 0
  Disjoint a₁ a₂ = (x y : ℕ) → a₁ x ≡ true → a₂ y ≡ true → ¬ L.SameName x y

  -- NotMatch s p stands for the negative premise of (data 2), that the string s does not match the pattern at row p
  module _ (NotMatch : List ℕ → ℕ → Type 0) where
    mutual
      -- a; m =~ p
      pub data Match : Attributes → List Item → Pattern → Type 0 where
        -- 9.3.1
        choice_1 : {a : Attributes} {m : List Item} {p₁ p₂ : ℕ} → Match a m (L.pattern p₁)
            → Match a m (pattern.choice p₁ p₂)
        choice_2 : {a : Attributes} {m : List Item} {p₁ p₂ : ℕ} → Match a m (L.pattern p₂)
            → Match a m (pattern.choice p₁ p₂)
        -- 9.3.2
        group : {a₁ a₂ : Attributes} {m₁ m₂ : List Item} {p₁ p₂ : ℕ} → Match a₁ m₁ (L.pattern p₁)
            → Match a₂ m₂ (L.pattern p₂) → Match (a₁ ∪ a₂) (m₁ ++ m₂) (pattern.group p₁ p₂)
        -- 9.3.3
        empty : Match no_attributes [] pattern.empty
        -- 9.3.4
        text_1 : Match no_attributes [] pattern.text
        text_2 : {m : List Item} (s : List ℕ) → Match no_attributes m pattern.text
            → Match no_attributes (m ++ (string s ∷ [])) pattern.text
        -- 9.3.5
        one_or_more_1 : {a : Attributes} {m : List Item} {p : ℕ} → Match a m (L.pattern p)
            → Match a m (pattern.one_or_more p)
        one_or_more_2 : {a₁ a₂ : Attributes} {m₁ m₂ : List Item} {p : ℕ} → Match a₁ m₁ (L.pattern p)
            → Match a₂ m₂ (pattern.one_or_more p) → Disjoint a₁ a₂ → Match (a₁ ∪ a₂) (m₁ ++ m₂) (pattern.one_or_more p)
        -- 9.3.6
        interleave : {a₁ a₂ : Attributes} {m₁ m₂ m₃ : List Item} {p₁ p₂ : ℕ} → Match a₁ m₁ (L.pattern p₁)
            → Match a₂ m₂ (L.pattern p₂) → Interleaves m₃ m₁ m₂ → Match (a₁ ∪ a₂) m₃ (pattern.interleave p₁ p₂)
        -- 9.3.7
        attribute : {nc p : ℕ} (x : ℕ) → L.in_class nc x ≡ true
            → WeakMatch no_attributes (string (L.value x) ∷ []) (L.pattern p)
            → Match (only x) [] (pattern.attribute nc p)
        element : {d : ℕ} (e : ℕ) {ws₁ ws₂ : List Item} → L.is_definition d ≡ true → OkAsChildren (L.children e)
            → L.in_class (L.name_class d) e ≡ true
            → WeakMatch (L.attributes e) (L.children e) (L.pattern (L.content d)) → Ws ws₁ → Ws ws₂
            → Match no_attributes (ws₁ ++ item.element e ∷ ws₂) (pattern.ref d)
        -- 9.3.8; both datatypes allow every string
        value : {t k : ℕ} {s : List ℕ} → L.Equal t s (L.text k)
            → Match no_attributes (string s ∷ []) (pattern.value t k)
        data_1 : {t : ℕ} {s : List ℕ} → Match no_attributes (string s ∷ []) (pattern.data_all t)
        data_2 : {t p : ℕ} {s : List ℕ} → NotMatch s p → Match no_attributes (string s ∷ []) (pattern.data_except t p)
        -- 9.3.10: the tokens of the string, as a sequence of strings
        list : {p : ℕ} {s : List ℕ} → Match no_attributes (map string (L.split s)) (L.pattern p)
            → Match no_attributes (string s ∷ []) (pattern.list p)

      -- a; m =~weak p (9.3.7)
      pub data WeakMatch : Attributes → List Item → Pattern → Type 0 where
        weak_match_1 : {a : Attributes} {m : List Item} {p : Pattern} → Match a m p → WeakMatch a m p
        weak_match_2 : {a : Attributes} {ws : List Item} {p : Pattern} → Ws ws → Match a [] p → WeakMatch a ws p
        weak_match_3 : {a : Attributes} {p : Pattern} → Match a (string [] ∷ []) p → WeakMatch a [] p

  -- The negative premise by strata: at stratum 0 nothing is granted, and each stratum denies what the rules derive with
  -- the one before.
  -- Where no data stands in its own except, as in every schema that passes, stratum `rows` is the literal `not` of the
  -- rules (proofs/Strata).
  unfoldable pub NotMatchBy : ℕ → List ℕ → ℕ → Type 0
  NotMatchBy zero s p = ⊥
  NotMatchBy (suc n) s p = ¬ Match (NotMatchBy n) no_attributes (string s ∷ []) (L.pattern p)

  abbrev pub Matches : Attributes → List Item → Pattern → Type 0
  Matches = Match (NotMatchBy L.rows)

  -- the sequence whose only member is element e, with the empty set of attributes, matches a ref to definition d
  abbrev pub Proved : ℕ → ℕ → Type 0
  Proved e d = Matches no_attributes (item.element e ∷ []) (pattern.ref d)
