-- The relation of a choice, group or interleave from the relations of its operands.
use Prim.Native.Nat.{ℕ, ◌-◌, ◌^◌, ◌<◌}
use mathlib.Core.Path.{◌≡◌, refl, subst}
use mathlib.Core.Bool.{Bool, true}
use mathlib.Core.List.{List}
use mathlib.Core.Logic.{inl, inr, ⊎_map, ◌↔◌}
use native.Mathlib.Omega.{arith}
use lib.Bits.{bit_and}
use lib.ListN.{get_or}
use Rattle.schema.specs.Rows.{rows_of}
use Rattle.schema.specs.Views.{choice, group, interleave, pattern_of}
use Rattle.sets.specs.Bits.{bit}
use Rattle.relations.specs.Relations.{Relation, Or, And, Then}
use Rattle.relations.specs.Words.{WordsRelate, Is}
use Rattle.relations.proofs.Words.{is_map}
use Rattle.matching_rules.specs.Items.{Attributes, Lookups}
use Rattle.matching_rules.specs.Rules.{NotMatchBy}
use Rattle.matching_rules.specs.Job.{lookups}
use Rattle.matching_rules.proofs.Booleans.{◌∩◌, ◌∖◌}
use Rattle.matching_rules.proofs.Groups.{Tells, span_group, span_interleave}
use Rattle.matching_rules.proofs.Passing.{restricted}
use Rattle.matching_rules.specs.Reach.{Reaches, names_attribute, takes}
use Rattle.matching_rules.specs.Restricted.{Restricted}
use Rattle.matching_rules.specs.Spans.{Span}
use Rattle.matching_rules.proofs.Spans.{span_choice}
use Rattle.matching_marks.specs.Marks.{attributes_in}
use Rattle.matching.specs.Setting.{Setting, tables_in, Asked, Related, Covered}
use Rattle.matching.proofs.Shares.{bits_both, bits_without, number_of, has_row, in_row}
use Rattle.matching.proofs.Shares.{attributes_both, attributes_without, row_covered}

-- words that hold the relations that a relation is made of
module _ {w w₁ w₂ : List ℕ} {R R₁ R₂ : Relation} (is₁ : Is w₁ R₁) (is₂ : Is w₂ R₂) where
  is_or : Is w (Or (WordsRelate w₁) (WordsRelate w₂)) → ((i j : ℕ) → Or R₁ R₂ i j ↔ R i j) → Is w R
  is_or is same =
      is_map (is_map is
      (λ i j. (⊎_map (is₁.sound i j) (is₂.sound i j), ⊎_map (is₁.complete i j) (is₂.complete i j)))) same

  is_and : Is w (And (WordsRelate w₁) (WordsRelate w₂)) → ((i j : ℕ) → And R₁ R₂ i j ↔ R i j) → Is w R
  is_and is same =
      is_map (is_map is (λ i j. (
        λ b. (is₁.sound i j b.0, is₂.sound i j b.1),
        λ b. (is₁.complete i j b.0, is₂.complete i j b.1),
      ))) same

  is_then : Is w (Then (WordsRelate w₁) (WordsRelate w₂)) → ((i j : ℕ) → Then R₁ R₂ i j ↔ R i j) → Is w R
  is_then is same =
      is_map (is_map is (λ i j. (
        λ b. (b.0, is₁.sound i b.0 b.1, is₂.sound b.0 j b.2),
        λ b. (b.0, is₁.complete i b.0 b.1, is₂.complete b.0 j b.2),
      ))) same

module _ {s : List ℕ} (S : Setting s) (m : ℕ) {a k : ℕ} (asked : Asked S a k) (p p₁ p₂ : ℕ) where
  abbrev L : Lookups
  L = lookups (tables_in S)

  abbrev N : List ℕ → ℕ → Type 0
  N = NotMatchBy L (rows_of s)

  abbrev A : Attributes
  A = attributes_in S.element a

  R : Restricted L
  R = restricted (tables_in S) S.passes

  pub related_choice : {w w₁ w₂ : List ℕ} → pattern_of s p ≡ choice p₁ p₂ → Is w₁ (Related S m a k p₁)
      → Is w₂ (Related S m a k p₂) → Is w (Or (WordsRelate w₁) (WordsRelate w₂)) → Is w (Related S m a k p)
  related_choice e is₁ is₂ is = is_or is₁ is₂ is (λ i j. (to i j, from i j))
    where
      to : (i j : ℕ) → Or (Related S m a k p₁) (Related S m a k p₂) i j → Related S m a k p i j
      to i j (inl r) = (r.0, (span_choice L N A S.it (bit k) p i j e).1 (inl r.1))
      to i j (inr r) = (r.0, (span_choice L N A S.it (bit k) p i j e).1 (inr r.1))

      from : (i j : ℕ) → Related S m a k p i j → Or (Related S m a k p₁) (Related S m a k p₂) i j
      from i j r = ⊎_map (λ x. (r.0, x)) (λ x. (r.0, x)) ((span_choice L N A S.it (bit k) p i j e).0 r.1)

  -- the word of row p₁ tells which attributes and items are for the first operand
  module _ {marks named taken single : List ℕ} (covered : Covered S marks named taken single p₁) where
    abbrev n : ℕ
    n = get_or named p₁ 0

    abbrev t : ℕ
    t = get_or taken p₁ 0

    abbrev P : ℕ → Bool
    P = has_row S.element n

    names : Tells P A (λ x. Reaches L (names_attribute L x) (L.pattern p₁))
    names r h =
        let z = in_row S.element a r h in
        subst (λ (x : ℕ). (bit n (number_of S.element r) ≡ true) ↔ Reaches L (names_attribute L x) (L.pattern p₁))
        z.0
        ((row_covered S covered).names (number_of S.element r) (asked.of_attributes (number_of S.element r) z.1))

    takers : Tells (bit t) (bit k) (λ x. Reaches L (takes L (S.it x)) (L.pattern p₁))
    takers x h = (row_covered S covered).takers x (asked.of_items x h)

    module _ (ha : a < 2 ^ 64) (hn : n < 2 ^ 64) where
      -- the relations of the operands as spans
      first : (K : ℕ → Bool) (l i j : ℕ) → bit l ≡ K
          → Related S m (bit_and a n) l p₁ i j ↔ ((j < m) × Span L N (A ∩ P) S.it K p₁ i j)
      first K l i j e = rw (attributes_both S.element a n, e) ((λ r. r), λ r. r)

      second : (K : ℕ → Bool) (l i j : ℕ) → bit l ≡ K
          → Related S m (bit_and a (2 ^ 64 - 1 - n)) l p₂ i j ↔ ((j < m) × Span L N (A ∖ P) S.it K p₂ i j)
      second K l i j e = rw (attributes_without S.element a n ha hn, e) ((λ r. r), λ r. r)

      pub related_group : {w w₁ w₂ : List ℕ} → pattern_of s p ≡ group p₁ p₂
          → Is w₁ (Related S m (bit_and a n) k p₁) → Is w₂ (Related S m (bit_and a (2 ^ 64 - 1 - n)) k p₂)
          → Is w (Then (WordsRelate w₁) (WordsRelate w₂)) → Is w (Related S m a k p)
      related_group e is₁ is₂ is = is_then is₁ is₂ is (λ i j. (to i j, from i j))
        where
          to : (i j : ℕ) → Then (Related S m (bit_and a n) k p₁) (Related S m (bit_and a (2 ^ 64 - 1 - n)) k p₂) i j
              → Related S m a k p i j
          to i j r =
              let x = (first (bit k) k i r.0 refl).0 r.1 in
              let y = (second (bit k) k r.0 j refl).0 r.2 in
              (y.0, (span_group L N R A S.it (bit k) p p₁ p₂ P names i j e).1 (r.0, x.1, y.1))

          from : (i j : ℕ) → Related S m a k p i j
              → Then (Related S m (bit_and a n) k p₁) (Related S m (bit_and a (2 ^ 64 - 1 - n)) k p₂) i j
          from i j r =
              let x = (span_group L N R A S.it (bit k) p p₁ p₂ P names i j e).0 r.1 in
              let u = r.0 in
              let v = x.2.0 in
              (x.0, (first (bit k) k i x.0 refl).1 (omega arith, x.1), (second (bit k) k x.0 j refl).1 (u, x.2))

      pub related_interleave : {w w₁ w₂ : List ℕ} → k < 2 ^ 64 → t < 2 ^ 64 → pattern_of s p ≡ interleave p₁ p₂
          → Is w₁ (Related S m (bit_and a n) (bit_and k t) p₁)
          → Is w₂ (Related S m (bit_and a (2 ^ 64 - 1 - n)) (bit_and k (2 ^ 64 - 1 - t)) p₂)
          → Is w (And (WordsRelate w₁) (WordsRelate w₂)) → Is w (Related S m a k p)
      related_interleave hk ht e is₁ is₂ is = is_and is₁ is₂ is (λ i j. (to i j, from i j))
        where
          K₁ : bit (bit_and k t) ≡ bit k ∩ bit t
          K₁ = bits_both k t

          K₂ : bit (bit_and k (2 ^ 64 - 1 - t)) ≡ bit k ∖ bit t
          K₂ = bits_without k t hk ht

          to : (i j : ℕ) → And (Related S m (bit_and a n) (bit_and k t) p₁)
              (Related S m (bit_and a (2 ^ 64 - 1 - n)) (bit_and k (2 ^ 64 - 1 - t)) p₂) i j → Related S m a k p i j
          to i j r =
              let x = (first (bit k ∩ bit t) (bit_and k t) i j K₁).0 r.0 in
              let y = (second (bit k ∖ bit t) (bit_and k (2 ^ 64 - 1 - t)) i j K₂).0 r.1 in (
                x.0,
                (span_interleave L N R A S.it (bit k) p p₁ p₂ P names
                    (bit t) takers asked.clean i j e).1 (x.1, y.1),
              )

          from : (i j : ℕ) → Related S m a k p i j → And (Related S m (bit_and a n) (bit_and k t) p₁)
              (Related S m (bit_and a (2 ^ 64 - 1 - n)) (bit_and k (2 ^ 64 - 1 - t)) p₂) i j
          from i j r =
              let x = (span_interleave L N R A S.it (bit k) p p₁ p₂ P names
              (bit t) takers asked.clean i j e).0 r.1 in (
                (first (bit k ∩ bit t) (bit_and k t) i j K₁).1 (r.0, x.0),
                (second (bit k ∖ bit t) (bit_and k (2 ^ 64 - 1 - t)) i j K₂).1 (r.0, x.1),
              )
