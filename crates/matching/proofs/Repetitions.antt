-- The relation of a oneOrMore from the relation of its operand without attributes.
use Prim.Native.Nat.{ℕ, suc, ◌+◌, ◌^◌, ◌≤◌, ◌<◌}
use mathlib.Core.Path.{◌≡◌, sym, ap, ◌∙◌, subst}
use mathlib.Core.Bool.{true}
use mathlib.Core.List.{List, []}
use mathlib.Core.Logic.{inl, inr, ◌↔◌}
use native.Mathlib.Decide.{ℕ_discrete}
use native.Mathlib.Omega.{arith}
use lib.Count.{count_trailing_zeros}
use lib.ListN.{get_or}
use Rattle.schema.specs.Rows.{rows_of}
use Rattle.schema.specs.Views.{one_or_more, pattern_of}
use Rattle.sets.specs.Bits.{bit}
use Rattle.relations.specs.Relations.{Relation, Plus, once, more}
use Rattle.relations.specs.Words.{WordsRelate, Is, Up}
use Rattle.sets.proofs.Least.{trailing}
use Rattle.sets.proofs.Members.{none_has}
use Rattle.relations.proofs.Words.{is_map}
use Rattle.matching_rules.specs.Items.{Attributes, no_attributes, only, Lookups}
use Rattle.matching_rules.specs.Rules.{Match, NotMatchBy}
use Rattle.matching_rules.specs.Job.{lookups}
use Rattle.matching_rules.proofs.Passing.{restricted}
use Rattle.matching_rules.proofs.Positions.{run_empty}
use Rattle.matching_rules.proofs.Repeats.{Repeated, span_one_or_more, span_one_or_more_attributes}
use Rattle.matching_rules.specs.Restricted.{Restricted}
use Rattle.matching_rules.specs.Spans.{Span}
use Rattle.matching_marks.specs.Marks.{attribute_row, attributes_in}
use Rattle.matching.specs.Setting.{Setting, tables_in, Asked, Related, Covered}
use Rattle.matching.specs.Parts.{Subset, Repetition}
use Rattle.matching.proofs.Shares.{number_of, in_row, row_in, no_attributes_lem, row_covered}

plus_map : {R T : Relation} → ((i j : ℕ) → R i j → T i j) → {i j : ℕ} → Plus R i j → Plus T i j
plus_map f (once {i} {j} r) = once (f i j r)
plus_map f (more {i} {h} r q) = more (f i h r) (plus_map f q)

plus_up : {R : Relation} → Up R → {i j : ℕ} → Plus R i j → i ≤ j
plus_up up (once {i} {j} r) = up i j r
plus_up up (more {i} {h} r q) = let l = up i h r in let m = plus_up up q in omega arith

-- R on m positions
abbrev Held : ℕ → Relation → Relation
Held m R i j = (j < m) × R i j

plus_held : {m : ℕ} {R : Relation} {i j : ℕ} → Plus (Held m R) i j → j < m
plus_held (once r) = r.0
plus_held (more r q) = plus_held q

held_plus : {m : ℕ} {R : Relation} → Up R → {i j : ℕ} → j < m → Plus R i j → Plus (Held m R) i j
held_plus up l (once r) = once (l, r)
held_plus up l (more {h = h} r q) = let n = plus_up up q in more {h = h} (omega arith, r) (held_plus up l q)

repeats_map : {R T : Relation} (m a k alone : ℕ) → ((i j : ℕ) → R i j → T i j)
    → (i j : ℕ) → Repetition m a k alone R i j → Repetition m a k alone T i j
repeats_map m a k alone f i j (h, inl q) = (h, inl (plus_map f q))
repeats_map m a k alone f i j (h, inr g) = (h, inr g)

module _ {s marks named taken single : List ℕ} (S : Setting s) (m : ℕ) {a k : ℕ} (asked : Asked S a k)
    (p q : ℕ) (covered : Covered S marks named taken single q) (e : pattern_of s p ≡ one_or_more q) where
  abbrev L : Lookups
  L = lookups (tables_in S)

  abbrev N : List ℕ → ℕ → Type 0
  N = NotMatchBy L (rows_of s)

  abbrev A : Attributes
  A = attributes_in S.element a

  abbrev alone : ℕ
  alone = get_or single q 0

  -- one step, without attributes
  abbrev Step : Relation
  Step = Span L N no_attributes S.it (bit k) q

  step : (i j : ℕ) → Related S m 0 k q i j ↔ Held m Step i j
  step i j = rw (no_attributes_lem S.element) ((λ r. r), λ r. r)

  up : Up Step
  up i j r = r.0

  steps : (i j : ℕ) → Plus (Related S m 0 k q) i j ↔ Held m (Plus Step) i j
  steps i j = (to, λ r. plus_map (λ i j. (step i j).1) (held_plus up r.0 r.1))
    where
      to : Plus (Related S m 0 k q) i j → Held m (Plus Step) i j
      to r = let t = plus_map (λ i j. (step i j).0) r in (plus_held t, plus_map (λ i j u. u.1) t)

  R : Restricted L
  R = restricted (tables_in S) S.passes

  single_at : (x : ℕ) → bit a x ≡ true
      → (bit alone x ≡ true) ↔ Match L N (only (attribute_row S.element x)) [] (L.pattern q)
  single_at x h = (row_covered S covered).singles x (asked.of_attributes x h) (R.repeats_flat p q e)

  no_set : a ≡ 0 → A ≡ no_attributes
  no_set z = ap (attributes_in S.element) z ∙ no_attributes_lem S.element

  without : a ≡ 0 → (i j : ℕ) → Repetition m a k alone (Related S m 0 k q) i j ↔ Related S m a k p i j
  without z i j = (to, from)
    where
      to : Repetition m a k alone (Related S m 0 k q) i j → Related S m a k p i j
      to (h, inl r) =
          let t = (steps i j).0 r in (
            t.0,
            subst (λ (B : Attributes). Span L N B S.it (bit k) p i j) (sym (no_set z))
                ((span_one_or_more L N S.it (bit k) q p i j e).1 t.1),
          )
      to (h, inr (l, g)) = absurd (omega arith)

      from : Related S m a k p i j → Repetition m a k alone (Related S m 0 k q) i j
      from r =
          let t = (span_one_or_more L N S.it (bit k) q p i j e).0
          (subst (λ (B : Attributes). Span L N B S.it (bit k) p i j) (no_set z) r.1) in
          (λ x h. absurd (none_has x (subst (λ (n : ℕ). bit n x ≡ true) z h)), inl ((steps i j).1 (r.0, t)))

  module _ (ha : a < 2 ^ 64) (some : 0 < a) where
    below : (r : ℕ) → A r ≡ true → r < suc S.element + S.attributes
    below r h =
        let z = in_row S.element a r h in
        let f = z.0 in
        let l = asked.of_attributes (number_of S.element r) z.1 in
        omega arith

    span : (i j : ℕ) → Span L N A S.it (bit k) p i j ↔ Repeated L N S.it (bit k) q A i j
    span i j =
        let x = count_trailing_zeros 64 a in
        span_one_or_more_attributes L N S.it (bit k) q R A
        (suc S.element + S.attributes) (attribute_row S.element x) below
        (row_in S.element a x ∙ (trailing a some ha).member) asked.distinct p i j e

    alone_row : Subset a alone → (r : ℕ) → A r ≡ true → Match L N (only r) [] (L.pattern q)
    alone_row h r x =
        let z = in_row S.element a r x in
        subst (λ (x : ℕ). Match L N (only x) [] (L.pattern q)) z.0
        ((single_at (number_of S.element r) z.1).0 (h (number_of S.element r) z.1))

    beside : (i j : ℕ) → Repetition m a k alone (Related S m 0 k q) i j ↔ Related S m a k p i j
    beside i j = (to, from)
      where
        to : Repetition m a k alone (Related S m 0 k q) i j → Related S m a k p i j
        to (h, inl r) =
            let t = (steps i j).0 r in
            (t.0, (span i j).1 (record { ordered = plus_up up t.1; single = alone_row h; items = inr t.1 }))
        to (h, inr (l, g)) = (
          g.1,
          (span i j).1 (record {
            ordered = g.0;
            single = alone_row h;
            items = inl ((run_empty S.it (bit k) g.0).1 g.2);
          }),
        )

        from : Related S m a k p i j → Repetition m a k alone (Related S m 0 k q) i j
        from r =
            let t = (span i j).0 r.1 in (
              λ x h. (single_at x h).1 (t.single (attribute_row S.element x) (row_in S.element a x ∙ h)),
              elim t.items [
                | inl z ↦ inr (some, (t.ordered, r.0, (run_empty S.it (bit k) t.ordered).0 z))
                | inr u ↦ inl ((steps i j).1 (r.0, u))
              ],
            )

  pub related_one_or_more : {w w₁ : List ℕ} → a < 2 ^ 64 → Is w₁ (Related S m 0 k q)
      → Is w (Repetition m a k alone (WordsRelate w₁)) → Is w (Related S m a k p)
  related_one_or_more {w} {w₁} ha is₁ closed =
      is_map (is_map closed
      (λ i j. (repeats_map m a k alone is₁.sound i j, repeats_map m a k alone is₁.complete i j)))
      (λ i j. same i j (ℕ_discrete a 0))
    where
      same : (i j : ℕ) → Dec (a ≡ 0) → Repetition m a k alone (Related S m 0 k q) i j ↔ Related S m a k p i j
      same i j (yes z) = without z i j
      same i j (no z) = beside ha (omega arith) i j
