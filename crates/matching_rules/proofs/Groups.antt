-- Spans of group and interleave: each attribute goes to the side that names it (10.4), and each item of an interleave
-- to the side that takes it (10.5).
use Prim.Native.Nat.{ℕ, ◌-◌}
use mathlib.Core.Path.{◌≡◌, ap, sym, ◌∙◌}
use mathlib.Core.Bool.{Bool, true, false, ◌||◌}
use mathlib.Core.List.{List}
use mathlib.Core.Logic.{◌↔◌}
use native.Mathlib.Omega.{arith}
use Rattle.schema.specs.Views.{group, interleave}
use Rattle.relations.specs.Relations.{And, Then}
use Rattle.matching_rules.specs.Items.{Item, Attributes, ◌∪◌, Lookups}
use Rattle.matching_rules.specs.Rules.{Match}
use Rattle.tables.proofs.Booleans.{or_left, or_right, is_false}
use Rattle.matching_rules.proofs.Booleans.{◌∩◌, ◌∖◌, both_parts, first_part, second_part}
use Rattle.matching_rules.proofs.Interleavings.{shuffle, interleaved, swap}
use Rattle.matching_rules.proofs.Interleavings.{among_first, run_shuffle, shuffle_run}
use Rattle.matching_rules.proofs.Inversion.{cast}
use Rattle.matching_rules.specs.Spans.{CleanAt, Span}
use Rattle.matching_rules.proofs.Occurrences.{clean_run, named, taken}
use Rattle.matching_rules.specs.Reach.{Reaches, names_attribute, takes}
use Rattle.matching_rules.specs.Restricted.{Restricted, NamesApart}
use Rattle.matching_rules.proofs.Runs.{run_join, run_split}
use Rattle.matching_rules.proofs.Spans.{by_kind}

-- a test tells which members of a set have a property
abbrev pub Tells : (ℕ → Bool) → (ℕ → Bool) → (ℕ → Type 0) → Type 0
Tells P A Property = (x : ℕ) → A x ≡ true → (P x ≡ true) ↔ Property x

module _ (L : Lookups) (NotMatch : List ℕ → ℕ → Type 0) (R : Restricted L)
    (A : Attributes) (it : ℕ → Item) (K : ℕ → Bool) (p p₁ p₂ : ℕ)
    (P : ℕ → Bool) (names : Tells P A (λ x. Reaches L (names_attribute L x) (L.pattern p₁))) where
  -- so the sets of a match are the two parts
  sets : NamesApart L p₁ p₂ → {a₁ a₂ : Attributes} {m₁ m₂ : List Item} → A ≡ a₁ ∪ a₂
      → Match L NotMatch a₁ m₁ (L.pattern p₁) → Match L NotMatch a₂ m₂ (L.pattern p₂) → (a₁ ≡ A ∩ P) × (a₂ ≡ A ∖ P)
  sets r {a₁} {a₂} e d₁ d₂ = (first_part P e in_first in_second, second_part P e in_first in_second)
    where
      member : (x : ℕ) → (a₁ x || a₂ x) ≡ true → A x ≡ true
      member x h = ap (λ (s : Attributes). s x) e ∙ h

      in_first : (x : ℕ) → a₁ x ≡ true → P x ≡ true
      in_first x h = (names x (member x (or_left (a₂ x) h))).1 (named L NotMatch d₁ x h)

      in_second : (x : ℕ) → a₂ x ≡ true → P x ≡ false
      in_second x h = is_false (P x) (λ k. r x ((names x (member x (or_right (a₁ x) h))).0 k) (named L NotMatch d₂ x h))

  pub span_group : (i j : ℕ) → L.pattern p ≡ group p₁ p₂
      → Span L NotMatch A it K p i j ↔ Then (Span L NotMatch (A ∩ P) it K p₁) (Span L NotMatch (A ∖ P) it K p₂) i j
  span_group i j e = (to, from)
    where
      to : Span L NotMatch A it K p i j → Then (Span L NotMatch (A ∩ P) it K p₁) (Span L NotMatch (A ∖ P) it K p₂) i j
      to s =
          let g = ((by_kind L NotMatch A it K p i j (group p₁ p₂) e).0 s).1 in
          let t = run_split it K g.m₁ g.m₂ s.0 g.sequence in
          let a = sets (R.groups p p₁ p₂ e) g.set g.first g.second in (
            t.h,
            (t.after, cast L NotMatch a.0 (sym t.first) g.first),
            (t.before, cast L NotMatch a.1 (sym t.second) g.second),
          )

      from : Then (Span L NotMatch (A ∩ P) it K p₁) (Span L NotMatch (A ∖ P) it K p₂) i j → Span L NotMatch A it K p i j
      from s =
          let l = s.1.0 in
          let r = s.2.0 in
          (by_kind L NotMatch A it K p i j (group p₁ p₂) e).1 (
            omega arith,
            record {
              a₁ = _;
              a₂ = _;
              m₁ = _;
              m₂ = _;
              set = both_parts A P;
              sequence = run_join it K l r;
              first = s.1.1;
              second = s.2.1;
            },
          )

  module _ (Q : ℕ → Bool) (takers : Tells Q K (λ k. Reaches L (takes L (it k)) (L.pattern p₁)))
      (clean : CleanAt L it K) where
    pub span_interleave : (i j : ℕ) → L.pattern p ≡ interleave p₁ p₂
        → Span L NotMatch A it K p i j
        ↔ And (Span L NotMatch (A ∩ P) it (K ∩ Q) p₁) (Span L NotMatch (A ∖ P) it (K ∖ Q) p₂) i j
    span_interleave i j e = (to, from)
      where
        to : Span L NotMatch A it K p i j
            → And (Span L NotMatch (A ∩ P) it (K ∩ Q) p₁) (Span L NotMatch (A ∖ P) it (K ∖ Q) p₂) i j
        to s =
            let g = ((by_kind L NotMatch A it K p i j (interleave p₁ p₂) e).0 s).1 in
            let a = sets (R.interleaves p p₁ p₂ e) g.set g.first g.second in
            let c = clean_run L it K clean i (j - i) in
            let f = shuffle g.order in
            let t₁ = taken L NotMatch g.first (λ x s u v. c x s (among_first f u) (among_first f v)) in
            let t₂ = taken L NotMatch g.second
            (λ x s u v. c x s (among_first (swap f) u) (among_first (swap f) v)) in
            let w = shuffle_run it K Q i (j - i) f (λ k h u. (takers k h).1 (t₁ (it k) u))
            (λ k h u. is_false (Q k) (λ q. R.items p p₁ p₂ e (it k) ((takers k h).0 q) (t₂ (it k) u))) in (
              (s.0, cast L NotMatch a.0 (sym w.0) g.first),
              (s.0, cast L NotMatch a.1 (sym w.1) g.second),
            )

        from : And (Span L NotMatch (A ∩ P) it (K ∩ Q) p₁) (Span L NotMatch (A ∖ P) it (K ∖ Q) p₂) i j
            → Span L NotMatch A it K p i j
        from s =
            (by_kind L NotMatch A it K p i j (interleave p₁ p₂) e).1 (
              s.0.0,
              record {
                a₁ = _;
                a₂ = _;
                m₁ = _;
                m₂ = _;
                set = both_parts A P;
                first = s.0.1;
                second = s.1.1;
                order = interleaved (run_shuffle it K Q i (j - i));
              },
            )
