-- What occurs in a pattern: at the pattern itself, or in a child of a choice, group, interleave or oneOrMore.
use mathlib.Core.Path.{◌≡◌, sym, ◌∙◌}
use mathlib.Core.Bool.{true, false, true≢false}
use mathlib.Core.Logic.{◌⊎◌, inl, inr, ⊎_elim}
use mathlib.Core.List.{List}
use Prim.Native.Nat.{ℕ, ◌≤◌, ◌<◌}
use Rattle.schema.specs.Kinds as kind
use Rattle.schema.specs.Rows.{kind_of}
use Rattle.schema.specs.Relations.{Child, connective, Occurs, itself, within}
use Rattle.schema.proofs.Shapes.{inside, outside}
use Rattle.schema_occurrences.specs.Occurrences.{Somewhere}
use Rattle.schema_occurrences.proofs.Descent.{ByChildren}

-- a kind of choice, group, interleave or oneOrMore, and one of no such pattern
pub is_connective : (s : List ℕ) (p : ℕ) {k : ℕ} → k ≡ kind_of s p
    → kind.one_or_more ≤ k → k ≤ kind.interleave → connective (kind_of s p) ≡ true
is_connective s p {k} e l h = rw (← e) (inside kind.one_or_more kind.interleave k l h)

pub not_connective : (s : List ℕ) (p : ℕ) {k : ℕ} → k ≡ kind_of s p
    → (k < kind.one_or_more) ⊎ (kind.interleave < k) → connective (kind_of s p) ≡ false
not_connective s p {k} e h = rw (← e) (outside kind.one_or_more kind.interleave k h)

module _ (s : List ℕ) (P : ℕ → Type 0) (p : ℕ) where
  pub occurs_here : P p → Somewhere s P p
  occurs_here w = (p, itself, w)

  -- an occurrence is at p or in a child
  inside_of : (x : ℕ) → Occurs s x p → P x
      → P p ⊎ ((connective (kind_of s p) ≡ true) × ((q : ℕ) × Child s q p × Somewhere s P q))
  inside_of x itself w = inl w
  inside_of x (within {q = q} c h o) w = inr (c, (q, h, (x, o, w)))

  pub occurs_nowhere : ¬ P p → connective (kind_of s p) ≡ false → ¬ Somewhere s P p
  occurs_nowhere n e f = ⊎_elim n (λ g. true≢false (sym g.0 ∙ e)) (inside_of f.0 f.1 f.2)

  pub occurs_by_children : ¬ P p → connective (kind_of s p) ≡ true → ByChildren s (Somewhere s P) p
  occurs_by_children n e = record {
    up = λ q h f. (f.0, within e h f.1, f.2);
    down = λ f. ⊎_elim (λ w. absurd (n w)) (λ g. g.1) (inside_of f.0 f.1 f.2);
  }
