-- Counting the rows that belong to each element, and the elements that are too wide.
use mathlib.Core.Path.{◌≡◌, refl, ◌∙◌, ap}
use mathlib.Core.Bool.{Bool, true, false, cond, ◌&&◌, ◌||◌, and_comm}
use mathlib.Core.List.{List}
use Prim.Native.Nat.{ℕ, zero, suc, ◌+◌, ◌≤◌, ◌<◌}
use native.Mathlib.Omega.{arith}
use native.Mathlib.Numerals.{add-one}
use lib.Dec.{eqb, ltb}
use lib.ListN.{length, get_or, length-replicate}
use borrow.Author.Tests.{eqb-true, eqb-false, ltb-true, ltb-false}
use Rattle.tables.specs.Answers.{Decides}
use Rattle.tables.specs.Counting.{counted}
use Rattle.tables.specs.Outputs.{zeros}
use Rattle.tables.proofs.Counting.{length_counted, get_or_counted, low_everywhere}
use Rattle.tables.proofs.Fill.{get_or_zeros}
use Rattle.tables.proofs.Numbers.{one_or_none}
use Rattle.instance.specs.Nodes.{element, nodes_of, kind_of, is_child, is_attribute}
use Rattle.instance.specs.NodeRule.{max_nodes}
use Rattle.instance.specs.Width.{max_width, how_many, WidthFault, many_attributes, many_children}
use Rattle.instance_nodes.specs.Counts.{RowsCounted}

few : (test : ℕ → Bool) (n : ℕ) → how_many test n ≤ n
unfolding how_many
few test zero = omega arith
few test (suc n) = omega (arith, few test n, one_or_none (test n) refl)

pub rows_none : (belongs : ℕ → ℕ → Bool) {counts : List ℕ} → counts ≡ zeros max_nodes → RowsCounted belongs counts 0
unfolding how_many
rows_none belongs e = record {
  size = ap length e ∙ length-replicate {A = ℕ} max_nodes 0;
  count = λ r h. ap (λ (l : List ℕ). get_or l r 0) e ∙ get_or_zeros max_nodes r;
}

module _ {belongs : ℕ → ℕ → Bool} {counts : List ℕ} {n : ℕ} (c : RowsCounted belongs counts n) where
  -- a count is at most the number of rows passed
  pub counts_low : (e : ℕ) → get_or counts e 0 ≤ n
  counts_low = low_everywhere counts (λ e h. rw (c.count e (omega (arith, h, c.size))) (few (belongs e) n))

  -- row n is counted at x, where it belongs
  pub rows_more : (x : ℕ) (wanted : Bool) {after : List ℕ} → after ≡ counted wanted x counts
      → ((e : ℕ) → (eqb x e && wanted) ≡ belongs e n) → RowsCounted belongs after (n + 1)
  unfolding how_many
  rows_more x wanted {after} q same = record {
    size = ap length q ∙ length_counted wanted x counts ∙ c.size;
    count = λ e h.
        let one = ap (λ (l : List ℕ). get_or l e 0) q ∙ get_or_counted wanted x counts e (omega (arith, h, c.size)) in
        rw (add-one n, how_many, ← same e, and_comm (eqb x e) wanted)
        (one ∙ ap (λ (m : ℕ). m + cond (wanted && eqb x e) 1 0) (c.count e h));
  }

-- whether an element has too many attributes or children
abbrev wide : ℕ → ℕ → ℕ → Bool
wide k a c = eqb k element && (ltb max_width a || ltb max_width c)

module _ (t : List ℕ) (e : ℕ) where
  is_wide : e < nodes_of t → (x y z : Bool) → eqb (kind_of t e) element ≡ x
      → ltb max_width (how_many (is_attribute t e) (nodes_of t)) ≡ y
      → ltb max_width (how_many (is_child t e) (nodes_of t)) ≡ z
      → Decides (WidthFault t e) (x && (y || z))
  is_wide l true true z p q s = many_attributes l (eqb-true _ _ p) (ltb-true _ _ q)
  is_wide l true false true p q s = many_children l (eqb-true _ _ p) (ltb-true _ _ s)
  is_wide l true false false p q s = λ f. no_width f
    where
      no_width : WidthFault t e → ⊥
      no_width (many_attributes i k h) = omega (arith, ltb-false max_width (how_many (is_attribute t e) (nodes_of t)) q)
      no_width (many_children i k h) = omega (arith, ltb-false max_width (how_many (is_child t e) (nodes_of t)) s)
  is_wide l false y z p q s = λ f. no_element f
    where
      no_element : WidthFault t e → ⊥
      no_element (many_attributes i k h) = eqb-false _ _ p k
      no_element (many_children i k h) = eqb-false _ _ p k

  pub wide_row : WidthFault t e → e < nodes_of t
  wide_row (many_attributes i k h) = i
  wide_row (many_children i k h) = i

  -- the test of an element by its counts
  pub tells_wide : {attributes children : List ℕ} {k a c : ℕ} {answer : Bool} → nodes_of t ≤ max_nodes → e < nodes_of t
      → RowsCounted (is_attribute t) attributes (nodes_of t) → RowsCounted (is_child t) children (nodes_of t)
      → k ≡ kind_of t e → a ≡ get_or attributes e 0 → c ≡ get_or children e 0 → answer ≡ wide k a c
      → Decides (WidthFault t e) answer
  tells_wide small l x y p q s w =
      rw (w, p, q, s, x.count e (omega arith), y.count e (omega arith)) (is_wide l _ _ _ refl refl refl)
