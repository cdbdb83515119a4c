-- Counting the uses of rows.
use mathlib.Core.Path.{◌≡◌, refl, ◌∙◌, ap}
use mathlib.Core.Bool.{true}
use mathlib.Core.List.{List}
use Prim.Native.Nat.{ℕ, zero, suc, ◌+◌, ◌*◌, ◌≤◌}
use native.Mathlib.Omega.{arith}
use native.Mathlib.Numerals.{add-one}
use lib.Dec.{eqb}
use lib.ListN.{length, get_or, length-replicate}
use Rattle.tables.specs.Counting.{counted}
use Rattle.tables.specs.Outputs.{zeros}
use Rattle.tables.proofs.Counting.{length_counted, get_or_counted, low_everywhere}
use Rattle.tables.proofs.Fill.{get_or_zeros}
use Rattle.tables.proofs.Numbers.{one_or_none}
use Rattle.schema.specs.Rows.{child_a, child_b}
use Rattle.schema.specs.RowRule.{max_rows, is_row, uses_before}
use Rattle.schema_rows.specs.Counts.{UsesCounted}

is_row_low : (r x : ℕ) → is_row r x ≤ 1
is_row_low r x = one_or_none (eqb x r) refl

uses_low : (s : List ℕ) (r p : ℕ) → uses_before s r p ≤ 2 * p
unfolding uses_before
uses_low s r zero = omega arith
uses_low s r (suc p) = omega (arith, uses_low s r p, is_row_low r (child_a s p), is_row_low r (child_b s p))

pub uses_none : (s : List ℕ) {counts : List ℕ} → counts ≡ zeros max_rows → UsesCounted s counts 0
unfolding uses_before
uses_none s e = record {
  size = ap length e ∙ length-replicate {A = ℕ} max_rows 0;
  uses = λ r h. ap (λ (l : List ℕ). get_or l r 0) e ∙ get_or_zeros max_rows r;
}

module _ {s counts : List ℕ} {p : ℕ} (c : UsesCounted s counts p) where
  -- a count is at most twice the number of rows passed
  pub counts_low : (r : ℕ) → get_or counts r 0 ≤ 2 * p
  counts_low = low_everywhere counts (λ r h. rw (c.uses r (omega (arith, h, c.size))) (uses_low s r p))

  -- the children of row p are counted
  pub uses_more : {a b : ℕ} → a ≡ child_a s p → b ≡ child_b s p
      → UsesCounted s (counted true b (counted true a counts)) (p + 1)
  unfolding uses_before
  uses_more {a} {b} e f =
      let l : length (counted true a counts) ≡ max_rows = length_counted true a counts ∙ c.size in
      record {
        size = length_counted true b (counted true a counts) ∙ l;
        uses = λ r h.
            let one = get_or_counted true a counts r (omega (arith, h, c.size)) in
            let two = get_or_counted true b (counted true a counts) r (omega (arith, h, l)) in
            rw (add-one p, uses_before, ← e, ← f)
            (two ∙ ap (λ (n : ℕ). n + is_row r b) (one ∙ ap (λ (n : ℕ). n + is_row r a) (c.uses r h)));
      }
