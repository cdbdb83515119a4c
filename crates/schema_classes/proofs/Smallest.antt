-- The smallest row of two kinds of rows, and the row of a choice by those of its members.
use Prim.Native.Nat.{ℕ, ◌≤◌, ◌<◌, min}
use mathlib.Core.Path.{◌≡◌, refl, sym, ◌∙◌}
use mathlib.Core.Bool.{Bool, true, false, ◌||◌}
use mathlib.Core.Logic.{◌⊎◌, ⊎_elim}
use native.Mathlib.Decide.{dec_lt}
use native.Mathlib.Nat.{min-eq_left, min-eq_right}
use native.Mathlib.Omega.{arith}
use Rattle.tables.specs.Answers.{Clear}
use Rattle.schema.specs.Kinds as kind
use Rattle.schema_classes.specs.Judging.{choice_of}
use Rattle.schema_classes.specs.WhichRow.{SmallestOrNone, smallest, without_row, RowBy, is_yes, row_of}
use Rattle.schema_classes.specs.declared.Member.{Member}
use Rattle.schema_classes.specs.declared.Member.TheVariants.{Yes, No}

-- the smaller of two rows
smaller_case : (A : ℕ → Type 0) (p q : ℕ) → (p ≤ q → A p) → (q ≤ p → A q) → A (min p q)
smaller_case A p q f g = go (dec_lt q p)
  where
    go : Dec (q < p) → A (min p q)
    go (yes h) = let l : q ≤ p = omega arith in rw (min-eq_right l) (g l)
    go (no h) = let l : p ≤ q = omega arith in rw (min-eq_left l) (f l)

-- what has P is what has P₁ or P₂
pub record Union (P P₁ P₂ : ℕ → Type 0) : Type 0 where
  pub first : (r : ℕ) → P₁ r → P r
  pub second : (r : ℕ) → P₂ r → P r
  pub split : (r : ℕ) → P r → P₁ r ⊎ P₂ r

module _ {P P₁ P₂ : ℕ → Type 0} (both : Union P P₁ P₂) where
  least_both : {p q : ℕ} → P₁ p × Clear P₁ p → P₂ q × Clear P₂ q → P (min p q) × Clear P (min p q)
  least_both {p} {q} (a, c) (b, d) =
      smaller_case (λ r. P r × Clear P r) p q
      (λ h. (both.first p a, λ i l x. ⊎_elim (c i l) (d i (omega arith)) (both.split i x)))
      (λ h. (both.second q b, λ i l x. ⊎_elim (c i (omega arith)) (d i l) (both.split i x)))

  smallest_both : {p q : ℕ} → ((r : ℕ) → P₁ r → r < kind.no_row) → ((r : ℕ) → P₂ r → r < kind.no_row)
      → SmallestOrNone P₁ p → SmallestOrNone P₂ q → SmallestOrNone P (min p q)
  smallest_both f g (smallest a c) (smallest b d) = let x = least_both (a, c) (b, d) in smallest x.0 x.1
  smallest_both {p} {q} f g (smallest a c) (without_row n e) =
      smaller_case (SmallestOrNone P) p q
      (λ h. smallest (both.first p a) (λ i l x. ⊎_elim (c i l) (n i) (both.split i x)))
      (λ h. let k = f p a in absurd (omega arith))
  smallest_both {p} {q} f g (without_row m e) (smallest b d) =
      smaller_case (SmallestOrNone P) p q
      (λ h. let k = g q b in absurd (omega arith))
      (λ h. smallest (both.second q b) (λ i l x. ⊎_elim (m i) (d i l) (both.split i x)))
  smallest_both {p} {q} f g (without_row m e) (without_row n i) =
      smaller_case (SmallestOrNone P) p q (λ h. without_row neither e) (λ h. without_row neither i)
    where
      neither : (r : ℕ) → ¬ P r
      neither r x = ⊎_elim (m r) (n r) (both.split r x)

-- the row of a choice, by those of its members
module _ {T T₁ T₂ S S₁ S₂ : ℕ → Type 0} (takes : Union T T₁ T₂) (shuts : Union S S₁ S₂)
    (low₁ : (r : ℕ) → S₁ r → r < kind.no_row) (low₂ : (r : ℕ) → S₂ r → r < kind.no_row) where
  pub row_both : (x y : Member) → (is_yes x ≡ false → (r : ℕ) → ¬ T₁ r) → (is_yes y ≡ false → (r : ℕ) → ¬ T₂ r)
      → RowBy T₁ S₁ (is_yes x) (row_of x) → RowBy T₂ S₂ (is_yes y) (row_of y)
      → RowBy T S (is_yes (choice_of x y)) (row_of (choice_of x y))
  row_both (Yes p) (Yes q) m n f g = least_both takes f g
  row_both (Yes p) (No q) m n (a, c) g =
      (takes.first p a, λ i l t. ⊎_elim (c i l) (n refl i) (takes.split i t))
  row_both (No p) (Yes q) m n f (b, d) =
      (takes.second q b, λ i l t. ⊎_elim (m refl i) (d i l) (takes.split i t))
  row_both (No p) (No q) m n f g = smallest_both shuts low₁ low₂ f g

pub choice_yes : (x y : Member) → is_yes (choice_of x y) ≡ (is_yes x || is_yes y)
choice_yes (Yes p) (Yes q) = refl
choice_yes (Yes p) (No q) = refl
choice_yes (No p) (Yes q) = refl
choice_yes (No p) (No q) = refl

-- what holds beside does not move the row
pub row_beside : (T S : ℕ → Type 0) {A : Type 0} → A → (b : Bool) (r : ℕ) → RowBy T S b r
    → RowBy (λ i. A × T i) (λ i. A × S i) b r
row_beside T S a true r (t, c) = ((a, t), λ i l x. c i l x.1)
row_beside T S a false r (smallest x c) = smallest (a, x) (λ i l y. c i l y.1)
row_beside T S a false r (without_row n e) = without_row (λ i y. n i y.1) e

least_one : (P : ℕ → Type 0) (r q : ℕ) → P r × Clear P r → P q × Clear P q → r ≡ q
least_one P r q (x, c) (y, d) = go (dec_lt r q) (dec_lt q r)
  where
    go : Dec (r < q) → Dec (q < r) → r ≡ q
    go (yes h) e = absurd (d r h x)
    go (no h) (yes k) = absurd (c q k y)
    go (no h) (no k) = omega arith

-- there is one row that an answer can have
pub row_one : (T S : ℕ → Type 0) (b : Bool) (r q : ℕ) → RowBy T S b r → RowBy T S b q → r ≡ q
row_one T S true r q (t, c) (u, d) = least_one T r q (t, c) (u, d)
row_one T S false r q (smallest x c) (smallest y d) = least_one S r q (x, c) (y, d)
row_one T S false r q (smallest x c) (without_row n e) = absurd (n r x)
row_one T S false r q (without_row m e) (smallest y d) = absurd (m q y)
row_one T S false r q (without_row m e) (without_row n f) = e ∙ sym f
