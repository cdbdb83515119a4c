-- A test that goes down to the children of a row, for the recursions over patterns and over name classes.
use mathlib.Core.Path.{◌≡◌, sym, ◌∙◌, subst}
use mathlib.Core.Bool.{Bool, true, false}
use mathlib.Core.Logic.{⊎_elim}
use mathlib.Core.List.{List}
use Prim.Native.Nat.{ℕ, ◌≤◌, ◌<◌}
use Rattle.tables.specs.Answers.{Decides}
use Rattle.tables.proofs.Answers.{said_yes, said_no}
use Rattle.schema.specs.Kinds.{no_row}
use Rattle.schema.specs.Rows.{child_a, child_b}
use Rattle.schema.specs.Relations.{Child}
use Rattle.schema.proofs.Children.{child_less, child_is, child_a_lem, child_b_lem}

-- F holds at row p exactly when it holds at a child
pub record ByChildren (s : List ℕ) (F : ℕ → Type 0) (p : ℕ) : Type 0 where
  pub up : (q : ℕ) → Child s q p → F q → F p
  pub down : F p → (q : ℕ) × Child s q p × F q

module _ {s : List ℕ} {F : ℕ → Type 0} {p a : ℕ} {x : Bool} (low : p ≤ no_row)
    (ea : a ≡ child_a s p) (by : ByChildren s F p) (da : Decides ((a < p) × F a) x) where
  pub first_child : x ≡ true → F p
  first_child e =
      let f = said_yes da e in
      by.up a (subst (λ q. Child s q p) (sym ea) (child_a_lem s p low (subst (λ q. q < p) ea f.0))) f.1

  pub second_child : x ≡ false → {b : ℕ} → b ≡ child_b s p → (y : Bool) → Decides ((b < p) × F b) y → Decides (F p) y
  second_child e {b} eb y db = go y db
    where
      no_a : ¬ ((a < p) × F a)
      no_a = said_no da e

      go : (z : Bool) → Decides ((b < p) × F b) z → Decides (F p) z
      go true f = by.up b (subst (λ q. Child s q p) (sym eb) (child_b_lem s p low (subst (λ q. q < p) eb f.0))) f.1
      go false g = λ f. let d = by.down f in
          ⊎_elim (λ e₁. no_a (subst (λ q. (q < p) × F q) (sym e₁ ∙ sym ea) (child_less d.1, d.2)))
          (λ e₁. g (subst (λ q. (q < p) × F q) (sym e₁ ∙ sym eb) (child_less d.1, d.2)))
          (child_is d.1)

-- beside a fact the answer is that of the rest
pub beside : {A : Type 0} (B : Type 0) (r : Bool) → A → Decides B r → Decides (A × B) r
beside B true a b = (a, b)
beside B false a n = λ x. n x.1
