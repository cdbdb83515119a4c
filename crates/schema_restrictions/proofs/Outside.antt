-- What stands below no list: definitions, and the children of what does, since a pattern has one parent.
use mathlib.Core.Path.{◌≡◌, refl, sym, ◌∙◌, ap, subst}
use mathlib.Core.Bool.{Bool, true, false, false≢true}
use mathlib.Core.Logic.{◌≢◌, ◌⊎◌, inl, inr, ⊎_elim}
use mathlib.Core.List.{List}
use Prim.Native.Nat.{ℕ}
use lib.Dec.{eqb}
use borrow.Author.Tests.{eqb-true}
use Rattle.tables.proofs.Booleans.{or_either}
use Rattle.schema.specs.Kinds as kind
use Rattle.schema.specs.Rows.{kind_of, shape_of, sort_of, is_pattern, is_class}
use Rattle.schema.specs.RowRule.{RowsRight}
use Rattle.schema.specs.declared.Sort.{Sort}
use Rattle.schema.specs.Relations.{Child, Below, child, deeper}
use Rattle.schema.proofs.OneParent.{child_sort, one_parent}
use Rattle.schema_places.specs.Places.{holds_whole}
use Rattle.schema_sequences.specs.Content.{InList}

-- the last step of a way down
pub below_parent : {s : List ℕ} {r l : ℕ} → Below s r l → (q : ℕ) × Child s r q × ((q ≡ l) ⊎ Below s q l)
below_parent {l = l} (child c) = (l, c, inl refl)
below_parent {s} {l = l} (deeper c b) =
    let u = below_parent b in
    (u.0, u.1, inr (⊎_elim (λ e. child (subst (λ (x : ℕ). Child s x l) (sym e) c)) (λ d. deeper c d) u.2))

-- a definition or the start is below nothing
no_sort : (test : Sort → Bool) {x k : ℕ} → x ≡ k → test (shape_of k).sort ≡ false → ¬ (test (shape_of x).sort ≡ true)
no_sort test e f h = false≢true (sym f ∙ sym (ap (λ (k : ℕ). test (shape_of k).sort) e) ∙ h)

pub whole_outside : {s : List ℕ} {r l : ℕ} → holds_whole (kind_of s r) ≡ true → ¬ Below s r l
unfolding shape_of
whole_outside {s} {r} h b =
    go (or_either (eqb (kind_of s r) kind.element) (eqb (kind_of s r) kind.start) h) (child_sort (below_parent b).1)
  where
    go : (eqb (kind_of s r) kind.element ≡ true) ⊎ (eqb (kind_of s r) kind.start ≡ true)
        → (is_pattern (sort_of s r) ≡ true) ⊎ (is_class (sort_of s r) ≡ true) → ⊥
    go (inl e) (inl i) = no_sort is_pattern (eqb-true (kind_of s r) _ e) refl i
    go (inl e) (inr i) = no_sort is_class (eqb-true (kind_of s r) _ e) refl i
    go (inr e) (inl i) = no_sort is_pattern (eqb-true (kind_of s r) _ e) refl i
    go (inr e) (inr i) = no_sort is_class (eqb-true (kind_of s r) _ e) refl i

module _ {strings : ℕ} {s : List ℕ} (right : RowsRight strings s) where
  pub child_outside : {p q : ℕ} → Child s q p → kind_of s p ≢ kind.list → ¬ InList s p → ¬ InList s q
  child_outside {p} {q} c n o h =
      let u = below_parent h.below in
      let e = one_parent right u.1 c in
      ⊎_elim
      (λ f. n (ap (kind_of s) (sym e ∙ f) ∙ h.source))
      (λ b. o (record { row = h.row; source = h.source; below = subst (λ (x : ℕ). Below s x h.row) e b }))
      u.2
