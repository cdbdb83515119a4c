-- The rows of an element's descendants stand together right after it: past the first row whose parent comes before the
-- element it has no child.
use Prim.Native.Nat.{ℕ, zero, suc, ◌+◌, ◌-◌, ◌≤◌, ◌<◌}
use mathlib.Core.Path.{◌≡◌, refl}
use mathlib.Core.Bool.{Bool, true, false}
use mathlib.Core.List.{List, append-nil}
use native.Mathlib.Omega.{arith}
use lib.Dec.{eqb}
use Rattle.instance.specs.Nodes.{element, nodes_of, kind_of, parent_of, is_child}
use Rattle.instance.specs.NodeRule.{nearest, SelfOrAncestor, itself, above, NodesRight}
use Rattle.instance.specs.Elements.{rows_where}
use Rattle.instance.proofs.Ancestors.{up_before, up_parent}
use Rattle.instance.proofs.Elements.{rooted, few, parent_up}
use Rattle.instance.proofs.Order.{child_parent}
use Rattle.tables.proofs.Booleans.{is_false}

up_trans : {t : List ℕ} {p q e : ℕ} → SelfOrAncestor t p q → SelfOrAncestor t q e → SelfOrAncestor t p e
up_trans u itself = u
up_trans u (above f v) = above f (up_trans u v)

-- the nearest element of a row after e is below e only where the row's parent is
nearest_parent : {t : List ℕ} {e r : ℕ} → e < r → SelfOrAncestor t e (nearest t r) → SelfOrAncestor t e (parent_of t r)
nearest_parent {t} {e} {r} h u = go (eqb (kind_of t r) element) refl
  where
    go : (b : Bool) → eqb (kind_of t r) element ≡ b → SelfOrAncestor t e (parent_of t r)
    go true q = up_parent (rw q at u) h
    go false q = rw q at u

module _ {strings : ℕ} {t : List ℕ} (right : NodesRight strings t) {e r : ℕ}
    (after : e < r) (within : r < nodes_of t) (out : parent_of t r < e) where
  not_below : (k : ℕ) → r + k < nodes_of t → ¬ SelfOrAncestor t e (nearest t (r + k))
  not_below zero h u =
      let same : r + 0 ≡ r = omega arith in
      let low = up_before (rooted right) (λ z. omega (arith, few right))
      (nearest_parent after (rw same at u)) (omega arith) in
      omega arith
  not_below (suc k) h u =
      let next : r + suc k ≡ suc (r + k) = omega arith in
      parent_up right (r + k) (omega arith)
      (λ v. not_below k (omega arith) (up_trans (nearest_parent (omega arith) (rw next at u)) v))

  no_child_from : (k : ℕ) → r + k < nodes_of t → ¬ (parent_of t (r + k) ≡ e)
  no_child_from zero h p =
      let same : r + 0 ≡ r = omega arith in
      let q = rw same at p in
      omega arith
  no_child_from (suc k) h p =
      let next : r + suc k ≡ suc (r + k) = omega arith in
      parent_up right (r + k) (omega arith) (λ v. not_below k (omega arith) (rw (rw next at p) at v))

  no_child_past : (x : ℕ) → r ≤ x → x < nodes_of t → is_child t e x ≡ false
  no_child_past x h l =
      let same : x ≡ r + (x - r) = omega arith in
      is_false (is_child t e x) (λ b. no_child_from (x - r) (rw same at l) (rw same at (child_parent t e x b)))

-- rows that are not listed past r may be left out
rows_to : (test : ℕ → Bool) (r k : ℕ) → ((x : ℕ) → r ≤ x → x < r + k → test x ≡ false)
    → rows_where test (r + k) ≡ rows_where test r
unfolding rows_where
rows_to test r zero f = let same : r + 0 ≡ r = omega arith in rw same
rows_to test r (suc k) f =
    let next : r + suc k ≡ suc (r + k) = omega arith in
    rw (next, f (r + k) (omega arith) (omega arith), append-nil) (rows_to test r k (λ x h l. f x h (omega arith)))

pub children_to : {strings : ℕ} {t : List ℕ} → NodesRight strings t → {e r : ℕ} → e < r → r < nodes_of t
    → parent_of t r < e → rows_where (is_child t e) (nodes_of t) ≡ rows_where (is_child t e) r
children_to {t = t} right {e} {r} after within out =
    let same : nodes_of t ≡ r + (nodes_of t - r) = omega arith in
    rw same
    (rows_to (is_child t e) r (nodes_of t - r) (λ x h l. no_child_past right after within out x h (omega arith)))
