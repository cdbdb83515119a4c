-- Where the parents of the rows before r come before them, an ancestor comes before its descendants.
use mathlib.Core.Path.{◌≡◌, refl, sym, ◌∙◌, ap, subst}
use mathlib.Core.Logic.{◌≢◌}
use mathlib.Core.Bool.{Bool, true, false}
use mathlib.Core.List.{List}
use Prim.Native.Nat.{ℕ, zero, suc, ◌+◌, ◌-◌, ◌≤◌, ◌<◌}
use native.Mathlib.Omega.{arith}
use native.Mathlib.Decide.{dec_lt, ℕ_discrete}
use lib.Dec.{eqb}
use borrow.Author.Tests.{eqb-true, eqb-false}
use borrow.Author.Count.{below_more}
use Rattle.tables.specs.Answers.{Decides}
use Rattle.instance.specs.Nodes.{element, no_parent, kind_of, parent_of}
use Rattle.instance.specs.NodeRule.{max_nodes, nearest, SelfOrAncestor, itself, above, ParentRight}
use Rattle.instance.specs.Walk.{Rooted}

pub sure : {A : Type 0} → Dec A → ¬ (¬ A) → A
sure (yes a) f = a
sure (no g) f = absurd (f g)

-- a fact that holds exactly where two numbers are equal
pub told_by_eqb : {A : Type 0} (a b : ℕ) → (a ≡ b → A) → (a ≢ b → ¬ A) → Decides A (eqb a b)
told_by_eqb {A} a b same other = go (eqb a b) refl
  where
    go : (t : Bool) → eqb a b ≡ t → Decides A t
    go true e = same (eqb-true a b e)
    go false e = other (eqb-false a b e)

pub up_none : {t : List ℕ} {x e : ℕ} → SelfOrAncestor t x e → e ≡ no_parent → x ≡ no_parent
up_none itself z = z
up_none (above f u) z = absurd (f z)

-- an ancestor before e is one of its parent
pub up_parent : {t : List ℕ} {p e : ℕ} → SelfOrAncestor t p e → p < e → SelfOrAncestor t p (parent_of t e)
up_parent itself h = absurd (omega arith)
up_parent (above f u) h = u

pub rooted_none : (t : List ℕ) → Rooted t 0
rooted_none t = record {
  few = omega arith;
  root_kind = λ h. absurd (omega arith);
  root_parent = λ h. absurd (omega arith);
  before = λ q h l. absurd (omega arith);
}

-- what the rule of parents says of row 0 and of a later row
pub root_right : (t : List ℕ) → kind_of t 0 ≡ element → parent_of t 0 ≡ no_parent → ParentRight t 0
unfolding ParentRight
root_right t k p = (k, p)

pub root_told : (t : List ℕ) → ParentRight t 0 → (kind_of t 0 ≡ element) × (parent_of t 0 ≡ no_parent)
unfolding ParentRight
root_told t right = right

later_right : {t : List ℕ} (r : ℕ) → 0 < r → parent_of t r ≢ no_parent
    → SelfOrAncestor t (parent_of t r) (nearest t (r - 1)) → ParentRight t r
unfolding ParentRight
later_right zero h f u = absurd (omega arith)
later_right {t} (suc r) h f u = (f, (let e : suc r - 1 ≡ r = omega arith in rw e at u))

later_told : {t : List ℕ} (r : ℕ) → 0 < r → ParentRight t r
    → (parent_of t r ≢ no_parent) × SelfOrAncestor t (parent_of t r) (nearest t (r - 1))
unfolding ParentRight
later_told zero h right = absurd (omega arith)
later_told {t} (suc r) h right = (
  right.0,
  (let e : r ≡ suc r - 1 = omega arith in
      subst (λ (x : ℕ). SelfOrAncestor t (parent_of t (suc r)) (nearest t x)) e right.1),
)

module _ {t : List ℕ} {r : ℕ} (rooted : Rooted t r) where
  pub up_before : {x e : ℕ} → x ≢ no_parent → SelfOrAncestor t x e → e < r → x ≤ e
  up_before n itself h = omega arith
  up_before {x} {e} n (above f u) h = go (dec_lt 0 e) (λ l. up_before n u l)
    where
      go : Dec (0 < e) → (parent_of t e < r → x ≤ parent_of t e) → x ≤ e
      go (yes z) ih = let b = rooted.before e z h in omega (arith, ih (omega arith))
      go (no z) ih =
          let e₀ : e ≡ 0 = omega arith in
          absurd (n (up_none u (ap (parent_of t) e₀ ∙ rooted.root_parent (omega arith))))

  pub nearest_before : 0 < r → nearest t (r - 1) < r
  nearest_before h = go (eqb (kind_of t (r - 1)) element) refl
    where
      low : Dec (0 < r - 1) → (kind_of t (r - 1) ≡ element → ⊥) → parent_of t (r - 1) < r
      low (yes z) f = let b = rooted.before (r - 1) z (omega arith) in omega arith
      low (no z) f =
          let e : r - 1 ≡ 0 = omega arith in
          absurd (f (ap (kind_of t) e ∙ rooted.root_kind h))

      go : (b : Bool) → eqb (kind_of t (r - 1)) element ≡ b → nearest t (r - 1) < r
      go true e = rw e (omega arith)
      go false e = rw e (low (dec_lt 0 (r - 1)) (eqb-false _ _ e))

  pub parent_before : 0 < r → ParentRight t r → parent_of t r < r
  parent_before h right =
      let told = later_told r h right in
      let low = up_before told.0 told.1 (nearest_before h) in
      omega (arith, nearest_before h)

  pub rooted_more : r < max_nodes → ¬ (¬ ParentRight t r) → Rooted t (r + 1)
  rooted_more l right = record {
    few = omega arith;
    root_kind = λ h. root_kind (dec_lt 0 r);
    root_parent = λ h. root_parent (dec_lt 0 r);
    before = λ q z h. below_more (λ (x : ℕ). 0 < x → parent_of t x < x) r (λ x i y. rooted.before x y i) later q h z;
  }
    where
      later : 0 < r → parent_of t r < r
      later h = sure (dec_lt (parent_of t r) r) (λ f. right (λ p. f (parent_before h p)))

      at_root : ¬ (0 < r) → ParentRight t r → (kind_of t 0 ≡ element) × (parent_of t 0 ≡ no_parent)
      at_root h p = let e : r ≡ 0 = omega arith in root_told t (rw e at p)

      root_kind : Dec (0 < r) → kind_of t 0 ≡ element
      root_kind (yes h) = rooted.root_kind h
      root_kind (no h) = sure (ℕ_discrete (kind_of t 0) element) (λ f. right (λ p. f (at_root h p).0))

      root_parent : Dec (0 < r) → parent_of t 0 ≡ no_parent
      root_parent (yes h) = rooted.root_parent h
      root_parent (no h) = sure (ℕ_discrete (parent_of t 0) no_parent) (λ f. right (λ p. f (at_root h p).1))

  -- a step up from e, where the row looked for comes before e
  pub up_step : {p e f : ℕ} → e < r → p < e → f ≡ parent_of t e
      → (f < e) × (SelfOrAncestor t p f → SelfOrAncestor t p e) × (SelfOrAncestor t p e → SelfOrAncestor t p f)
  up_step {p} {e} {f} h l z =
      let real : e ≢ no_parent = omega (arith, rooted.few) in
      (rw z (rooted.before e (omega arith) h), (λ u. above real (rw z at u)), λ u. rw z (up_parent u l))

  -- the walk up from the nearest element of the row before r, which began at start, ends at e: at the parent of r, or
  -- past it
  module _ {p start e : ℕ} (later : 0 < r) (pe : p ≡ parent_of t r) (se : start ≡ nearest t (r - 1)) (h : e < r) where
    pub open_parent : e ≡ p → (SelfOrAncestor t p e → SelfOrAncestor t p start) → ParentRight t r
    open_parent z from = later_right r later (λ n. omega (arith, rooted.few)) (rw (← pe, ← se) (from (rw z itself)))

    pub closed_parent : e ≢ p → e ≤ p → (SelfOrAncestor t p start → SelfOrAncestor t p e) → ¬ ParentRight t r
    closed_parent f l to right =
        let told = later_told r later right in
        omega (arith, up_before {x = p} (λ z. told.0 (sym pe ∙ z)) (to (rw (pe, se) told.1)) h)
