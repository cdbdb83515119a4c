-- Subsets of a set of rows or positions by a test.
use Prim.Native.Nat.{ℕ}
use mathlib.Core.Path.{◌≡◌, refl, ap, sym, ◌∙◌, fun_ext}
use mathlib.Core.Bool.{Bool, true, false, not, ◌&&◌, ◌||◌, true≢false, or_comm}
use lib.Dec.{eqb}
use borrow.Author.Tests.{eqb-true, eqb-false, eq-eqb, not-true}
use Rattle.tables.proofs.Booleans.{or_left, or_right, and_right, is_false}
use Rattle.matching_rules.specs.Items.{Attributes, no_attributes, only, ◌∪◌}

-- a set with no member, and one with a single member
pub no_member : (A : Attributes) → ((x : ℕ) → ¬ (A x ≡ true)) → A ≡ no_attributes
no_member A h = fun_ext (λ x. is_false (A x) (h x))

pub sole_member : (A : Attributes) (x : ℕ) → A x ≡ true → ((y : ℕ) → A y ≡ true → x ≡ y) → A ≡ only x
sole_member A x h f = fun_ext (λ y. go (A y) (eqb x y) (λ e. eq-eqb x y (f y e)) (λ e. rw (eqb-true x y e) at h))
  where
    go : (a c : Bool) → (a ≡ true → c ≡ true) → (c ≡ true → a ≡ true) → a ≡ c
    go true c f g = sym (f refl)
    go false true f g = g refl
    go false false f g = refl

-- the members that pass a test, and those that do not
infixl 61 ◌∩◌
abbrev pub ◌∩◌ : (ℕ → Bool) → (ℕ → Bool) → ℕ → Bool
◌∩◌ A P x = A x && P x

infixl 61 ◌∖◌
abbrev pub ◌∖◌ : (ℕ → Bool) → (ℕ → Bool) → ℕ → Bool
◌∖◌ A P x = A x && not (P x)

pub ∖-only : (A : ℕ → Bool) (y x : ℕ) → (A ∖ only y) x ≡ true → ¬ (y ≡ x)
∖-only A y x h = eqb-false y x (not-true (eqb y x) (and_right (A x) (not (eqb y x)) h))

-- the two make the set
pub both_parts : (A P : ℕ → Bool) → A ≡ A ∩ P ∪ A ∖ P
both_parts A P = fun_ext (λ x. go (A x) (P x))
  where
    go : (a p : Bool) → a ≡ (a && p || a && not p)
    go true true = refl
    go true false = refl
    go false p = refl

-- and a union whose sides the test tells apart is no other
pub first_part : (P : ℕ → Bool) {A a b : Attributes} → A ≡ a ∪ b
    → ((x : ℕ) → a x ≡ true → P x ≡ true) → ((x : ℕ) → b x ≡ true → P x ≡ false) → a ≡ A ∩ P
first_part P {A} {a} {b} e f g = fun_ext (λ x. go (a x) (b x) (A x) (P x) (ap (λ (s : Attributes). s x) e) (f x) (g x))
  where
    go : (a b c p : Bool) → c ≡ (a || b) → (a ≡ true → p ≡ true) → (b ≡ true → p ≡ false) → a ≡ (c && p)
    go true b c p e f g = rw (e, f refl)
    go false true c p e f g = rw (e, g refl)
    go false false c p e f g = rw e

pub second_part : (P : ℕ → Bool) {A a b : Attributes} → A ≡ a ∪ b
    → ((x : ℕ) → a x ≡ true → P x ≡ true) → ((x : ℕ) → b x ≡ true → P x ≡ false) → b ≡ A ∖ P
second_part P {A} {a} {b} e f g =
    first_part (λ x. not (P x)) (e ∙ fun_ext (λ x. or_comm (a x) (b x))) (λ x h. ap not (g x h)) (λ x h. ap not (f x h))

-- a member and the others make the set
pub one_and_rest : (A : Attributes) (y : ℕ) → A y ≡ true → only y ∪ A ∖ only y ≡ A
one_and_rest A y h = fun_ext (λ x. go (eqb y x) (A x) (λ e. rw (eqb-true y x e) at h))
  where
    go : (c a : Bool) → (c ≡ true → a ≡ true) → (c || a && not c) ≡ a
    go true a f = sym (f refl)
    go false true f = refl
    go false false f = refl

-- the union is empty only where both sides are
pub none_left : (a b : Attributes) → a ∪ b ≡ no_attributes → a ≡ no_attributes
none_left a b e = no_member a (λ x h. true≢false (sym (or_left (b x) h) ∙ ap (λ (s : Attributes). s x) e))

pub none_right : (a b : Attributes) → a ∪ b ≡ no_attributes → b ≡ no_attributes
none_right a b e = no_member b (λ x h. true≢false (sym (or_right (a x) h) ∙ ap (λ (s : Attributes). s x) e))
