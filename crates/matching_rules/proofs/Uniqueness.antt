-- A rising list that holds exactly the pairs of a relation is unique.
use mathlib.Core.Path.{◌≡◌, refl, sym, ◌∙◌, ap₂, subst}
use mathlib.Core.Logic.{inl, inr, ⊎_elim}
use mathlib.Core.List.Memᴰ
use mathlib.Core.List.{List, [], ◌∷◌, Memᴰ}
use Prim.Native.Nat.{ℕ}
use native.Mathlib.Omega.{arith}
use Rattle.matching_rules.specs.Listed.{Precedes, Rising, rising_none, rising_one, rising_more, Lists}

precedes_trans : (x y z : ℕ × ℕ) → Precedes x y → Precedes y z → Precedes x z
precedes_trans x y z (inl h) (inl l) = inl (omega arith)
precedes_trans x y z (inl h) (inr l) = inl (omega (arith, l.0))
precedes_trans x y z (inr h) (inl l) = inl (omega (arith, h.0))
precedes_trans x y z (inr h) (inr l) = inr (h.0 ∙ l.0, omega (arith, h.1, l.1))

precedes_not_self : (x : ℕ × ℕ) → ¬ Precedes x x
precedes_not_self x (inl h) = omega arith
precedes_not_self x (inr h) = omega (arith, h.1)

rising_rest : {x : ℕ × ℕ} {l : List (ℕ × ℕ)} → Rising (x ∷ l) → Rising l
rising_rest rising_one = rising_none
rising_rest (rising_more h r) = r

-- the first pair precedes the others
first_precedes : {x y : ℕ × ℕ} {l : List (ℕ × ℕ)} → Rising (x ∷ l) → Memᴰ y l → Precedes x y
first_precedes {y = y} rising_one x8 = elim x8 [ ]
first_precedes {x} {y} (rising_more {y = z} h r) (Memᴰ.head e) = subst (Precedes x) (sym e) h
first_precedes {x} {y} (rising_more {y = z} h r) (Memᴰ.tail m) = precedes_trans x z y h (first_precedes r m)

-- the members of one list are members of another
abbrev Inside : List (ℕ × ℕ) → List (ℕ × ℕ) → Type 0
Inside l m = (y : ℕ × ℕ) → Memᴰ y l → Memᴰ y m

-- of two lists with one first pair the rest of one is inside the rest of the other if the lists are so
inside_rest : {x y : ℕ × ℕ} {l m : List (ℕ × ℕ)} → x ≡ y → Rising (x ∷ l) → Inside (x ∷ l) (y ∷ m) → Inside l m
inside_rest {x} {y} {l} {m} e r i z h =
    ⊎_elim (λ f. absurd (precedes_not_self z (subst (λ (w : ℕ × ℕ). Precedes w z) (e ∙ sym f) (first_precedes r h))))
    (λ k. k) (Memᴰ.cases_cons (i z (Memᴰ.tail h)))

same_members : (l m : List (ℕ × ℕ)) → Rising l → Rising m → Inside l m → Inside m l → l ≡ m
same_members [] [] r q i j = refl
same_members [] (y ∷ m) r q i j = absurd (Memᴰ.not-nil (j y (Memᴰ.head refl)))
same_members (x ∷ l) [] r q i j = absurd (Memᴰ.not-nil (i x (Memᴰ.head refl)))
same_members (x ∷ l) (y ∷ m) r q i j =
    ap₂ ◌∷◌ first
    (same_members l m (rising_rest r) (rising_rest q) (inside_rest first r i) (inside_rest (sym first) q j))
  where
    first : x ≡ y
    first =
        ⊎_elim (λ e. e) (λ h. ⊎_elim (λ e. sym e)
        (λ k. absurd (precedes_not_self x (precedes_trans x y x (first_precedes r k) (first_precedes q h))))
        (Memᴰ.cases_cons (j y (Memᴰ.head refl))))
        (Memᴰ.cases_cons (i x (Memᴰ.head refl)))

pub unique : {P : ℕ → ℕ → Type 0} {l m : List (ℕ × ℕ)} → Rising l → Lists P l → Rising m → Lists P m → l ≡ m
unique {l = l} {m} r p q i =
    same_members l m r q (λ y h. i.complete y.0 y.1 (p.sound y.0 y.1 h))
    (λ y h. p.complete y.0 y.1 (i.sound y.0 y.1 h))
