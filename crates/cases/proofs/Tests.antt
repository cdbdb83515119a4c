-- Tests of all or some numbers less than a bound, and what they show.
use Prim.Native.Nat.{ℕ, zero, suc, ◌<◌}
use mathlib.Core.Path.{◌≡◌, refl, sym, ◌∙◌, ap}
use mathlib.Core.Bool.{Bool, true, false, not, false≢true, true≢false}
use native.Mathlib.Decide.{ℕ_discrete}
use native.Mathlib.Omega.{arith}

unfoldable pub every_below : (ℕ → Bool) → ℕ → Bool
every_below t zero = true
every_below t (suc n) = elim (t n) [ true ↦ every_below t n | false ↦ false ]

pub every_below_lem : (t : ℕ → Bool) (n : ℕ) → every_below t n ≡ true → (k : ℕ) → k < n → t k ≡ true
unfolding every_below
every_below_lem t zero e k h = absurd (omega arith)
every_below_lem t (suc n) e k h = go (t n) refl e (ℕ_discrete k n) (λ i. every_below_lem t n i k)
  where
    go : (b : Bool) → t n ≡ b → elim b [ true ↦ every_below t n | false ↦ false ] ≡ true
        → Dec (k ≡ n) → (every_below t n ≡ true → k < n → t k ≡ true) → t k ≡ true
    go true f i (yes z) rest = ap t z ∙ f
    go true f i (no z) rest = rest i (omega arith)
    go false f i d rest = absurd (false≢true i)

pub below_every : (t : ℕ → Bool) (n : ℕ) → ((k : ℕ) → k < n → t k ≡ true) → every_below t n ≡ true
unfolding every_below
below_every t zero f = refl
below_every t (suc n) f = rw (f n (omega arith), every_below) (below_every t n (λ k h. f k (omega arith)))

unfoldable pub some_below : (ℕ → Bool) → ℕ → Bool
some_below t zero = false
some_below t (suc n) = elim (t n) [ true ↦ true | false ↦ some_below t n ]

pub some_below_lem : (t : ℕ → Bool) (n k : ℕ) → k < n → t k ≡ true → some_below t n ≡ true
unfolding some_below
some_below_lem t zero k h e = absurd (omega arith)
some_below_lem t (suc n) k h e = go (t n) refl (ℕ_discrete k n) (λ i. some_below_lem t n k i e)
  where
    go : (b : Bool) → t n ≡ b → Dec (k ≡ n) → (k < n → some_below t n ≡ true)
        → elim b [ true ↦ true | false ↦ some_below t n ] ≡ true
    go true f d rest = refl
    go false f (yes z) rest = absurd (true≢false (sym e ∙ ap t z ∙ f))
    go false f (no z) rest = rest (omega arith)

pub below_some : (t : ℕ → Bool) (n : ℕ) → some_below t n ≡ true → (k : ℕ) × (k < n) × (t k ≡ true)
unfolding some_below
below_some t zero e = absurd (false≢true e)
below_some t (suc n) e = go (t n) refl e (below_some t n)
  where
    go : (b : Bool) → t n ≡ b → elim b [ true ↦ true | false ↦ some_below t n ] ≡ true
        → (some_below t n ≡ true → (k : ℕ) × (k < n) × (t k ≡ true)) → (k : ℕ) × (k < suc n) × (t k ≡ true)
    go true f i rest = (n, omega arith, f)
    go false f i rest = let x = rest i in let l = x.1 in (x.0, omega arith, x.2)

pub no_of : {b : Bool} → not b ≡ true → ¬ (b ≡ true)
no_of {b = true} e f = false≢true e
no_of {b = false} e f = false≢true f

-- a second test, made only where the first succeeds
pub guarded : (b : Bool) {x : Bool} → b ≡ true → x ≡ true → elim b [ true ↦ x | false ↦ false ] ≡ true
guarded true e f = f
guarded false e f = e

pub unguarded : (b x : Bool) → elim b [ true ↦ x | false ↦ false ] ≡ true → (b ≡ true) × (x ≡ true)
unguarded true x e = (refl, e)
unguarded false x e = absurd (false≢true e)
