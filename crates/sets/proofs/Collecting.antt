-- Sets that are collected position by position: the laws of a loop that tests one position after the other.
use mathlib.Core.Path.{◌≡◌, refl, sym, ap, ◌∙◌}
use mathlib.Core.Bool.{Bool, true, false, ◌&&◌, ◌||◌}
use Prim.Native.Nat.{ℕ, zero, suc, ◌+◌, ◌-◌, ◌*◌, ◌/◌, ◌%◌, ◌^◌, ◌<◌, ◌≤◌}
use native.Mathlib.Omega.{arith}
use native.Mathlib.Decide.{dec_lt, ℕ_discrete}
use mathlib.Core.Logic.{◌≢◌}
use lib.Bits.{bit_or}
use lib.Dec.{eqb, ltb}
use borrow.Author.Tests.{lt-ltb, le-ltb, eq-eqb, ne_eqb}
use Rattle.tables.proofs.Numbers.{not_less}
use Rattle.sets.specs.Bits.{positions, flag, bit}
use Rattle.sets.specs.Collecting.{MemberAdded, Collects, CollectsBy}
use Rattle.sets.proofs.Bits.{two_pow, bit-or, bit_none, bit_pow, one_shl}

-- ---- one position more, or none

pub added : (w k : ℕ) {b : Bool} → b ≡ true → MemberAdded w k b (bit_or w (2 ^ k))
added w k e = record { members = λ j. rw (e, bit-or w (2 ^ k) j, bit_pow k j) (itself (bit w j) (eqb j k)) }
  where
    itself : (x y : Bool) → (x || y) ≡ (x || (y && true))
    itself true y = refl
    itself false true = refl
    itself false false = refl

pub not_added : (w k : ℕ) {b : Bool} → b ≡ false → MemberAdded w k b w
not_added w k e = record { members = λ j. rw e (itself (bit w j) (eqb j k)) }
  where
    itself : (x y : Bool) → x ≡ (x || (y && false))
    itself true y = refl
    itself false true = refl
    itself false false = refl

-- ---- the positions before n that pass a test

pub collects_none : (test : ℕ → Bool) → Collects test 0 0
collects_none test = record { members = λ k. rw (bit_none k, le-ltb k 0 (omega arith)) }

module _ (test : ℕ → Bool) where
  below_or_at : (n k : ℕ) → ((ltb k n && test k) || (eqb k n && test n)) ≡ (ltb k (n + 1) && test k)
  below_or_at n k = go (dec_lt k n) (ℕ_discrete k n)
    where
      or_itself : (b : Bool) → (b || false) ≡ b
      or_itself true = refl
      or_itself false = refl

      go : Dec (k < n) → Dec (k ≡ n) → ((ltb k n && test k) || (eqb k n && test n)) ≡ (ltb k (n + 1) && test k)
      go (yes h) d =
          rw (lt-ltb k n h, ne_eqb k n (λ e. omega arith), lt-ltb k (n + 1) (omega arith)) (or_itself (test k))
      go (no f) (yes e) = rw (le-ltb k n (not_less f), eq-eqb k n e, lt-ltb k (n + 1) (omega arith)) (ap test (sym e))
      go (no f) (no g) = let l = not_less f in rw (le-ltb k n l, ne_eqb k n g, le-ltb k (n + 1) (omega arith))

pub collects_more : {test : ℕ → Bool} {n w v : ℕ} {b : Bool} → Collects test n w
    → b ≡ test n → MemberAdded w n b v → Collects test (n + 1) v
collects_more {test} {n} {w} c e a = record { members = λ k. rw (a.members k, c.members k, e) (below_or_at test n k) }

pub collected : {test : ℕ → Bool} {n w k : ℕ} → Collects test n w → k < n → bit w k ≡ test k
collected {n = n} {k = k} c h = rw (lt-ltb k n h) at (c.members k)

-- ---- a test that is asked at each position

module _ {says : ℕ → Bool → Type 0} where
  pub collects_by_none : CollectsBy says 0 0
  collects_by_none = record { before = λ k h. absurd (omega arith); after = λ k h. bit_none k }

  pub collects_by_more : {n w v : ℕ} {b : Bool} → CollectsBy says n w → says n b
      → MemberAdded w n b v → CollectsBy says (n + 1) v
  collects_by_more {n} {w} {v} {b} c s a = record { before = λ k h. go k h (ℕ_discrete k n); after = above }
    where
      none : (x : Bool) → (x || false) ≡ x
      none true = refl
      none false = refl

      same : (k : ℕ) → k ≢ n → bit v k ≡ bit w k
      same k d = a.members k ∙ rw (ne_eqb k n d) (none (bit w k))

      go : (k : ℕ) → k < n + 1 → Dec (k ≡ n) → says k (bit v k)
      go k h (yes e) =
          rw (e, a.members n, c.after n (omega arith), eq-eqb n n refl) s
      go k h (no d) = rw (same k d) (c.before k (omega (arith, h, d)))

      above : (k : ℕ) → n + 1 ≤ k → bit v k ≡ false
      above k h = same k (λ e. omega (arith, h, e)) ∙ c.after k (omega (arith, h))

  -- a test that can say one thing only
  pub collects_by : {test : ℕ → Bool} {n w : ℕ} → ((k : ℕ) (b : Bool) → says k b → b ≡ test k)
      → CollectsBy says n w → Collects test n w
  collects_by {test} {n} {w} told c = record { members = λ k. go k (dec_lt k n) }
    where
      go : (k : ℕ) → Dec (k < n) → bit w k ≡ (ltb k n && test k)
      go k (yes h) = rw (lt-ltb k n h) (told k (bit w k) (c.before k h))
      go k (no f) = let l = not_less f in rw (le-ltb k n l) (c.after k l)

-- ---- all positions before n

ones_odd : (m : ℕ) → 0 < m → (2 * m - 1) % 2 ≡ 1
ones_odd m h = omega arith

ones_half : (m : ℕ) → 0 < m → (2 * m - 1) / 2 ≡ m - 1
ones_half m h = omega arith

pub pow_positive : (n : ℕ) → 0 < 2 ^ n
pow_positive zero = omega arith
pow_positive (suc n) = omega (arith, two_pow n, pow_positive n)

bit_ones : (n k : ℕ) → bit (2 ^ n - 1) k ≡ ltb k n
unfolding bit
bit_ones zero k = bit_none k ∙ sym (le-ltb k 0 (omega arith))
bit_ones (suc n) zero =
    rw (two_pow n) (ap flag (ones_odd (2 ^ n) (pow_positive n))) ∙ sym (lt-ltb 0 (suc n) (omega arith))
bit_ones (suc n) (suc k) =
    rw (two_pow n) (ap (λ (x : ℕ). bit x k) (ones_half (2 ^ n) (pow_positive n))) ∙ bit_ones n k ∙ go (dec_lt k n)
  where
    go : Dec (k < n) → ltb k n ≡ ltb (suc k) (suc n)
    go (yes h) = lt-ltb k n h ∙ sym (lt-ltb (suc k) (suc n) (omega arith))
    go (no h) = let l = not_less h in le-ltb k n l ∙ sym (le-ltb (suc k) (suc n) (omega arith))

with_true : (b : Bool) → b ≡ (b && true)
with_true true = refl
with_true false = refl

pub collects_all : (n : ℕ) → n < positions → Collects (λ k. true) n ((1 * 2 ^ n) % 2 ^ 64 - 1)
collects_all n h = record { members = λ k. rw (one_shl n h) (bit_ones n k ∙ with_true (ltb k n)) }
