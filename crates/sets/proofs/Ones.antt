-- The count of members is 1 exactly when there is one member.
use mathlib.Core.Path.{◌≡◌, refl, sym, ap, ◌∙◌}
use mathlib.Core.Bool.{Bool, true, false, false≢true}
use mathlib.Core.Logic.{◌↔◌}
use Prim.Native.Nat.{ℕ, zero, suc, ◌/◌, ◌%◌, ◌<◌}
use native.Mathlib.Omega.{arith}
use lib.Arith.{bin_ind}
use lib.Count.{ones, ones_step, ones-le}
use Rattle.sets.specs.Bits.{flag, bit, Only}
use Rattle.sets.proofs.Bits.{bit_empty}
use Rattle.sets.proofs.Members.{none_has}

ones_zero : ones 0 ≡ 0
ones_zero = omega (arith, ones-le 0 0 (omega arith))

ones_none : (s : ℕ) → ones s ≡ 0 → s ≡ 0
ones_none =
    bin_ind (λ (n : ℕ). ones n ≡ 0 → n ≡ 0) (λ e. refl)
    (λ n ih e. omega (arith, ones_step n, ih (omega (arith, ones_step n))))

odd : (x : ℕ) → flag x ≡ true → x < 2 → x ≡ 1
odd zero e h = absurd (false≢true e)
odd (suc x) e h = omega arith

-- the one member of a set whose lowest digit is 0, and of one whose lowest digit is 1
module _ (s : ℕ) where
  only_above : {k : ℕ} → s % 2 ≡ 0 → Only (s / 2) k → Only s (suc k)
  unfolding bit
  only_above {k} e o = record { member = o.member; only = other }
    where
      other : (j : ℕ) → bit s j ≡ true → j ≡ suc k
      other zero t = absurd (false≢true (sym (ap flag e) ∙ t))
      other (suc j) t = ap suc (o.only j t)

  only_lowest : {r : ℕ} → s % 2 ≡ suc r → s / 2 ≡ 0 → Only s 0
  unfolding bit
  only_lowest e z = record { member = ap flag e; only = other }
    where
      other : (j : ℕ) → bit s j ≡ true → j ≡ 0
      other zero t = refl
      other (suc j) t = absurd (none_has j (sym (ap (λ (x : ℕ). bit x j) z) ∙ t))

  above_only : {k r : ℕ} → s % 2 ≡ r → Only s (suc k) → (r ≡ 0) × Only (s / 2) k
  unfolding bit
  above_only {r = zero} e o = (refl, record { member = o.member; only = λ j t. omega (arith, o.only (suc j) t) })
  above_only {r = suc r} e o = absurd (omega (arith, o.only 0 (ap flag e)))

  lowest_only : Only s 0 → (s % 2 ≡ 1) × (s / 2 ≡ 0)
  unfolding bit
  lowest_only o = (odd (s % 2) o.member (omega arith), (bit_empty (s / 2)).0 (λ k. other k (bit (s / 2) k) refl))
    where
      other : (k : ℕ) (b : Bool) → bit (s / 2) k ≡ b → bit (s / 2) k ≡ false
      other k true e = absurd (omega (arith, o.only (suc k) e))
      other k false e = e

only_ones : (k s : ℕ) → Only s k → ones s ≡ 1
only_ones zero s o = let l = lowest_only s o in omega (arith, ones_step s, l.0, ap ones l.1, ones_zero)
only_ones (suc k) s o = let l = above_only s refl o in omega (arith, ones_step s, l.0, only_ones k (s / 2) l.1)

ones_only : (s : ℕ) → ones s ≡ 1 → (k : ℕ) × Only s k
ones_only = bin_ind (λ (n : ℕ). ones n ≡ 1 → (k : ℕ) × Only n k) (λ e. absurd (omega (arith, ones_zero))) half
  where
    half : (n : ℕ) → (ones (n / 2) ≡ 1 → (k : ℕ) × Only (n / 2) k) → ones n ≡ 1 → (k : ℕ) × Only n k
    half n ih e = go (n % 2) refl
      where
        go : (r : ℕ) → n % 2 ≡ r → (k : ℕ) × Only n k
        go zero q = let o = ih (omega (arith, ones_step n)) in (suc o.0, only_above n q o.1)
        go (suc r) q = (0, only_lowest n q (ones_none (n / 2) (omega (arith, ones_step n))))

pub one_member : (s : ℕ) → (ones s ≡ 1) ↔ ((k : ℕ) × Only s k)
one_member s = (ones_only s, λ o. only_ones o.0 s o.1)
