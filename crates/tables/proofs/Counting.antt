-- What a table of counts holds after one more was counted.
use Prim.Native.Nat.{ℕ, ◌+◌, ◌≤◌, ◌<◌}
use mathlib.Core.Path.{◌≡◌, refl, sym, ◌∙◌, ap}
use mathlib.Core.Bool.{Bool, true, false, cond, ◌&&◌}
use mathlib.Core.List.{List}
use native.Mathlib.Decide.{dec_lt, ℕ_discrete}
use native.Mathlib.Omega.{arith}
use lib.Dec.{eqb}
use lib.ListN.{length, get_or, set, length-set, get_or-eq_default}
use lib.Seq.{get_or-set_same, get_or-set_other}
use borrow.Author.Tests.{eq-eqb, ne_eqb}
use Rattle.tables.specs.Counting.{counted}
use Rattle.tables.proofs.Numbers.{one_or_none}

pub length_counted : (wanted : Bool) (x : ℕ) (counts : List ℕ) → length (counted wanted x counts) ≡ length counts
length_counted true x counts = length-set counts x _
length_counted false x counts = refl

-- one more at place x where it is wanted, and the same as before at every other place
pub get_or_counted : (wanted : Bool) (x : ℕ) (counts : List ℕ) (r : ℕ) → r < length counts
    → get_or (counted wanted x counts) r 0 ≡ get_or counts r 0 + cond (wanted && eqb x r) 1 0
get_or_counted true x counts r h = go (ℕ_discrete r x)
  where
    go : Dec (r ≡ x) → get_or (set counts x (get_or counts x 0 + 1)) r 0 ≡ get_or counts r 0 + cond (eqb x r) 1 0
    go (yes e) = rw (e, eq-eqb x x refl) (get_or-set_same counts x _ 0 (omega (arith, h, e)))
    go (no f) = rw (ne_eqb x r (λ e. f (sym e))) (get_or-set_other counts x r _ 0 f ∙ omega arith)
get_or_counted false x counts r h = omega arith

-- a bound of the counts in the table is one of every place: past the end 0 is read
pub low_everywhere : (counts : List ℕ) {most : ℕ} → ((r : ℕ) → r < length counts → get_or counts r 0 ≤ most)
    → (r : ℕ) → get_or counts r 0 ≤ most
low_everywhere counts {most} low r = go (dec_lt r (length counts))
  where
    go : Dec (r < length counts) → get_or counts r 0 ≤ most
    go (yes h) = low r h
    go (no h) = let e = get_or-eq_default counts 0 {n = r} (omega arith) in rw e (omega arith)

-- counting once raises a bound by one at most
pub counted_low : (wanted : Bool) (x : ℕ) (counts : List ℕ) {after : List ℕ} {most : ℕ}
    → after ≡ counted wanted x counts → ((r : ℕ) → get_or counts r 0 ≤ most) → (r : ℕ) → get_or after r 0 ≤ most + 1
counted_low wanted x counts {after} {most} e low =
    low_everywhere after (λ r h. rw e (go r (omega (arith, h, ap length e))))
  where
    go : (r : ℕ) → r < length (counted wanted x counts) → get_or (counted wanted x counts) r 0 ≤ most + 1
    go r h =
        let l : r < length counts = omega (arith, h, length_counted wanted x counts) in
        rw (get_or_counted wanted x counts r l) (omega (arith, low r, one_or_none (wanted && eqb x r) refl))
