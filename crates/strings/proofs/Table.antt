-- Laws of the string table: with all ends right a string lies within the bytes, and only repeated texts can be wrong.
use mathlib.Core.Path.{◌≡◌, refl, ap}
use mathlib.Core.Logic.{◌≢◌}
use mathlib.Core.List.{List}
use Prim.Native.Nat.{ℕ, zero, suc, ◌+◌, ◌-◌, ◌≤◌, ◌<◌}
use native.Mathlib.Nat.{le_trans}
use native.Mathlib.Omega.{arith}
use lib.ListN.{length}
use Rattle.tables.specs.Answers.{Clear}
use Rattle.tables.specs.Tables.{StringTable}
use Rattle.tables.proofs.Numbers.{not_less}
use Rattle.strings.specs.Strings.{start_of, end_of, max_strings, max_bytes, Falls, RepeatsText, FrontFault, EndFault}
use Rattle.strings.specs.Strings.{StringFault, StringsRight, bad_end, repeated, no_string, too_many_strings}
use Rattle.strings.specs.Strings.{too_many_bytes, first_not_empty, at_front, end_falls, last_end_wrong}

-- a string other than the first starts at the end of the one before
pub start_after : (ends : List ℕ) (k : ℕ) → k ≢ 0 → start_of ends k ≡ end_of ends (k - 1)
start_after ends zero h = absurd (h refl)
start_after ends (suc k) h = let e : k ≡ suc k - 1 = omega arith in ap (end_of ends) e

-- the counts keep their limits, and string 0 is empty
pub front_right : {T : StringTable} → length T.ends ≢ 0 → length T.ends ≤ max_strings
    → length T.bytes ≤ max_bytes → end_of T.ends 0 ≡ 0 → (k : ℕ) → ¬ FrontFault T k
front_right some few short first k (no_string e z) = some e
front_right some few short first k (too_many_strings h z) = omega arith
front_right some few short first k (too_many_bytes h z) = omega arith
front_right some few short first k (first_not_empty w z) = w first

module _ {T : StringTable} (front : (k : ℕ) → ¬ FrontFault T k) where
  pub some_string : length T.ends ≢ 0
  some_string e = front 0 (no_string e refl)

  pub few_strings : length T.ends ≤ max_strings
  few_strings = not_less (λ h. front 0 (too_many_strings h refl))

  pub few_bytes : length T.bytes ≤ max_bytes
  few_bytes = not_less (λ h. front 0 (too_many_bytes h refl))

  -- the ends before n are right if none of them falls and the last one, if it is among them, is the byte count
  pub ends_right : (n : ℕ) → Clear (Falls T.ends) n
      → ((k : ℕ) → k < n → suc k ≡ length T.ends → end_of T.ends k ≡ length T.bytes) → Clear (EndFault T) n
  ends_right n rise last k h (at_front f) = front k f
  ends_right n rise last k h (end_falls f) = rise k h f
  ends_right n rise last k h (last_end_wrong e w) = w (last k h e)

pub ends_of : {T : StringTable} → StringsRight T → (k : ℕ) → ¬ EndFault T k
ends_of right k f = right k (bad_end f)

-- where all ends are right a string lies within the bytes, and a fault can only be a repeated text
module _ {T : StringTable} (right : (k : ℕ) → ¬ EndFault T k) where
  pub start_before_end : (k : ℕ) → k < length T.ends → start_of T.ends k ≤ end_of T.ends k
  start_before_end k h = not_less (λ f. right k (end_falls (h, f)))

  pub end_within : (d k : ℕ) → k + suc d ≡ length T.ends → end_of T.ends k ≤ length T.bytes
  end_within zero k e = not_less (λ l. right k (last_end_wrong (omega arith) (λ q. omega arith)))
  end_within (suc d) k e = le_trans (start_before_end (suc k) (omega arith)) (end_within d (suc k) (omega arith))

  pub only_repeats : (k : ℕ) → StringFault T k → RepeatsText T k
  only_repeats k (bad_end f) = absurd (right k f)
  only_repeats k (repeated r f) = f

-- a fault that is placed at string 0 comes first
pub first_at_front : {T : StringTable} {k : ℕ} → FrontFault T k → k ≡ 0
first_at_front (no_string e z) = z
first_at_front (too_many_strings e z) = z
first_at_front (too_many_bytes e z) = z
first_at_front (first_not_empty e z) = z

-- the first wrong end is the first fault: no repeated text counts beside it
pub first_bad_end : {T : StringTable} {place : ℕ} → EndFault T place
    → Clear (EndFault T) place → StringFault T place × Clear (StringFault T) place
first_bad_end {T} {place} wrong clear = (bad_end wrong, before)
  where
    before : Clear (StringFault T) place
    before k h (bad_end f) = clear k h f
    before k h (repeated right f) = right place wrong
