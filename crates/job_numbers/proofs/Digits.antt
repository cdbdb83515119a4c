-- What a digit is, digits that make a number which is too large, and when a word is a number.
use mathlib.Core.Path.{◌≡◌, refl}
use mathlib.Core.Logic.{◌≢◌}
use mathlib.Core.Bool.{Bool, true, false, ◌&&◌}
use mathlib.Core.List.{List, [], ◌∷◌}
use Rattle.std.specs.Prelude.{None, Some}
use Prim.Native.Nat.{ℕ, ◌+◌, ◌-◌, ◌*◌, ◌≤◌, ◌<◌}
use native.Mathlib.Nat.{le_trans}
use native.Mathlib.Omega.{arith}
use lib.ListN.{length, get_or}
use borrow.Author.Tests.{le-leb, lt-leb, eq-eqb, ne_eqb}
use Rattle.job.specs.Numbers.{is_digit, all_digits, no_leading_zero, value_from, number_of, word_of}
use Rattle.job.specs.Numbers.{largest_number, largest_word}
use Rattle.job_numbers.specs.Answers.{digits_of}

and_false : (a : Bool) → a && false ≡ false
and_false true = refl
and_false false = refl

is_digit_lem : (c : ℕ) → 48 ≤ c → c ≤ 57 → is_digit c ≡ true
is_digit_lem c h l = rw (le-leb 48 c h, le-leb c 57 l)

value_grows : (n : ℕ) (l : List ℕ) → n ≤ value_from n l
value_grows n [] = omega arith
value_grows n (c ∷ l) = le_trans (omega arith) (value_grows (n * 10 + (c - 48)) l)

-- a number that is too large stays so, since digits never make it smaller
pub digits_over : (n : ℕ) (l : List ℕ) → largest_number < n → digits_of n l ≡ None
digits_over n l h =
    rw (lt-leb (value_from n l) largest_number (le_trans h (value_grows n l)), and_false (all_digits l))

-- and so it is where the next digit makes it too large
pub next_over : (n c : ℕ) (l : List ℕ) → largest_number < n * 10 + (c - 48) → digits_of n (c ∷ l) ≡ None
next_over n c l h =
    rw (
      lt-leb (value_from n (c ∷ l)) largest_number (le_trans h (value_grows (n * 10 + (c - 48)) l)),
      and_false (all_digits (c ∷ l)),
    )

pub no_number : (l : List ℕ) → no_leading_zero l ≡ false → number_of l ≡ None
no_number l e = rw e

-- `-` is a word alone
pub word_long : (l : List ℕ) → length l ≢ 1 → word_of l ≡ number_of l
word_long [] n = refl
word_long (c ∷ []) n = absurd (n refl)
word_long (c ∷ d ∷ l) n = refl

pub word_largest : (l : List ℕ) → length l ≡ 1 → get_or l 0 0 ≡ 45 → word_of l ≡ Some largest_word
word_largest [] e f = absurd (omega arith)
word_largest (c ∷ []) e f = rw (eq-eqb c 45 f)
word_largest (c ∷ d ∷ l) e f = absurd (omega arith)

pub word_digit : (l : List ℕ) → length l ≡ 1 → get_or l 0 0 ≢ 45 → word_of l ≡ number_of l
word_digit [] e f = refl
word_digit (c ∷ []) e f = rw (ne_eqb c 45 f)
word_digit (c ∷ d ∷ l) e f = refl
