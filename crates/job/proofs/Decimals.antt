-- Words as text: how they are written digit by digit, how long they are, and that they read back.
use mathlib.Core.Path.{◌≡◌, refl, ◌∙◌, ap, subst}
use mathlib.Core.Logic.{◌⊎◌, inl, inr, ⊎_elim}
use mathlib.Core.Bool.{Bool, true, false, cond, ◌&&◌}
use mathlib.Core.List.{List, [], ◌∷◌, ◌++◌}
use Rattle.std.specs.Prelude.{Some}
use Prim.Native.Nat.{ℕ, zero, suc, ◌+◌, ◌-◌, ◌*◌, ◌/◌, ◌%◌, ◌^◌, ◌<◌, ◌≤◌}
use native.Mathlib.Nat.{div-add-mod', pow-suc, eq-zero-or-pos}
use native.Mathlib.Omega.{arith}
use lib.ListN.{length, length-append}
use lib.Dec.{ltb, eqb}
use borrow.Author.Tests.{lt-ltb, le-ltb, le-leb, ne_eqb, ltb-true, ltb-false, eqb-true, eqb-false}
use Rattle.job.specs.Numbers.{largest_word, largest_number, decimal_by, decimal, word_text, is_digit}
use Rattle.job.specs.Numbers.{all_digits, no_leading_zero, value_from, number_of, word_of}

pub lt_or_ge : (a b : ℕ) → (a < b) ⊎ (b ≤ a)
lt_or_ge a b = go (ltb a b) refl
  where
    go : (t : Bool) → ltb a b ≡ t → (a < b) ⊎ (b ≤ a)
    go true e = inl (ltb-true a b e)
    go false e = inr (ltb-false a b e)

-- room for more digits than there are makes no difference
stable : (k n : ℕ) → n < 10 ^ suc k → decimal_by (suc k) n ≡ decimal_by (suc (suc k)) n
unfolding decimal_by
stable zero n h = let h' : n < 10 = h in rw (lt-ltb n 10 h')
stable (suc k) n h =
    let h' : n < 10 ^ suc k * 10 = rw pow-suc at h in
    ap (λ l. cond (ltb n 10) ((48 + n) ∷ []) (l ++ (48 + n % 10) ∷ [])) (stable k (n / 10) (omega arith))

by_more : (k n : ℕ) → 10 ≤ n → decimal_by (suc k) n ≡ decimal_by k (n / 10) ++ (48 + n % 10) ∷ []
unfolding decimal_by
by_more k n l = rw (le-ltb n 10 l)

by_short : (k n : ℕ) → n < 10 → decimal_by (suc k) n ≡ (48 + n) ∷ []
unfolding decimal_by
by_short k n l = rw (lt-ltb n 10 l)

pub decimal_short : (n : ℕ) → n < 10 → decimal n ≡ (48 + n) ∷ []
decimal_short = by_short 9

pub decimal_long : (n : ℕ) → 10 ≤ n → n ≤ largest_word → decimal n ≡ decimal (n / 10) ++ (48 + n % 10) ∷ []
decimal_long n l h = by_more 9 n l ∙ ap (λ x. x ++ (48 + n % 10) ∷ []) (stable 8 (n / 10) (omega arith))

by_length : (k n : ℕ) → length (decimal_by k n) ≤ k
unfolding decimal_by
by_length zero n = omega arith
by_length (suc k) n =
    ⊎_elim (λ l. rw (ap length (by_short k n l)) (omega arith))
    (λ l. let h = by_length k (n / 10) in
    rw (ap length (by_more k n l) ∙ length-append (decimal_by k (n / 10)) ((48 + n % 10) ∷ [])) (omega arith))
    (lt_or_ge n 10)

pub decimal_length : (n : ℕ) → length (decimal n) ≤ 10
decimal_length = by_length 10

pub word_length : (w : ℕ) → length (word_text w) ≤ 10
word_length w = go (eqb w largest_word) refl
  where
    go : (b : Bool) → eqb w largest_word ≡ b → length (word_text w) ≤ 10
    go true e = rw e (omega arith)
    go false e = rw e (decimal_length w)

value_append : (n : ℕ) (l r : List ℕ) → value_from n (l ++ r) ≡ value_from (value_from n l) r
value_append n [] r = refl
value_append n (c ∷ l) r = value_append (n * 10 + (c - 48)) l r

digits_append : (l r : List ℕ) → all_digits l ≡ true → all_digits r ≡ true → all_digits (l ++ r) ≡ true
digits_append [] r e f = f
digits_append (c ∷ l) r e f = go (is_digit c) e (λ h. digits_append l r h f)
  where
    go : (b : Bool) → (b && all_digits l) ≡ true
        → (all_digits l ≡ true → all_digits (l ++ r) ≡ true) → (b && all_digits (l ++ r)) ≡ true
    go true h k = k h
    go false h k = h

digit_is : (d : ℕ) → d < 10 → is_digit (48 + d) ≡ true
digit_is d h = rw (le-leb 48 (48 + d) (omega arith), le-leb (48 + d) 57 (omega arith))

-- a text of digits that does not begin with 0, of value n
record WrittenDecimal (n : ℕ) (l : List ℕ) : Type 0 where
  first : ℕ
  rest : List ℕ
  is : l ≡ (48 + first) ∷ rest
  above : 0 < first
  below : first < 10
  digits : all_digits l ≡ true
  value : value_from 0 l ≡ n

written_short : (n : ℕ) → 0 < n → n < 10 → WrittenDecimal n ((48 + n) ∷ [])
written_short n h k =
    record { first = n; rest = []; is = refl; above = h; below = k; digits = rw (digit_is n k); value = omega arith }

written_more : (n d : ℕ) {l : List ℕ} → d < 10 → WrittenDecimal n l → WrittenDecimal (n * 10 + d) (l ++ (48 + d) ∷ [])
written_more n d {l} h w = record {
  first = w.first;
  rest = w.rest ++ (48 + d) ∷ [];
  is = ap (λ x. x ++ (48 + d) ∷ []) w.is;
  above = w.above;
  below = w.below;
  digits = digits_append l ((48 + d) ∷ []) w.digits (rw (digit_is d h));
  value = value_append 0 l ((48 + d) ∷ []) ∙ let e = w.value in omega arith;
}

written : (k n : ℕ) → 0 < n → n < 10 ^ suc k → WrittenDecimal n (decimal_by (suc k) n)
written zero n p h = let h' : n < 10 = h in rw (by_short zero n h') (written_short n p h')
written (suc k) n p h =
    let h' : n < 10 ^ suc k * 10 = rw pow-suc at h in
    ⊎_elim (λ l. rw (by_short (suc k) n l) (written_short n p l))
    (λ l. rw (by_more (suc k) n l)
    (subst (λ m. WrittenDecimal m (decimal_by (suc k) (n / 10) ++ (48 + n % 10) ∷ [])) (div-add-mod' n 10)
    (written_more (n / 10) (n % 10) (omega arith) (written k (n / 10) (omega arith) (omega arith)))))
    (lt_or_ge n 10)

no_zero : (d : ℕ) (r : List ℕ) → 0 < d → no_leading_zero ((48 + d) ∷ r) ≡ true
no_zero d [] h = refl
no_zero d (c ∷ r) h = rw (ne_eqb (48 + d) 48 (λ e. omega arith))

number_written : {n : ℕ} {l : List ℕ} → WrittenDecimal n l → n ≤ largest_number → number_of l ≡ Some n
number_written {n} {l} w h =
    rw (
      ap no_leading_zero w.is ∙ no_zero w.first w.rest w.above,
      w.digits,
      w.value,
      le-leb n largest_number h,
    )

-- `-` is no digit
word_digit : (d : ℕ) (r : List ℕ) → word_of ((48 + d) ∷ r) ≡ number_of ((48 + d) ∷ r)
word_digit d [] = rw (ne_eqb (48 + d) 45 (λ e. omega arith))
word_digit d (c ∷ r) = refl

word_written : {n : ℕ} {l : List ℕ} → WrittenDecimal n l → word_of l ≡ number_of l
word_written w = rw w.is (word_digit w.first w.rest)

-- a number that was written reads back
pub number_back : (n : ℕ) → n ≤ largest_number → number_of (decimal n) ≡ Some n
unfolding decimal_by
number_back n h = ⊎_elim (λ e. rw e refl) (λ p. number_written (written 9 n p (omega arith)) h) (eq-zero-or-pos n)

word_decimal : (n : ℕ) → n ≤ largest_number → word_of (decimal n) ≡ Some n
unfolding decimal_by
word_decimal n h =
    ⊎_elim (λ e. rw e refl)
    (λ p. let w = written 9 n p (omega arith) in word_written w ∙ number_written w h) (eq-zero-or-pos n)

-- and so does a word
pub word_back : (w : ℕ) → w ≤ largest_word → word_of (word_text w) ≡ Some w
word_back w h = go (eqb w largest_word) refl
  where
    go : (b : Bool) → eqb w largest_word ≡ b → word_of (word_text w) ≡ Some w
    go true e = let f : w ≡ largest_word = eqb-true w largest_word e in rw f refl
    go false e = let f = eqb-false w largest_word e in rw e (word_decimal w (omega arith))

-- all that is written of a number is digits
pub all_digits_lem : (k n : ℕ) → all_digits (decimal_by k n) ≡ true
unfolding decimal_by
all_digits_lem zero n = refl
all_digits_lem (suc k) n =
    ⊎_elim (λ l. rw (by_short k n l, digit_is n l))
    (λ l. rw (by_more k n l) (digits_append (decimal_by k (n / 10)) ((48 + n % 10) ∷ [])
    (all_digits_lem k (n / 10)) (rw (digit_is (n % 10) (omega arith)))))
    (lt_or_ge n 10)
