-- Lines, fields, keys and hexadecimal digits that were written read back.
use mathlib.Core.Path.{◌≡◌, refl, ◌∙◌, ap}
use mathlib.Core.Logic.{◌≢◌, ⊎_elim}
use mathlib.Core.Bool.{Bool, true, false, false≢true}
use mathlib.Core.List.{List, [], ◌∷◌, ◌++◌, map}
use Rattle.std.specs.Prelude.{Some}
use Prim.Native.Nat.{ℕ, suc, ◌+◌, ◌-◌, ◌*◌, ◌/◌, ◌%◌, ◌<◌, ◌≤◌}
use native.Mathlib.Nat.{div-add-mod'}
use native.Mathlib.Omega.{arith}
use lib.ListN.{length}
use lib.Dec.{leb, eqb}
use borrow.Author.Tests.{lt-ltb, le-ltb, le-leb, lt-leb, eq-eqb, ne_eqb, leb-true}
use Rattle.instance.proofs.Order.{and_parts}
use Rattle.job.specs.Numbers.{largest_word, decimal, word_text, words_text, hex_digit, hex_text}
use Rattle.job.specs.Numbers.{Words, Bytes, is_digit, all_digits, hex_value, hex_bytes}
use Rattle.job.specs.Lines.{line_feed, comma, text_of_lines, lines_of, is_ended, fields_of, after}
use Rattle.job.specs.Reading.{words_of}
use Rattle.job.proofs.Decimals.{lt_or_ge, all_digits_lem, word_back}

-- a byte does not occur in a text
abbrev pub Lacks : ℕ → List ℕ → Type 0
Lacks c [] = Unit {0}
Lacks c (x ∷ l) = (x ≢ c) × Lacks c l

pub lacks_append : (c : ℕ) (l r : List ℕ) → Lacks c l → Lacks c r → Lacks c (l ++ r)
lacks_append c [] r a b = b
lacks_append c (x ∷ l) r a b = (a.0, lacks_append c l r a.1 b)

-- digits are neither line feed nor comma nor `-`
lacks_digits : (c : ℕ) → c < 48 → (l : List ℕ) → all_digits l ≡ true → Lacks c l
lacks_digits c h [] e = tt
lacks_digits c h (x ∷ l) e =
    let d = and_parts (is_digit x) (all_digits l) e in
    let k = leb-true 48 x (and_parts (leb 48 x) (leb x 57) d.0).0 in
    (λ z. omega arith, lacks_digits c h l d.1)

pub lacks_decimal : (c n : ℕ) → c < 48 → Lacks c (decimal n)
lacks_decimal c n h = lacks_digits c h (decimal n) (all_digits_lem 10 n)

pub lacks_word : (c w : ℕ) → c < 45 → Lacks c (word_text w)
lacks_word c w h = go (eqb w largest_word) refl
  where
    go : (b : Bool) → eqb w largest_word ≡ b → Lacks c (word_text w)
    go true e = rw e (λ z. omega arith, tt)
    go false e = rw e (lacks_decimal c w (omega arith))

pub lacks_words : (c : ℕ) (ws : List ℕ) → c < 44 → Lacks c (words_text ws)
lacks_words c [] h = tt
lacks_words c (w ∷ []) h = lacks_word c w (omega arith)
lacks_words c (w ∷ v ∷ ws) h =
    lacks_append c (word_text w) (44 ∷ words_text (v ∷ ws))
    (lacks_word c w (omega arith)) (λ z. omega arith, lacks_words c (v ∷ ws) h)

hex_low : (n : ℕ) → 48 ≤ hex_digit n
hex_low n = ⊎_elim (λ l. rw (lt-ltb n 10 l) (omega arith)) (λ l. rw (le-ltb n 10 l) (omega arith)) (lt_or_ge n 10)

pub lacks_hex : (c : ℕ) (bytes : List ℕ) → c < 48 → Lacks c (hex_text bytes)
lacks_hex c [] h = tt
lacks_hex c (b ∷ bytes) h =
    let u = hex_low (b / 16) in
    let v = hex_low (b % 16) in
    (λ z. omega arith, (λ z. omega arith, lacks_hex c bytes h))

-- lines
unfoldable pub Lined : List (List ℕ) → Type 0
Lined [] = Unit {0}
Lined (l ∷ lines) = Lacks line_feed l × Lined lines

line_back : (l text : List ℕ) → Lacks line_feed l → lines_of (l ++ line_feed ∷ text) ≡ l ∷ lines_of text
line_back [] text h = refl
line_back (c ∷ l) text h = rw (ne_eqb c line_feed h.0, line_back l text h.1)

pub lines_back : (lines : List (List ℕ)) → Lined lines → lines_of (text_of_lines lines) ≡ lines
unfolding Lined
lines_back [] h = refl
lines_back (l ∷ lines) h = line_back l (text_of_lines lines) h.0 ∙ ap (λ r. l ∷ r) (lines_back lines h.1)

pub lined_append : (a b : List (List ℕ)) → Lined a → Lined b → Lined (a ++ b)
unfolding Lined
lined_append [] b h k = k
lined_append (l ∷ a) b h k = (h.0, lined_append a b h.1 k)

ended_more : (l text : List ℕ) → is_ended text ≡ true → is_ended (l ++ text) ≡ true
ended_more [] text h = h
ended_more (c ∷ []) [] h = absurd (false≢true h)
ended_more (c ∷ []) (d ∷ text) h = h
ended_more (c ∷ d ∷ l) text h = ended_more (d ∷ l) text h

pub lines_ended : (l : List ℕ) (lines : List (List ℕ)) → is_ended (text_of_lines (l ∷ lines)) ≡ true
lines_ended l [] = ended_more l (line_feed ∷ []) refl
lines_ended l (m ∷ lines) =
    ended_more l (line_feed ∷ text_of_lines (m ∷ lines))
    (ended_more (line_feed ∷ []) (text_of_lines (m ∷ lines)) (lines_ended m lines))

-- keys
pub after_back : (key l : List ℕ) → after key (key ++ l) ≡ Some l
after_back [] l = refl
after_back (k ∷ key) l = rw (eq-eqb k k refl) (after_back key l)

-- fields
field_last : (f : List ℕ) → Lacks comma f → fields_of f ≡ f ∷ []
field_last [] h = refl
field_last (c ∷ f) h = rw (ne_eqb c comma h.0, field_last f h.1)

field_more : (f rest : List ℕ) → Lacks comma f → fields_of (f ++ comma ∷ rest) ≡ f ∷ fields_of rest
field_more [] rest h = refl
field_more (c ∷ f) rest h = rw (ne_eqb c comma h.0, field_more f rest h.1)

fields_back : (w : ℕ) (ws : List ℕ) → fields_of (words_text (w ∷ ws)) ≡ map word_text (w ∷ ws)
fields_back w [] = field_last (word_text w) (lacks_word comma w (omega arith))
fields_back w (v ∷ ws) =
    field_more (word_text w) (words_text (v ∷ ws)) (lacks_word comma w (omega arith))
    ∙ ap (λ r. word_text w ∷ r) (fields_back v ws)

-- words
words_of_lem : (ws : List ℕ) → Words ws → words_of (length ws) (map word_text ws) ≡ Some ws
words_of_lem [] h = refl
words_of_lem (w ∷ ws) h = rw (word_back w h.0, words_of_lem ws h.1)

pub words_back : (ws : List ℕ) (n : ℕ) → length ws ≡ suc n
    → Words ws → words_of (suc n) (fields_of (words_text ws)) ≡ Some ws
words_back [] n e h = absurd (omega arith)
words_back (w ∷ ws) n e h = rw (← e, fields_back w ws) (words_of_lem (w ∷ ws) h)

-- hexadecimal digits
hex_back : (n : ℕ) → n < 16 → hex_value (hex_digit n) ≡ Some n
hex_back n h = ⊎_elim digit letter (lt_or_ge n 10)
  where
    digit : n < 10 → hex_value (hex_digit n) ≡ Some n
    digit l =
        let e : 48 + n - 48 ≡ n = omega arith in
        rw (lt-ltb n 10 l, le-leb 48 (48 + n) (omega arith), le-leb (48 + n) 57 (omega arith), e)

    letter : 10 ≤ n → hex_value (hex_digit n) ≡ Some n
    letter l =
        let e : 87 + n - 87 ≡ n = omega arith in
        rw (
          le-ltb n 10 l,
          le-leb 48 (87 + n) (omega arith),
          lt-leb (87 + n) 57 (omega arith),
          le-leb 97 (87 + n) (omega arith),
          le-leb (87 + n) 102 (omega arith),
          e,
        )

pub bytes_back : (bytes : List ℕ) → Bytes bytes → hex_bytes (hex_text bytes) ≡ Some bytes
bytes_back [] h = refl
bytes_back (b ∷ bytes) h =
    let l = h.0 in
    let e : b / 16 * 16 + b % 16 ≡ b = div-add-mod' b 16 in
    rw (hex_back (b / 16) (omega arith), hex_back (b % 16) (omega arith), bytes_back bytes h.1, e)
