-- One text put after another: every step puts its text after the one before, so that proofs add up texts.
use mathlib.Core.Path.{◌≡◌, refl, sym, ◌∙◌, ap, ap₂}
use mathlib.Core.List.{List, [], ◌∷◌, ◌++◌, append_assoc}
use Prim.Native.Nat.{ℕ, ◌+◌, ◌-◌, ◌*◌, ◌/◌, ◌%◌, ◌≤◌, ◌<◌}
use native.Mathlib.Omega.{arith}
use native.Mathlib.Nat.{zero-add, add-zero, le_trans, min-le_right}
use native.Mathlib.Numerals.{add-one}
use lib.ListN.{length, take, drop, get_or, set, length-append, length-take, length-drop, length-replicate}
use lib.Seq.{sets, length-sets, take-suc}
use Rattle.tables.specs.Outputs.{zeros, laid}
use Rattle.tables.proofs.Stores.{sets_append, sets_zeros}
use Rattle.tables.specs.Tables.{StringTable}
use Rattle.strings.specs.Strings.{start_of, end_of, text_of}
use Rattle.job.specs.Numbers.{word_text, words_text, hex_digit, hex_text}
use Rattle.job.proofs.Decimals.{word_length}
use Rattle.job_texts.specs.Writing.{Puts, Wrote, Kept, TextIn}
use Rattle.job_texts.specs.declared.Writer.{Writer}

pub puts_none : (w : Writer) → Puts w [] w
puts_none w = record { wrote = record { holds = refl; moves = sym (add-zero w.at) }; same = refl }

pub wrote_byte : {out : List ℕ} {at b : ℕ} {end : List ℕ} → end ≡ set out at b → Wrote out at (b ∷ []) end (at + 1)
wrote_byte e = record { holds = e; moves = refl }

pub wrote_more : {out : List ℕ} {at : ℕ} {a b : List ℕ} {mid : List ℕ} {p : ℕ} {end : List ℕ} {q : ℕ}
    → Wrote out at a mid p → Wrote mid p b end q → Wrote out at (a ++ b) end q
wrote_more {out} {at} {a} {b} w v = record {
  holds = v.holds ∙ ap₂ (λ l i. sets l i b) w.holds w.moves ∙ sets_append out at a b;
  moves = v.moves ∙ let e = w.moves in let f = length-append a b in omega arith;
}

pub wrote_as : {out : List ℕ} {at : ℕ} {a b : List ℕ} {end : List ℕ} {q : ℕ}
    → a ≡ b → Wrote out at a end q → Wrote out at b end q
wrote_as e w = rw (← e) w

pub puts_more : {w m e : Writer} {a b : List ℕ} → Puts w a m → Puts m b e → Puts w (a ++ b) e
puts_more p q = record { wrote = wrote_more p.wrote q.wrote; same = q.same ∙ p.same }

pub puts_as : {w e : Writer} {a b : List ℕ} → a ≡ b → Puts w a e → Puts w b e
puts_as h p = record { wrote = wrote_as h p.wrote; same = p.same }

pub wrote_length : {out : List ℕ} {at : ℕ} {a : List ℕ} {end : List ℕ} {q : ℕ}
    → Wrote out at a end q → length end ≡ length out
wrote_length {out} {at} {a} w = ap length w.holds ∙ length-sets out at a

-- a text put at the front of zeros, and kept where it fits
pub text_in : {text out mid end : List ℕ} {room n r : ℕ} → out ≡ zeros room
    → Wrote out 0 text mid n → Kept mid n end r → TextIn text room end r
text_in {text} {out} {mid} {end} {room} {n} {r} z w k = record { fits = fits; short = short }
  where
    size : length mid ≡ room
    size = wrote_length w ∙ ap length z ∙ length-replicate {A = ℕ} room 0

    count : n ≡ length text
    count = w.moves ∙ zero-add (length text)

    fits : length text ≤ room → (end ≡ laid room text) × (r ≡ length text)
    fits h =
        let s = size in
        let c = count in
        let q = k.fits (omega arith) in
        (q.0 ∙ w.holds ∙ ap (λ (o : List ℕ). sets o 0 text) z ∙ sets_zeros room text, q.1 ∙ count)

    short : room < length text → (end ≡ zeros room) × (r ≡ 0)
    short h =
        let s = size in
        let c = count in
        let q = k.short (omega arith) in
        (q.0 ∙ ap zeros size, q.1)

-- one byte or word more of a list, of which the first i are put
pub puts_next : (text : List ℕ → List ℕ) (l : List ℕ) (i : ℕ) {w m e : Writer} {more : List ℕ} → i < length l
    → text (take i l ++ get_or l i 0 ∷ []) ≡ text (take i l) ++ more
    → Puts w (text (take i l)) m → Puts m more e → Puts w (text (take (i + 1) l)) e
puts_next text l i h f p q =
    puts_as (sym f ∙ ap text (sym (take-suc l i 0 h) ∙ ap (λ k. take k l) (sym (add-one i)))) (puts_more p q)

pub hex_append : (l : List ℕ) (b : ℕ)
    → hex_text (l ++ b ∷ []) ≡ hex_text l ++ hex_digit (b / 16) ∷ hex_digit (b % 16) ∷ []
hex_append [] b = refl
hex_append (c ∷ l) b = ap (λ r. hex_digit (c / 16) ∷ hex_digit (c % 16) ∷ r) (hex_append l b)

pub hex_length : (l : List ℕ) → length (hex_text l) ≡ 2 * length l
hex_length [] = refl
hex_length (c ∷ l) = let e = hex_length l in omega arith

pub words_append : (l : List ℕ) (w : ℕ) → 0 < length l → words_text (l ++ w ∷ []) ≡ words_text l ++ 44 ∷ word_text w
words_append [] w h = absurd (omega arith)
words_append (v ∷ []) w h = refl
words_append (v ∷ u ∷ l) w h =
    ap (λ r. word_text v ++ 44 ∷ r) (words_append (u ∷ l) w (omega arith))
    ∙ sym (append_assoc (word_text v) (44 ∷ words_text (u ∷ l)) (44 ∷ word_text w))

pub words_length : (l : List ℕ) → length (words_text l) ≤ 11 * length l
words_length [] = omega arith
words_length (w ∷ []) = let h = word_length w in omega arith
words_length (w ∷ v ∷ l) =
    let h = word_length w in
    let k = words_length (v ∷ l) in
    let e = length-append (word_text w) (44 ∷ words_text (v ∷ l)) in
    omega arith

-- no text is longer than all bytes
pub text_length : (T : StringTable) (k : ℕ) → length (text_of T k) ≤ length T.bytes
text_length T k =
    let from = start_of T.ends k in
    let size = end_of T.ends k - start_of T.ends k in
    let d = length-drop from T.bytes in
    let t = length-take size (drop from T.bytes) in
    let m = min-le_right size (length (drop from T.bytes)) in
    rw t (le_trans m (omega arith))
