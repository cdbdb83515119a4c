-- The text of lines, one line after another.
use mathlib.Core.Path.{◌≡◌, refl, sym, ◌∙◌, ap}
use mathlib.Core.Bool.{Bool}
use mathlib.Core.List.{List, [], ◌∷◌, ◌++◌, append_assoc}
use Prim.Native.Nat.{ℕ, zero, suc, ◌+◌, ◌*◌, ◌/◌}
use native.Mathlib.Omega.{arith}
use native.Mathlib.Numerals.{add-one}
use native.Mathlib.Nat.{zero-add, add-zero, add_comm, suc-mul, zero-mul}
use lib.ListN.{length, take, drop}
use lib.Seq.{drop-drop}
use Rattle.tables.specs.Tables.{StringTable, Tables}
use Rattle.strings.specs.Strings.{text_of}
use Rattle.schema.specs.Rows.{rows_of}
use Rattle.instance.specs.Nodes.{nodes_of}
use Rattle.job.specs.Ascii.{ascii}
use Rattle.job.specs.Lines.{line_feed, comma, text_of_lines}
use Rattle.job.specs.Numbers.{decimal, words_text, hex_text}
use Rattle.job.specs.Written.{string_lines, row_lines, job_text}
use Rattle.job.specs.Reported.{valid_line, match_text, refusal_text}
use Rattle.job_texts.specs.Writing.{Puts}
use Rattle.job_texts.specs.declared.Writer.{Writer}
use Rattle.job_texts.proofs.Writing.{puts_none, puts_more, puts_as}

pub text_append : (a b : List (List ℕ)) → text_of_lines (a ++ b) ≡ text_of_lines a ++ text_of_lines b
text_append [] b = refl
text_append (l ∷ a) b =
    ap (λ t. l ++ line_feed ∷ t) (text_append a b)
    ∙ sym (append_assoc l (line_feed ∷ text_of_lines a) (text_of_lines b))

pub puts_lines : {w m e : Writer} (a b : List (List ℕ))
    → Puts w (text_of_lines a) m → Puts m (text_of_lines b) e
    → Puts w (text_of_lines (a ++ b)) e
puts_lines a b p q = puts_as (sym (text_append a b)) (puts_more p q)

pub puts_line : {w m e : Writer} (l : List ℕ) (lines : List (List ℕ))
    → Puts w (l ++ line_feed ∷ []) m → Puts m (text_of_lines lines) e
    → Puts w (text_of_lines (l ∷ lines)) e
puts_line l lines p q = puts_as (append_assoc l (line_feed ∷ []) (text_of_lines lines)) (puts_more p q)

-- the lines of one more string
pub strings_more : (T : StringTable) (k n : ℕ)
    → string_lines T k (n + 1) ≡ string_lines T k n ++ (ascii "s=" ++ hex_text (text_of T (k + n))) ∷ []
unfolding string_lines
strings_more T k zero = rw (add-zero k)
strings_more T k (suc n) =
    let e : suc n + 1 ≡ suc (n + 1) = omega arith in
    let f : suc k + n ≡ k + suc n = omega arith in
    rw e (ap (λ r. (ascii "s=" ++ hex_text (text_of T k)) ∷ r)
    (strings_more T (suc k) n ∙ ap (λ j. string_lines T (suc k) n ++ (ascii "s=" ++ hex_text (text_of T j)) ∷ []) f))

-- the lines of one more row
pub rows_more : (key : List ℕ) (width n : ℕ) (table : List ℕ) → row_lines key width (n + 1) table
    ≡ row_lines key width n table ++ (key ++ words_text (take width (drop (n * width) table))) ∷ []
unfolding row_lines
rows_more key width zero table = rw (zero-mul width)
rows_more key width (suc n) table =
    let e : suc n + 1 ≡ suc (n + 1) = omega arith in
    let f : drop (n * width) (drop width table) ≡ drop (suc n * width) table = drop-drop (n * width) width table
    ∙ ap (λ j. drop j table) (add_comm width (n * width) ∙ sym (suc-mul n width)) in
    rw e (ap (λ r. (key ++ words_text (take width table)) ∷ r) (rows_more key width n (drop width table)
    ∙ ap (λ r. row_lines key width n (drop width table) ++ (key ++ words_text (take width r)) ∷ []) f))

-- no string, no row
pub no_strings : (T : StringTable) → text_of_lines (string_lines T 0 0) ≡ []
unfolding string_lines
no_strings T = refl

pub no_rows : (key : List ℕ) (width : ℕ) (table : List ℕ) → text_of_lines (row_lines key width 0 table) ≡ []
unfolding row_lines
no_rows key width table = refl

pub puts_string : {w m e : Writer} (T : StringTable) (k : ℕ)
    → Puts w (text_of_lines (string_lines T 0 k)) m
    → Puts m ((ascii "s=" ++ hex_text (text_of T k)) ++ line_feed ∷ []) e
    → Puts w (text_of_lines (string_lines T 0 (k + 1))) e
puts_string T k p q =
    puts_as (ap text_of_lines (sym (strings_more T 0 k
    ∙ ap (λ j. string_lines T 0 k ++ (ascii "s=" ++ hex_text (text_of T j)) ∷ []) (zero-add k))))
    (puts_lines (string_lines T 0 k) ((ascii "s=" ++ hex_text (text_of T k)) ∷ []) p q)

pub puts_row : {w m e : Writer} (key : List ℕ) (width n : ℕ) (table : List ℕ)
    → Puts w (text_of_lines (row_lines key width n table)) m
    → Puts m ((key ++ words_text (take width (drop (n * width) table))) ++ line_feed ∷ []) e
    → Puts w (text_of_lines (row_lines key width (n + 1) table)) e
puts_row key width n table p q =
    puts_as (ap text_of_lines (sym (rows_more key width n table)))
    (puts_lines (row_lines key width n table) ((key ++ words_text (take width (drop (n * width) table))) ∷ []) p q)

pub next_row : (i width : ℕ) → (i + 1) * width ≡ i * width + width
next_row i width = rw (add-one i) (suc-mul i width)

pub puts_job : (J : Tables) {w w₁ w₂ w₃ w₄ w₅ w₆ w₇ w₈ : Writer}
    → Puts w (ascii "rng=1" ++ line_feed ∷ []) w₁
    → Puts w₁ ((ascii "strings=" ++ decimal (length J.strings.ends)) ++ line_feed ∷ []) w₂
    → Puts w₂ (text_of_lines (string_lines J.strings 0 (length J.strings.ends))) w₃
    → Puts w₃ ((ascii "schema=" ++ decimal (rows_of J.schema)) ++ line_feed ∷ []) w₄
    → Puts w₄ (text_of_lines (row_lines (ascii "row=") 3 (rows_of J.schema) J.schema)) w₅
    → Puts w₅ ((ascii "instance=" ++ decimal (nodes_of J.instance)) ++ line_feed ∷ []) w₆
    → Puts w₆ (text_of_lines (row_lines (ascii "node=") 5 (nodes_of J.instance) J.instance)) w₇
    → Puts w₇ (ascii "end=1" ++ line_feed ∷ []) w₈
    → Puts w (job_text J) w₈
puts_job J a b c d e f g h =
    let strings = (ascii "strings=" ++ decimal (length J.strings.ends))
    ∷ string_lines J.strings 0 (length J.strings.ends) in
    let rows = (ascii "schema=" ++ decimal (rows_of J.schema))
    ∷ row_lines (ascii "row=") 3 (rows_of J.schema) J.schema in
    let nodes = (ascii "instance=" ++ decimal (nodes_of J.instance))
    ∷ row_lines (ascii "node=") 5 (nodes_of J.instance) J.instance in
    puts_lines ((ascii "rng=1" ∷ strings) ++ rows ++ nodes) (ascii "end=1" ∷ [])
    (puts_lines ((ascii "rng=1" ∷ strings) ++ rows) nodes
    (puts_lines (ascii "rng=1" ∷ strings) rows
    (puts_line (ascii "rng=1") strings a (puts_line (ascii "strings=" ++ decimal (length J.strings.ends))
    (string_lines J.strings 0 (length J.strings.ends)) b c))
    (puts_line (ascii "schema=" ++ decimal (rows_of J.schema))
    (row_lines (ascii "row=") 3 (rows_of J.schema) J.schema) d e))
    (puts_line (ascii "instance=" ++ decimal (nodes_of J.instance))
    (row_lines (ascii "node=") 5 (nodes_of J.instance) J.instance) f g))
    (puts_line (ascii "end=1") [] h (puts_none _))

-- what `check` prints
pub puts_matches : (valid : Bool) (words : List ℕ) {w w₁ w₂ w₃ : Writer}
    → Puts w (valid_line valid ++ line_feed ∷ []) w₁
    → Puts w₁ ((ascii "pairs=" ++ decimal (length words / 2)) ++ line_feed ∷ []) w₂
    → Puts w₂ (text_of_lines (row_lines (ascii "pair=") 2 (length words / 2) words)) w₃
    → Puts w (match_text valid words) w₃
puts_matches valid words a b c =
    let pairs = row_lines (ascii "pair=") 2 (length words / 2) words in
    puts_line (valid_line valid) ((ascii "pairs=" ++ decimal (length words / 2)) ∷ pairs)
    a (puts_line (ascii "pairs=" ++ decimal (length words / 2)) pairs b c)

pub puts_refusal : (code place : ℕ) {w w₁ w₂ w₃ w₄ w₅ : Writer}
    → Puts w (ascii "refusal=") w₁
    → Puts w₁ (decimal code) w₂
    → Puts w₂ (comma ∷ []) w₃
    → Puts w₃ (decimal place) w₄
    → Puts w₄ (line_feed ∷ []) w₅
    → Puts w (refusal_text code place) w₅
puts_refusal code place a b c d e = puts_more (puts_more (puts_more a b) (puts_more c d)) e
