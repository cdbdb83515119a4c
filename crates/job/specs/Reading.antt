-- What a job file reads as: the four tables, or its first wrong line (FORMAT, "Job file").
use Rattle.std.specs.Prelude.{ℕ, zero, suc, ◌+◌, cond, List, [], ◌∷◌, ◌++◌, length, ltb, leb}
use Rattle.std.specs.Prelude.{Option, None, Some}
use Rattle.tables.specs.Tables.{Tables, tables_of, string_table}
use Rattle.strings.specs.Strings.{max_strings, max_bytes}
use Rattle.schema.specs.RowRule.{max_rows}
use Rattle.instance.specs.NodeRule.{max_nodes}
use Rattle.job.specs.Ascii.{ascii}
use Rattle.job.specs.Numbers.{number_of, word_of, hex_bytes}
use Rattle.job.specs.Lines.{lines_of, is_ended, fields_of, after}

abbrev pub no_tables : Tables
no_tables = tables_of (string_table [] []) [] []

pub data Reading : Type 0 where
  read : Tables → Reading
  wrong : (line : ℕ) → Reading

abbrev pub max_file : ℕ
max_file = 65536

abbrev pub and_then : {A B : Type 0} → Option A → (A → Option B) → Option B
and_then None f = None
and_then (Some a) f = f a

-- one line: what it holds is read, it is wrong, or it is missing; then the lines after it
abbrev pub line_by : {A : Type 0} → Option A → ℕ → List (List ℕ) → (A → ℕ → List (List ℕ) → Reading) → Reading
line_by None n lines next = wrong n
line_by (Some a) n lines next = next a (suc n) lines

abbrev pub line : {A : Type 0} → (List ℕ → Option A) → ℕ → List (List ℕ) → (A → ℕ → List (List ℕ) → Reading) → Reading
line holds n [] next = wrong n
line holds n (l ∷ lines) next = line_by (holds l) n lines next

-- so many lines, each added to the tables
unfoldable pub lines : (Tables → List ℕ → Option Tables) → ℕ → Tables → ℕ → List (List ℕ)
    → (Tables → ℕ → List (List ℕ) → Reading) → Reading
lines add zero t n rest next = next t n rest
lines add (suc count) t n rest next = line (add t) n rest (λ t n rest. lines add count t n rest next)

-- a line that is nothing but its key
abbrev pub is_nothing : List ℕ → Option (List ℕ)
is_nothing [] = Some []
is_nothing (c ∷ l) = None

abbrev pub literal : List ℕ → List ℕ → Option (List ℕ)
literal text l = and_then (after text l) is_nothing

-- a count that keeps its limit
abbrev pub at_most : ℕ → ℕ → Option ℕ
at_most limit n = cond (leb n limit) (Some n) None

abbrev pub count : List ℕ → ℕ → List ℕ → Option ℕ
count key limit l = and_then (after key l) (λ text. and_then (number_of text) (at_most limit))

-- a string; all strings together keep the limit of bytes
abbrev pub with_string : Tables → List ℕ → Option Tables
with_string t text =
    cond (leb (length t.strings.bytes + length text) max_bytes)
    (Some (tables_of
    (string_table (t.strings.bytes ++ text) (t.strings.ends ++ (length t.strings.bytes + length text) ∷ []))
    t.schema t.instance))
    None

abbrev pub add_string : Tables → List ℕ → Option Tables
add_string t l = and_then (after (ascii "s=") l) (λ digits. and_then (hex_bytes digits) (with_string t))

-- the words of fields, exactly so many
abbrev pub words_of : ℕ → List (List ℕ) → Option (List ℕ)
words_of zero [] = Some []
words_of zero (f ∷ fields) = None
words_of (suc n) [] = None
words_of (suc n) (f ∷ fields) = and_then (word_of f) (λ w. and_then (words_of n fields) (λ ws. Some (w ∷ ws)))

abbrev pub row_of : List ℕ → ℕ → List ℕ → Option (List ℕ)
row_of key width l = and_then (after key l) (λ text. words_of width (fields_of text))

abbrev pub add_row : Tables → List ℕ → Option Tables
add_row t l = and_then (row_of (ascii "row=") 3 l) (λ row. Some (tables_of t.strings (t.schema ++ row) t.instance))

abbrev pub add_node : Tables → List ℕ → Option Tables
add_node t l = and_then (row_of (ascii "node=") 5 l) (λ row. Some (tables_of t.strings t.schema (t.instance ++ row)))

-- nothing comes after the last line
abbrev pub nothing_more : List ℕ → Tables → ℕ → List (List ℕ) → Reading
nothing_more text t n [] = cond (is_ended text) (read t) (wrong n)
nothing_more text t n (l ∷ rest) = wrong n

abbrev pub read_lines : List ℕ → Reading
read_lines text =
    line (literal (ascii "rng=1")) 1 (lines_of text) (λ _ n rest.
    line (count (ascii "strings=") max_strings) n rest (λ strings n rest.
    lines add_string strings no_tables n rest (λ t n rest.
    line (count (ascii "schema=") max_rows) n rest (λ rows n rest.
    lines add_row rows t n rest (λ t n rest.
    line (count (ascii "instance=") max_nodes) n rest (λ nodes n rest.
    lines add_node nodes t n rest (λ t n rest.
    line (literal (ascii "end=1")) n rest (λ _ n rest.
    nothing_more text t n rest))))))))

-- a file that is too long is wrong at line 0
abbrev pub read_job : List ℕ → Reading
read_job text = cond (ltb max_file (length text)) (wrong 0) (read_lines text)
