-- A job that was written reads back the same.
use mathlib.Core.Path.{◌≡◌, ◌∙◌, ap, ap₂}
use mathlib.Core.List.{List, [], ◌∷◌, ◌++◌}
use Rattle.std.specs.Prelude.{Option, Some}
use Prim.Native.Nat.{ℕ, zero, suc, ◌+◌, ◌*◌, ◌≤◌}
use native.Mathlib.Nat.{suc-mul, zero-mul, zero-add}
use native.Mathlib.Omega.{arith}
use lib.ListN.{length, take, drop, length-drop, take-append-drop}
use lib.Seq.{length-take-le}
use borrow.Author.Tests.{le-leb}
use Rattle.tables.specs.Tables.{Tables, tables_of}
use Rattle.job.specs.Ascii.{ascii}
use Rattle.job.specs.Numbers.{largest_number, decimal, words_text, Words, Bytes}
use Rattle.job.specs.Written.{row_lines}
use Rattle.job.specs.Reading.{Reading, lines, count, row_of, add_row, add_node}
use Rattle.job.proofs.Decimals.{number_back}
use Rattle.job.proofs.Texts.{after_back, words_back}

-- a count
pub count_back : (key : List ℕ) (limit n : ℕ) → n ≤ limit
    → limit ≤ largest_number → count key limit (key ++ decimal n) ≡ Some n
count_back key limit n h k = rw (after_back key (decimal n), number_back n (omega arith), le-leb n limit h)

-- parts of words
pub words_take : (n : ℕ) (l : List ℕ) → Words l → Words (take n l)
words_take zero l h = tt
words_take (suc n) [] h = tt
words_take (suc n) (w ∷ l) h = (h.0, words_take n l h.1)

pub words_drop : (n : ℕ) (l : List ℕ) → Words l → Words (drop n l)
words_drop zero l h = h
words_drop (suc n) [] h = tt
words_drop (suc n) (w ∷ l) h = words_drop n l h.1

pub bytes_take : (n : ℕ) (l : List ℕ) → Bytes l → Bytes (take n l)
bytes_take zero l h = tt
bytes_take (suc n) [] h = tt
bytes_take (suc n) (w ∷ l) h = (h.0, bytes_take n l h.1)

pub bytes_drop : (n : ℕ) (l : List ℕ) → Bytes l → Bytes (drop n l)
bytes_drop zero l h = h
bytes_drop (suc n) [] h = tt
bytes_drop (suc n) (w ∷ l) h = bytes_drop n l h.1

-- a row
row_back : (key : List ℕ) (width : ℕ) (row : List ℕ) → length row ≡ suc width
    → Words row → row_of key (suc width) (key ++ words_text row) ≡ Some row
row_back key width row e h = rw (after_back key (words_text row), words_back row width e h)

-- so many rows, each added to a table that is a part of the tables
module _ (add : Tables → List ℕ → Option Tables) (key : List ℕ) (width : ℕ) (with : Tables → List ℕ → Tables)
    (adds : (t : Tables) (row : List ℕ) → length row ≡ suc width
    → Words row → add t (key ++ words_text row) ≡ Some (with t row))
    (more : (t : Tables) (a b : List ℕ) → with (with t a) b ≡ with t (a ++ b))
    (none : (t : Tables) → with t [] ≡ t) where
  pub rows_back : (n : ℕ) (t : Tables) (k : ℕ) (table : List ℕ) (rest : List (List ℕ))
      (next : Tables → ℕ → List (List ℕ) → Reading) → length table ≡ n * suc width → Words table
      → lines add n t k (row_lines key (suc width) n table ++ rest) next ≡ next (with t table) (n + k) rest
  unfolding lines row_lines
  rows_back zero t k [] rest next e h = rw (none t, zero-add k)
  rows_back zero t k (w ∷ table) rest next e h = absurd (let z = zero-mul (suc width) in omega arith)
  rows_back (suc n) t k table rest next e h =
      let z = suc-mul n (suc width) in
      let l : length (take (suc width) table) ≡ suc width = length-take-le (suc width) table (omega arith) in
      let d : length (drop (suc width) table) ≡ n * suc width = length-drop (suc width) table ∙ omega arith in
      let c : n + suc k ≡ suc n + k = omega arith in
      rw (adds t (take (suc width) table) l (words_take (suc width) table h))
      (rows_back n (with t (take (suc width) table)) (suc k)
      (drop (suc width) table) rest next d (words_drop (suc width) table h)
      ∙ ap₂ (λ t k. next t k rest) (more t (take (suc width) table) (drop (suc width) table)
      ∙ ap (with t) (take-append-drop (suc width) table)) c)

abbrev pub with_row : Tables → List ℕ → Tables
with_row t row = tables_of t.strings (t.schema ++ row) t.instance

abbrev pub with_node : Tables → List ℕ → Tables
with_node t row = tables_of t.strings t.schema (t.instance ++ row)

pub schema_back : (t : Tables) (row : List ℕ) → length row ≡ 3 → Words row
    → add_row t (ascii "row=" ++ words_text row) ≡ Some (with_row t row)
schema_back t row e h = rw (row_back (ascii "row=") 2 row e h)

pub instance_back : (t : Tables) (row : List ℕ) → length row ≡ 5 → Words row
    → add_node t (ascii "node=" ++ words_text row) ≡ Some (with_node t row)
instance_back t row e h = rw (row_back (ascii "node=") 4 row e h)
