-- Lines that are passed one by one: what each must hold, and how the tables grow.
use mathlib.Core.Path.{◌≡◌, refl, ◌∙◌, ap}
use mathlib.Core.Bool.{Bool, true, false, cond, false≢true}
use mathlib.Core.List.{List, [], ◌∷◌, ◌++◌}
use Rattle.std.specs.Prelude.{Option, None, Some, Result, Err, ok_or, is_ok, IsErrAnd}
use Rattle.std.proofs.lemmas.Result.{err_from_is_err_and}
use Rattle.std.proofs.lemmas.Option.{same_Some}
use Prim.Native.Nat.{ℕ, ◌+◌, ◌≤◌, ◌<◌}
use native.Mathlib.Omega.{arith}
use lib.ListN.{length}
use lib.Dec.{leb, eqb}
use borrow.Author.Tests.{eq-eqb, eqb-true, le-leb, lt-leb, leb-true}
use Rattle.tables.specs.Tables.{Tables, tables_of, string_table}
use Rattle.strings.specs.Strings.{max_bytes}
use Rattle.job.specs.Ascii.{ascii}
use Rattle.job.specs.Numbers.{number_of, hex_bytes}
use Rattle.job.specs.Lines.{fields_of, after}
use Rattle.job.specs.Reading.{line, line_by, literal, is_nothing, and_then, count}
use Rattle.job.specs.Reading.{at_most, with_string, add_string, words_of, row_of}
use Rattle.job_lines.specs.Parts.{string_after}
use Rattle.job_lines.specs.Steps.{TakesLine, Stops}

-- the exit of a `?` on what a line should have held: it is missing, and the error is the number of the line
pub stopped : {A B : Type 0} (o : Option A) {n m : ℕ} (w : Result B ℕ) → Err m ≡ ok_or o n
    → IsErrAnd w (λ y. y ≡ m) → (o ≡ None) × (w ≡ Err n)
stopped None {n} {m} w e l =
    let p = err_from_is_err_and w l in
    let q : m ≡ n = cc in
    (refl, p.1 ∙ ap Err (p.2 ∙ q))
stopped (Some a) w e l = absurd (false≢true (ap is_ok e))

-- ---- one line
module _ {A : Type 0} (holds : List ℕ → Option A) {ls : List (List ℕ)} where
  module _ (l : List ℕ) (rest : List (List ℕ)) (e : ls ≡ l ∷ rest) where
    pub line_passes : {a : A} → holds l ≡ Some a → TakesLine holds ls a rest
    line_passes f = record {
      on = λ n next. ap (λ (x : List (List ℕ)). line holds n x next) e ∙ ap (λ (o : Option A). line_by o n rest next) f;
    }

    pub line_stops : holds l ≡ None → Stops holds ls
    line_stops f = record {
      on = λ n next. ap (λ (x : List (List ℕ)). line holds n x next) e ∙ ap (λ (o : Option A). line_by o n rest next) f;
    }

-- ---- what a line holds
pub literal_same : (text : List ℕ) → literal text text ≡ Some []
literal_same [] = refl
literal_same (k ∷ text) = rw (eq-eqb k k refl) (literal_same text)

pub literal_other : (text l : List ℕ) → ¬ (l ≡ text) → literal text l ≡ None
literal_other [] [] n = absurd (n refl)
literal_other [] (c ∷ l) n = refl
literal_other (k ∷ text) [] n = refl
literal_other (k ∷ text) (c ∷ l) n = go (eqb c k) refl (literal_other text l)
  where
    go : (t : Bool) → eqb c k ≡ t → (¬ (l ≡ text) → literal text l ≡ None)
        → and_then (cond t (after text l) None) is_nothing ≡ None
    go true e other = other (λ q. n (let f = eqb-true c k e in cc))
    go false e other = refl

module _ (key : List ℕ) (limit : ℕ) (l : List ℕ) where
  pub count_no_key : after key l ≡ None → count key limit l ≡ None
  count_no_key e = rw e

  module _ {text : List ℕ} (e : after key l ≡ Some text) where
    pub count_no_number : number_of text ≡ None → count key limit l ≡ None
    count_no_number f =
        ap (λ (o : Option (List ℕ)). and_then o (λ text. and_then (number_of text) (at_most limit))) e
        ∙ ap (λ (o : Option ℕ). and_then o (at_most limit)) f

    count_at_most : {n : ℕ} → number_of text ≡ Some n → count key limit l ≡ at_most limit n
    count_at_most f =
        ap (λ (o : Option (List ℕ)). and_then o (λ text. and_then (number_of text) (at_most limit))) e
        ∙ ap (λ (o : Option ℕ). and_then o (at_most limit)) f

    pub count_over : {n : ℕ} → number_of text ≡ Some n → limit < n → count key limit l ≡ None
    count_over {n} f h = count_at_most f ∙ rw (lt-leb n limit h)

    pub count_is : {n : ℕ} → number_of text ≡ Some n → n ≤ limit → count key limit l ≡ Some n
    count_is {n} f h = count_at_most f ∙ rw (le-leb n limit h)

module _ (key : List ℕ) (width : ℕ) (l : List ℕ) where
  pub row_no_key : after key l ≡ None → row_of key width l ≡ None
  row_no_key e = rw e

  pub row_is : {text : List ℕ} → after key l ≡ Some text → row_of key width l ≡ words_of width (fields_of text)
  row_is e = ap (λ (o : Option (List ℕ)). and_then o (λ text. words_of width (fields_of text))) e

-- a string, where all strings together keep the limit
abbrev pub within_bytes : ℕ → List ℕ → Option (List ℕ)
within_bytes used text = cond (leb (used + length text) max_bytes) (Some text) None

-- a string that is read keeps the limit
pub string_keeps : (used : ℕ) (l : List ℕ) {text : List ℕ}
    → string_after used l ≡ Some text → used + length text ≤ max_bytes
string_keeps used l {text} = by_key (after (ascii "s=") l)
  where
    by_test : (run : List ℕ) (t : Bool) → leb (used + length run) max_bytes ≡ t
        → cond t (Some run) None ≡ Some text → used + length text ≤ max_bytes
    by_test run true e q =
        let f : run ≡ text = same_Some run text q in
        rw f at (leb-true (used + length run) max_bytes e)
    by_test run false e q = let z : ◌≡◌ {A = ℕ} 0 1 = cc in absurd (omega arith)

    by_digits : (o : Option (List ℕ)) → and_then o (within_bytes used) ≡ Some text → used + length text ≤ max_bytes
    by_digits None q = let z : ◌≡◌ {A = ℕ} 0 1 = cc in absurd (omega arith)
    by_digits (Some run) q = by_test run (leb (used + length run) max_bytes) refl q

    by_key : (o : Option (List ℕ)) → and_then o (λ digits. and_then (hex_bytes digits) (within_bytes used)) ≡ Some text
        → used + length text ≤ max_bytes
    by_key None q = let z : ◌≡◌ {A = ℕ} 0 1 = cc in absurd (omega arith)
    by_key (Some digits) q = by_digits (hex_bytes digits) q

-- a string line adds its bytes and their end
abbrev pub with_text : Tables → List ℕ → Tables
with_text t text =
    tables_of (string_table (t.strings.bytes ++ text)
    (t.strings.ends ++ (length t.strings.bytes + length text) ∷ [])) t.schema t.instance

pub string_adds : (t : Tables) (l : List ℕ)
    → add_string t l ≡ and_then (string_after (length t.strings.bytes) l) (λ text. Some (with_text t text))
string_adds t l = by_key (after (ascii "s=") l)
  where
    by_test : (text : List ℕ) (b : Bool)
        → cond b (Some (with_text t text)) None ≡ and_then (cond b (Some text) None) (λ text. Some (with_text t text))
    by_test text true = refl
    by_test text false = refl

    by_digits : (o : Option (List ℕ)) → and_then o (with_string t)
        ≡ and_then (and_then o (within_bytes (length t.strings.bytes))) (λ text. Some (with_text t text))
    by_digits None = refl
    by_digits (Some text) = by_test text (leb (length t.strings.bytes + length text) max_bytes)

    by_key : (o : Option (List ℕ)) → and_then o (λ digits. and_then (hex_bytes digits) (with_string t))
        ≡ and_then (and_then o (λ digits. and_then (hex_bytes digits) (within_bytes (length t.strings.bytes)))) (λ text.
        Some (with_text t text))
    by_key None = refl
    by_key (Some digits) = by_digits (hex_bytes digits)
