-- What a job file reads as keeps the limits of FORMAT, "Job file", in whole rows.
use Prim.Native.Nat.{ℕ, zero, suc, ◌+◌, ◌*◌, ◌≤◌}
use mathlib.Core.Path.{◌≡◌, refl, ◌∙◌, ap, subst}
use mathlib.Core.Bool.{Bool, true, false, cond}
use mathlib.Core.List.{List, [], ◌∷◌, ◌++◌}
use Rattle.std.specs.Prelude.{Option, None, Some}
use native.Mathlib.Nat.{zero-add}
use native.Mathlib.Omega.{arith}
use lib.Dec.{ltb, leb}
use lib.ListN.{length, length-append}
use borrow.Author.Tests.{leb-true}
use Rattle.tables.specs.Tables.{Tables, tables_of, string_table}
use Rattle.strings.specs.Strings.{max_strings, max_bytes}
use Rattle.schema.specs.RowRule.{max_rows}
use Rattle.instance.specs.NodeRule.{max_nodes}
use Rattle.job.specs.Ascii.{ascii}
use Rattle.job.specs.Numbers.{number_of, word_of, hex_bytes}
use Rattle.job.specs.Lines.{lines_of, is_ended, fields_of, after}
use Rattle.job.specs.Reading.{no_tables, Reading, read, wrong, max_file, and_then, line_by, line, lines, literal}
use Rattle.job.specs.Reading.{count, add_string, words_of, row_of, add_row, add_node, nothing_more, read_lines}
use Rattle.job.specs.Reading.{read_job}

-- a reading that is right is not wrong
pub not_wrong : {n : ℕ} {t : Tables} → wrong n ≡ read t → ⊥
not_wrong e = let z : ◌≡◌ {A = ℕ} 0 1 = cc in omega arith

none_some : {A : Type 0} {a : A} → None ≡ Some a → ⊥
none_some e = let z : ◌≡◌ {A = ℕ} 0 1 = cc in omega arith

-- what came of two steps
module _ {A B : Type 0} where
  then_some : (o : Option A) {f : A → Option B} {b : B} → and_then o f ≡ Some b → (a : A) × (o ≡ Some a)
      × (f a ≡ Some b)
  then_some None e = absurd (none_some e)
  then_some (Some a) e = (a, refl, e)

-- a line that was read, and what came after it
module _ {A : Type 0} {t : Tables} where
  line_read : (holds : List ℕ → Option A) (n : ℕ) (rest : List (List ℕ)) (next : A → ℕ → List (List ℕ) → Reading)
      → line holds n rest next ≡ read t
      → (l : List ℕ) × (a : A) × (m : ℕ) × (others : List (List ℕ)) × (holds l ≡ Some a) × (next a m others ≡ read t)
  line_read holds n [] next e = absurd (not_wrong e)
  line_read holds n (l ∷ rest) next e = go (holds l) refl e
    where
      go : (o : Option A) → holds l ≡ o → line_by o n rest next ≡ read t → (l : List ℕ) × (a : A)
          × (m : ℕ) × (others : List (List ℕ)) × (holds l ≡ Some a) × (next a m others ≡ read t)
      go None f g = absurd (not_wrong g)
      go (Some a) f g = (l, a, suc n, rest, f, g)

-- so many lines, each of which takes one step of P
module _ {t : Tables} (P : ℕ → Tables → Type 0) (add : Tables → List ℕ → Option Tables)
    (step : (k : ℕ) (u v : Tables) (l : List ℕ) → P k u → add u l ≡ Some v → P (suc k) v) where
  lines_read : (number k : ℕ) (u : Tables) (n : ℕ) (rest : List (List ℕ)) (next : Tables → ℕ → List (List ℕ) → Reading)
      → P k u → lines add number u n rest next ≡ read t
      → (v : Tables) × (m : ℕ) × (others : List (List ℕ)) × P (k + number) v × (next v m others ≡ read t)
  unfolding lines
  lines_read zero k u n rest next p e = (u, n, rest, let z : k + 0 ≡ k = omega arith in rw z p, e)
  lines_read (suc number) k u n rest next p e =
      let r = line_read (add u) n rest (λ u n rest. lines add number u n rest next) e in
      let s = lines_read number (suc k) r.1 r.2 r.3 next (step k u r.1 r.0 p r.4) r.5 in
      (s.0, s.1, s.2, let z : suc k + number ≡ k + suc number = omega arith in rw (← z) s.3, s.4)

  -- from the first line on
  all_read : (number : ℕ) (u : Tables) (n : ℕ) (rest : List (List ℕ)) (next : Tables → ℕ → List (List ℕ) → Reading)
      → P 0 u → lines add number u n rest next ≡ read t
      → (v : Tables) × (m : ℕ) × (others : List (List ℕ)) × P number v × (next v m others ≡ read t)
  all_read number u n rest next p e =
      let s = lines_read number 0 u n rest next p e in
      (s.0, s.1, s.2, subst (λ (k : ℕ). P k s.0) (zero-add number) s.3, s.4)

-- a count keeps its limit
pub count_limit : (key : List ℕ) (limit : ℕ) (l : List ℕ) {n : ℕ} → count key limit l ≡ Some n → n ≤ limit
count_limit key limit l {n} e =
    let r = then_some (after key l) e in
    let s = then_some (number_of r.0) r.2 in
    go s.0 (leb s.0 limit) refl s.2
  where
    go : (m : ℕ) (b : Bool) → leb m limit ≡ b → cond b (Some m) None ≡ Some n → n ≤ limit
    go m true f g = let z : m ≡ n = cc g in let h = leb-true m limit f in omega arith
    go m false f g = absurd (none_some g)

words_length : (n : ℕ) (fields : List (List ℕ)) {ws : List ℕ} → words_of n fields ≡ Some ws → length ws ≡ n
words_length zero [] {ws} e = let z : ws ≡ [] = cc e in ap length z
words_length zero (f ∷ fields) e = absurd (none_some e)
words_length (suc n) [] e = absurd (none_some e)
words_length (suc n) (f ∷ fields) {ws} e =
    let r = then_some (word_of f) e in
    let s = then_some (words_of n fields) r.2 in
    let z : ws ≡ r.0 ∷ s.0 = cc s.2 in
    ap length z ∙ let i = words_length n fields s.1 in omega arith

pub row_length : (key : List ℕ) (width : ℕ) (l : List ℕ) {row : List ℕ}
    → row_of key width l ≡ Some row → length row ≡ width
row_length key width l e = let r = then_some (after key l) e in words_length width (fields_of r.0) r.2

-- how long the tables are
pub record Lengths (strings rows nodes : ℕ) (t : Tables) : Type 0 where
  pub few_bytes : length t.strings.bytes ≤ max_bytes
  pub of_ends : length t.strings.ends ≡ strings
  pub of_schema : length t.schema ≡ 3 * rows
  pub of_instance : length t.instance ≡ 5 * nodes

string_step : (k : ℕ) (u v : Tables) (l : List ℕ) → Lengths k 0 0 u → add_string u l ≡ Some v → Lengths (suc k) 0 0 v
string_step k u v l p e =
    let r = then_some (after (ascii "s=") l) e in
    let s = then_some (hex_bytes r.0) r.2 in
    go s.0 (leb (length u.strings.bytes + length s.0) max_bytes) refl s.2
  where
    go : (text : List ℕ) (b : Bool) → leb (length u.strings.bytes + length text) max_bytes ≡ b
        → cond b (Some (tables_of (string_table (u.strings.bytes ++ text)
        (u.strings.ends ++ (length u.strings.bytes + length text) ∷ [])) u.schema u.instance)) None
        ≡ Some v → Lengths (suc k) 0 0 v
    go text true f g =
        let z : tables_of (string_table (u.strings.bytes ++ text) (u.strings.ends
        ++ (length u.strings.bytes + length text) ∷ [])) u.schema u.instance ≡ v = cc g in
        subst (Lengths (suc k) 0 0) z (record {
          few_bytes = let h = leb-true (length u.strings.bytes + length text) max_bytes f in
              let i = length-append u.strings.bytes text in
              omega arith;
          of_ends = let h = p.of_ends in
              let i = length-append u.strings.ends ((length u.strings.bytes + length text) ∷ []) in
              omega arith;
          of_schema = p.of_schema;
          of_instance = p.of_instance;
        })
    go text false f g = absurd (none_some g)

row_step : (strings : ℕ) (k : ℕ) (u v : Tables) (l : List ℕ)
    → Lengths strings k 0 u → add_row u l ≡ Some v → Lengths strings (suc k) 0 v
row_step strings k u v l p e =
    let r = then_some (row_of (ascii "row=") 3 l) e in
    let z : tables_of u.strings (u.schema ++ r.0) u.instance ≡ v = cc r.2 in
    subst (Lengths strings (suc k) 0) z (record {
      few_bytes = p.few_bytes;
      of_ends = p.of_ends;
      of_schema = let h = p.of_schema in
          let i = length-append u.schema r.0 in
          let j = row_length (ascii "row=") 3 l r.1 in
          omega arith;
      of_instance = p.of_instance;
    })

node_step : (strings rows : ℕ) (k : ℕ) (u v : Tables) (l : List ℕ)
    → Lengths strings rows k u → add_node u l ≡ Some v → Lengths strings rows (suc k) v
node_step strings rows k u v l p e =
    let r = then_some (row_of (ascii "node=") 5 l) e in
    let z : tables_of u.strings u.schema (u.instance ++ r.0) ≡ v = cc r.2 in
    subst (Lengths strings rows (suc k)) z (record {
      few_bytes = p.few_bytes;
      of_ends = p.of_ends;
      of_schema = p.of_schema;
      of_instance = let h = p.of_instance in
          let i = length-append u.instance r.0 in
          let j = row_length (ascii "node=") 5 l r.1 in
          omega arith;
    })

-- the limits, in whole rows
pub record Limited (t : Tables) : Type 0 where
  pub strings : ℕ
  pub rows : ℕ
  pub nodes : ℕ
  pub lengths : Lengths strings rows nodes t
  pub few_strings : strings ≤ max_strings
  pub few_rows : rows ≤ max_rows
  pub few_nodes : nodes ≤ max_nodes

-- after the last line the tables are those that were read
last_line : (text : List ℕ) {t : Tables} (s r n : ℕ) (u : Tables) (rest : List (List ℕ)) (m : ℕ)
    → Lengths s r n u → nothing_more text u m rest ≡ read t → Lengths s r n t
last_line text {t} s r n u [] m p q = go (is_ended text) q
  where
    go : (b : Bool) → cond b (read u) (wrong m) ≡ read t → Lengths s r n t
    go true q = let z : u ≡ t = cc q in subst (Lengths s r n) z p
    go false q = absurd (not_wrong q)
last_line text s r n u (l ∷ rest) m p q = absurd (not_wrong q)

lines_limited : (text : List ℕ) {t : Tables} → read_lines text ≡ read t → Limited t
lines_limited text {t} e =
    let a = line_read (literal (ascii "rng=1")) 1 (lines_of text) _ e in
    let b = line_read (count (ascii "strings=") max_strings) a.2 a.3 _ a.5 in
    let c = all_read (λ k u. Lengths k 0 0 u) add_string string_step b.1 no_tables b.2 b.3 _ start b.5 in
    let d = line_read (count (ascii "schema=") max_rows) c.1 c.2 _ c.4 in
    let f = all_read (λ k u. Lengths b.1 k 0 u) add_row
    (row_step b.1) d.1 c.0 d.2 d.3 _ c.3 d.5 in
    let g = line_read (count (ascii "instance=") max_nodes) f.1 f.2 _ f.4 in
    let h = all_read (λ k u. Lengths b.1 d.1 k u) add_node
    (node_step b.1 d.1) g.1 f.0 g.2 g.3 _ f.3 g.5 in
    let i = line_read (literal (ascii "end=1")) h.1 h.2 _ h.4 in
    record {
      strings = b.1;
      rows = d.1;
      nodes = g.1;
      lengths = last_line text b.1 d.1 g.1 h.0 i.3 i.2 h.3 i.5;
      few_strings = count_limit (ascii "strings=") max_strings b.0 b.4;
      few_rows = count_limit (ascii "schema=") max_rows d.0 d.4;
      few_nodes = count_limit (ascii "instance=") max_nodes g.0 g.4;
    }
  where
    start : Lengths 0 0 0 no_tables
    start = record { few_bytes = omega arith; of_ends = refl; of_schema = refl; of_instance = refl }

pub limited : (text : List ℕ) {t : Tables} → read_job text ≡ read t → Limited t
limited text {t} e = go (ltb max_file (length text)) e
  where
    go : (b : Bool) → cond b (wrong 0) (read_lines text) ≡ read t → Limited t
    go true q = absurd (not_wrong q)
    go false q = lines_limited text q
