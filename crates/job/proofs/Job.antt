-- The round trip of a whole job.
use mathlib.Core.Path.{◌≡◌, refl, sym, ◌∙◌, ap, ap₂}
use mathlib.Core.Bool.{Bool, true, not, ◌&&◌, true≢false}
use mathlib.Core.List.{List, [], ◌∷◌, ◌++◌, append-nil, append_assoc}
use Rattle.std.specs.Prelude.{Some}
use Prim.Native.Nat.{ℕ, zero, suc, ◌+◌, ◌-◌, ◌*◌, ◌%◌, ◌<◌, ◌≤◌}
use native.Mathlib.Nat.{add-zero, zero-add}
use native.Mathlib.Omega.{arith}
use lib.ListN.{length, take, drop, length-drop}
use lib.Seq.{length-take-le, take-add, take_all, take-suc}
use lib.Dec.{eqb}
use borrow.Author.Tests.{le-leb, le-ltb, eq-eqb}
use Rattle.tables.proofs.Numbers.{not_less, is_same}
use Rattle.tables.specs.Tables.{StringTable, Tables, tables_of, string_table}
use Rattle.strings.specs.Strings.{max_strings, max_bytes, start_of, end_of, text_of, StringsRight, no_string}
use Rattle.strings.specs.Strings.{too_many_strings, too_many_bytes, at_front, last_end_wrong, bad_end}
use Rattle.strings.proofs.Table.{ends_of, start_before_end, end_within}
use Rattle.schema.specs.RowRule.{max_rows}
use Rattle.schema.specs.Rows.{rows_of}
use Rattle.instance.specs.NodeRule.{max_nodes}
use Rattle.instance.specs.Nodes.{nodes_of}
use Rattle.instance.proofs.Order.{and_parts}
use Rattle.job.specs.Ascii.{ascii}
use Rattle.job.specs.Numbers.{decimal, words_text, hex_text, Words, Bytes}
use Rattle.job.specs.Lines.{line_feed, lines_of, is_ended}
use Rattle.job.specs.Written.{string_lines, row_lines, job_lines, job_text}
use Rattle.job.specs.Reading.{Reading, read, lines, add_string, add_row, add_node, read_lines, read_job, max_file}
use Rattle.job.proofs.Texts.{Lacks, lacks_append, lacks_decimal, lacks_words, lacks_hex}
use Rattle.job.proofs.Texts.{Lined, lines_back, lined_append, lines_ended, bytes_back}
use Rattle.job.proofs.RoundTrip.{count_back, bytes_take, bytes_drop, with_row}
use Rattle.job.proofs.RoundTrip.{with_node, rows_back, schema_back, instance_back}

module _ (T : StringTable) (right : StringsRight T) where
  pub few_bytes : length T.bytes ≤ max_bytes
  few_bytes = not_less (λ f. right 0 (bad_end (at_front (too_many_bytes f refl))))

  pub few_strings : length T.ends ≤ max_strings
  few_strings = not_less (λ f. right 0 (bad_end (at_front (too_many_strings f refl))))

  last : (k : ℕ) → suc k ≡ length T.ends → end_of T.ends k ≡ length T.bytes
  last k e = is_same (λ n. right k (bad_end (last_end_wrong e n)))

  -- the strings before j
  abbrev before : ℕ → Tables
  before j = tables_of (string_table (take (start_of T.ends j) T.bytes) (take j T.ends)) [] []

  add_back : (j : ℕ) → Bytes T.bytes → j < length T.ends
      → add_string (before j) (ascii "s=" ++ hex_text (text_of T j)) ≡ Some (before (suc j))
  add_back j b h =
      let r = start_before_end (ends_of right) j h in
      let w = end_within (ends_of right) (length T.ends - suc j) j (omega arith) in
      let s : length (take (start_of T.ends j) T.bytes)
      ≡ start_of T.ends j = length-take-le (start_of T.ends j) T.bytes (omega arith) in
      let d = length-drop (start_of T.ends j) T.bytes in
      let l : length (text_of T j) ≡ end_of T.ends j - start_of T.ends j = length-take-le (end_of T.ends j
      - start_of T.ends j) (drop (start_of T.ends j) T.bytes) (omega arith) in
      let e : start_of T.ends j + (end_of T.ends j - start_of T.ends j) ≡ end_of T.ends j = omega arith in
      let t : take (start_of T.ends j) T.bytes ++ text_of T j ≡ take (end_of T.ends j) T.bytes =
      sym (take-add (start_of T.ends j) (end_of T.ends j - start_of T.ends j) T.bytes)
      ∙ ap (λ k. take k T.bytes) e in
      let f : take j T.ends ++ end_of T.ends j ∷ [] ≡ take (suc j) T.ends = sym (take-suc T.ends j 0 h) in
      rw (
        bytes_back (text_of T j) (bytes_take (end_of T.ends j - start_of T.ends j)
            (drop (start_of T.ends j) T.bytes) (bytes_drop (start_of T.ends j) T.bytes b)),
        s,
        l,
        e,
        le-leb (end_of T.ends j) max_bytes (let m = few_bytes in omega arith),
        t,
        f,
      )

  strings_back : Bytes T.bytes
      → (n j k : ℕ) (rest : List (List ℕ)) (next : Tables → ℕ → List (List ℕ) → Reading) → j + n ≡ length T.ends
      → lines add_string n (before j) k (string_lines T j n ++ rest) next ≡ next (before (j + n)) (n + k) rest
  unfolding lines string_lines
  strings_back b zero j k rest next e = ap₂ (λ j k. next (before j) k rest) (sym (add-zero j)) (sym (zero-add k))
  strings_back b (suc n) j k rest next e =
      let u : suc j + n ≡ j + suc n = omega arith in
      let v : n + suc k ≡ suc n + k = omega arith in
      rw (add_back j b (omega arith))
      (strings_back b n (suc j) (suc k) rest next (omega arith) ∙ ap₂ (λ j k. next (before j) k rest) u v)

  -- all strings
  whole : before (length T.ends) ≡ tables_of T [] []
  whole = go (length T.ends) refl
    where
      go : (n : ℕ) → length T.ends ≡ n → before n ≡ tables_of T [] []
      go zero e = absurd (right 0 (bad_end (at_front (no_string e refl))))
      go (suc n) e =
          let l = last n (sym e) in
          ap₂ (λ b e. tables_of (string_table b e) [] []) (take_all (end_of T.ends n) T.bytes (omega arith))
          (take_all (suc n) T.ends (omega arith))

abbrev lacks_feed : List ℕ → Bool
lacks_feed [] = true
lacks_feed (c ∷ l) = not (eqb c line_feed) && lacks_feed l

-- no line feed in a line
lined_strings : (T : StringTable) (k n : ℕ) → Lined (string_lines T k n)
unfolding string_lines Lined
lined_strings T k zero = tt
lined_strings T k (suc n) =
    ((λ z. omega arith, (λ z. omega arith, lacks_hex line_feed (text_of T k) (omega arith))), lined_strings T (suc k) n)

lined_rows : (key : List ℕ) → Lacks line_feed key → (width n : ℕ) (table : List ℕ) → Lined (row_lines key width n table)
unfolding row_lines Lined
lined_rows key h width zero table = tt
lined_rows key h width (suc n) table = (
  lacks_append line_feed key (words_text (take width table)) h (lacks_words line_feed (take width table) (omega arith)),
  lined_rows key h width n (drop width table),
)

clear : (key : List ℕ) → lacks_feed key ≡ true → Lacks line_feed key
clear [] e = tt
clear (c ∷ key) e =
    let p = and_parts (not (eqb c line_feed)) (lacks_feed key) e in
    (λ z. true≢false (sym p.0 ∙ ap not (eq-eqb c line_feed z)), clear key p.1)

-- the parts of a job's lines
module _ (J : Tables) where
  abbrev strings : List (List ℕ)
  strings =
      ascii "rng=1" ∷ (ascii "strings=" ++ decimal (length J.strings.ends))
      ∷ string_lines J.strings 0 (length J.strings.ends)

  abbrev rows : List (List ℕ)
  rows = (ascii "schema=" ++ decimal (rows_of J.schema)) ∷ row_lines (ascii "row=") 3 (rows_of J.schema) J.schema

  abbrev nodes : List (List ℕ)
  nodes =
      (ascii "instance=" ++ decimal (nodes_of J.instance))
      ∷ row_lines (ascii "node=") 5 (nodes_of J.instance) J.instance

  lacks_count : (key : List ℕ) → lacks_feed key ≡ true → (n : ℕ) → Lacks line_feed (key ++ decimal n)
  lacks_count key e n = lacks_append line_feed key (decimal n) (clear key e) (lacks_decimal line_feed n (omega arith))

  lined_job : Lined (job_lines J)
  unfolding Lined
  lined_job =
      lined_append (strings ++ rows ++ nodes) (ascii "end=1" ∷ [])
      (lined_append (strings ++ rows) nodes
      (lined_append strings rows (
        clear (ascii "rng=1") refl,
        (
          lacks_count (ascii "strings=") refl (length J.strings.ends),
          lined_strings J.strings 0 (length J.strings.ends),
        ),
      ) (
        lacks_count (ascii "schema=") refl (rows_of J.schema),
        lined_rows (ascii "row=") (clear (ascii "row=") refl) 3 (rows_of J.schema) J.schema,
      )) (
        lacks_count (ascii "instance=") refl (nodes_of J.instance),
        lined_rows (ascii "node=") (clear (ascii "node=") refl) 5 (nodes_of J.instance) J.instance,
      ))
      (clear (ascii "end=1") refl, tt)

  abbrev in_turn : List (List ℕ)
  in_turn =
      ascii "rng=1"
      ∷ (ascii "strings=" ++ decimal (length J.strings.ends))
      ∷ (string_lines J.strings 0 (length J.strings.ends)
      ++ (ascii "schema=" ++ decimal (rows_of J.schema))
      ∷ (row_lines (ascii "row=") 3 (rows_of J.schema) J.schema
      ++ (ascii "instance=" ++ decimal (nodes_of J.instance))
      ∷ (row_lines (ascii "node=") 5 (nodes_of J.instance) J.instance
      ++ ascii "end=1"
      ∷ [])))

  lines_in_turn : lines_of (job_text J) ≡ in_turn
  lines_in_turn =
      lines_back (job_lines J) lined_job
      ∙ append_assoc (strings ++ rows) nodes (ascii "end=1" ∷ [])
      ∙ append_assoc strings rows (nodes ++ ascii "end=1" ∷ [])

  ended : is_ended (job_text J) ≡ true
  ended =
      lines_ended (ascii "rng=1") ((ascii "strings=" ++ decimal (length J.strings.ends))
      ∷ string_lines J.strings 0 (length J.strings.ends) ++ rows ++ nodes ++ ascii "end=1" ∷ [])

-- what the writer takes, as words and bytes of the machine
pub record Writable (J : Tables) : Type 0 where
  pub strings_right : StringsRight J.strings
  pub are_bytes : Bytes J.strings.bytes
  pub schema_words : Words J.schema
  pub instance_words : Words J.instance
  pub few_rows : rows_of J.schema ≤ max_rows
  pub whole_rows : length J.schema % 3 ≡ 0
  pub few_nodes : nodes_of J.instance ≤ max_nodes
  pub whole_nodes : length J.instance % 5 ≡ 0
  pub short : length (job_text J) ≤ max_file

module _ (J : Tables) (w : Writable J) where
  read_in_turn : (text : List ℕ) → lines_of text ≡ in_turn J → is_ended text ≡ true → read_lines text ≡ read J
  read_in_turn text e f =
      let right = w.strings_right in
      let a : length J.schema ≡ rows_of J.schema * 3 = (let z = w.whole_rows in omega arith) in
      let b : length J.instance ≡ nodes_of J.instance * 5 = (let z = w.whole_nodes in omega arith) in
      rw (
        e,
        count_back (ascii "strings=") max_strings (length J.strings.ends)
            (few_strings J.strings right) (omega arith),
        strings_back J.strings right w.are_bytes (length J.strings.ends)
            0 3 _ _ (zero-add (length J.strings.ends)),
        zero-add (length J.strings.ends),
        whole J.strings right,
        count_back (ascii "schema=") max_rows (rows_of J.schema) w.few_rows (omega arith),
        rows_back add_row (ascii "row=") 2 with_row schema_back
            (λ t a b. ap (λ (r : List ℕ). tables_of t.strings r t.instance) (append_assoc t.schema a b))
            (λ t. ap (λ (r : List ℕ). tables_of t.strings r t.instance) (append-nil t.schema))
            (rows_of J.schema) _ _ J.schema _ _ a w.schema_words,
        count_back (ascii "instance=") max_nodes (nodes_of J.instance) w.few_nodes (omega arith),
        rows_back add_node (ascii "node=") 4 with_node instance_back
            (λ t a b. ap (λ (r : List ℕ). tables_of t.strings t.schema r) (append_assoc t.instance a b))
            (λ t. ap (λ (r : List ℕ). tables_of t.strings t.schema r) (append-nil t.instance))
            (nodes_of J.instance) _ _ J.instance _ _ b w.instance_words,
        f,
      )

  pub round_trip : read_job (job_text J) ≡ read J
  round_trip =
      rw (le-ltb max_file (length (job_text J)) w.short)
      (read_in_turn (job_text J) (lines_in_turn J) (ended J))
