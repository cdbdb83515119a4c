-- The loops over the lines of a table: what is read after so many lines.
use mathlib.Core.Path.{◌≡◌, refl, sym, ◌∙◌, ap}
use mathlib.Core.List.{List, [], ◌∷◌, ◌++◌}
use Rattle.std.specs.Prelude.{Option, None, Some}
use Prim.Native.Nat.{ℕ, zero, suc, ◌+◌, ◌-◌, ◌*◌, ◌≤◌, ◌<◌}
use native.Mathlib.Omega.{arith}
use native.Mathlib.Numerals.{add-one}
use lib.ListN.{length, drop, set, length-append}
use lib.Seq.{sets}
use Rattle.tables.specs.Tables.{Tables}
use Rattle.strings.specs.Strings.{max_strings, max_bytes}
use Rattle.tables.specs.Place.{between}
use Rattle.job.specs.Lines.{lines_of}
use Rattle.job.specs.Reading.{wrong, line_by, lines, and_then, add_string, row_of}
use Rattle.job_lines.specs.Parts.{string_after, LineTo, StoredTo}
use Rattle.job_lines.specs.Steps.{Next, Add, string_tables, read_strings, StringsTo}
use Rattle.job_lines.specs.Steps.{AddsWords, read_rows, RowsTo, RowsStop}
use Rattle.tables.proofs.Stores.{sets_append}
use Rattle.job_lines.proofs.Passing.{with_text, string_keeps, string_adds}
use Rattle.job.proofs.Limits.{row_length}

-- ---- one line of several
module _ (add : Add) where
  pub lines_end : (left : ℕ) (t : Tables) (n : ℕ) (ls : List (List ℕ)) (next : Next)
      → left ≤ 0 → lines add left t n ls next ≡ next t n ls
  unfolding lines
  lines_end zero t n ls next h = refl
  lines_end (suc left) t n ls next h = absurd (omega arith)

  module _ (t : Tables) (n : ℕ) (next : Next) where
    pub lines_missing : (left : ℕ) → 0 < left → {ls : List (List ℕ)} → ls ≡ [] → lines add left t n ls next ≡ wrong n
    unfolding lines
    lines_missing zero h e = absurd (omega arith)
    lines_missing (suc left) h e = ap (λ (x : List (List ℕ)). lines add (suc left) t n x next) e

    module _ (l : List ℕ) (rest : List (List ℕ)) where
      pub lines_stop : (left : ℕ) → 0 < left → {ls : List (List ℕ)}
          → ls ≡ l ∷ rest → add t l ≡ None → lines add left t n ls next ≡ wrong n
      unfolding lines
      lines_stop zero h e f = absurd (omega arith)
      lines_stop (suc left) h e f =
          ap (λ (x : List (List ℕ)). lines add (suc left) t n x next) e
          ∙ ap (λ (o : Option Tables). line_by o n rest (λ t n rest. lines add left t n rest next)) f

      pub lines_pass : (left : ℕ) → 0 < left → {ls : List (List ℕ)} {t' : Tables} → ls ≡ l ∷ rest
          → add t l ≡ Some t' → lines add left t n ls next ≡ lines add (left - 1) t' (n + 1) rest next
      unfolding lines
      lines_pass zero h e f = absurd (omega arith)
      lines_pass (suc left) h {ls} {t'} e f =
          let p : suc left - 1 ≡ left = omega arith in
          ap (λ (x : List (List ℕ)). lines add (suc left) t n x next) e
          ∙ ap (λ (o : Option Tables). line_by o n rest (λ t n rest. lines add left t n rest next)) f
          ∙ rw (add-one, p)

-- ---- strings
-- of the strings k are read, and the next line starts at a position
pub record StringsRead (strings n : ℕ) (ls : List (List ℕ))
    (file bytes ends bytes' ends' : List ℕ) (at k used : ℕ) : Type 0 where
  pub text : List ℕ
  pub marks : List ℕ
  pub passes : (next : Next) → read_strings strings n ls next
      ≡ lines add_string (strings - k) (string_tables text marks) (n + k) (lines_of (drop at file)) next
  pub bytes_hold : bytes' ≡ sets bytes 0 text
  pub ends_hold : ends' ≡ sets ends 0 marks
  pub size : used ≡ length text
  pub small : used ≤ max_bytes
  pub many : length marks ≡ k

module _ {strings n : ℕ} {ls : List (List ℕ)} {file bytes ends bytes' ends' : List ℕ}
    {at k used : ℕ} (s : StringsRead strings n ls file bytes ends bytes' ends' at k used) where
  pub strings_done : k ≡ strings → strings ≤ max_strings
      → StringsTo (read_strings strings n ls) file bytes ends bytes' ends' strings (n + strings) at (n + strings) used
  strings_done e m = record {
    text = s.text;
    marks = s.marks;
    passes = λ next. s.passes next ∙ lines_end add_string (strings - k)
        (string_tables s.text s.marks) (n + k) (lines_of (drop at file)) next (omega arith)
        ∙ ap (λ (i : ℕ). next (string_tables s.text s.marks) (n + i) (lines_of (drop at file))) e;
    bytes_hold = s.bytes_hold;
    ends_hold = s.ends_hold;
    size = s.size;
    small = s.small;
    many = s.many ∙ e;
    few = m;
    below = omega arith;
  }

  module _ (h : k < strings) where
    pub strings_missing : lines_of (drop at file) ≡ [] → (next : Next) → read_strings strings n ls next ≡ wrong (n + k)
    strings_missing e next =
        s.passes next
        ∙ lines_missing add_string (string_tables s.text s.marks) (n + k) next (strings - k) (omega arith) e

    module _ {e : ℕ} (l : LineTo file at e) where
      adds : {o : Option (List ℕ)} → string_after used (between file at e) ≡ o
          → add_string (string_tables s.text s.marks) (between file at e)
          ≡ and_then o (λ run. Some (with_text (string_tables s.text s.marks) run))
      adds q =
          string_adds (string_tables s.text s.marks) (between file at e)
          ∙ ap (λ (o : Option (List ℕ)). and_then o (λ run. Some (with_text (string_tables s.text s.marks) run)))
          (ap (λ (i : ℕ). string_after i (between file at e)) (sym s.size) ∙ q)

      pub strings_stop : string_after used (between file at e) ≡ None
          → (next : Next) → read_strings strings n ls next ≡ wrong (n + k)
      strings_stop q next =
          s.passes next
          ∙ lines_stop add_string (string_tables s.text s.marks) (n + k) next (between file at e)
          (lines_of (drop (e + 1) file)) (strings - k) (omega arith) l.splits (adds q)

      pub strings_more : {bytes'' ends'' : List ℕ} {to : ℕ}
          → StoredTo (string_after used (between file at e)) bytes' used bytes'' to → ends'' ≡ set ends' k to
          → StringsRead strings n ls file bytes ends bytes'' ends'' (e + 1) (k + 1) to
      strings_more {bytes''} {ends''} {to} r f =
          let p : strings - k - 1 ≡ strings - (k + 1) = omega arith in
          let m : n + k + 1 ≡ n + (k + 1) = omega arith in
          let q : length s.text + length r.run ≡ to = omega (arith, s.size, r.ends) in
          record {
            text = s.text ++ r.run;
            marks = s.marks ++ to ∷ [];
            passes = λ next.
                s.passes next
                ∙ lines_pass add_string (string_tables s.text s.marks) (n + k) next (between file at e)
                (lines_of (drop (e + 1) file)) (strings - k) (omega arith) l.splits (adds r.is)
                ∙ rw (p, m, q);
            bytes_hold =
                r.stored
                ∙ ap (λ (out : List ℕ). sets out used r.run) s.bytes_hold
                ∙ ap (λ (i : ℕ). sets (sets bytes 0 s.text) i r.run) (s.size ∙ omega arith)
                ∙ sets_append bytes 0 s.text r.run;
            ends_hold =
                f
                ∙ ap (λ (out : List ℕ). set out k to) s.ends_hold
                ∙ ap (λ (i : ℕ). set (sets ends 0 s.marks) i to) (sym s.many ∙ omega arith)
                ∙ sets_append ends 0 s.marks (to ∷ []);
            size = sym q ∙ sym (length-append s.text r.run);
            small = omega (arith, r.ends, string_keeps used (between file at e) r.is);
            many = length-append s.marks (to ∷ []) ∙ omega (arith, s.many);
          }

-- ---- rows
-- of the rows k are read, and the next line starts at a position
pub record RowsRead (key : List ℕ) (width rows n : ℕ) (ls : List (List ℕ))
    (file out out' : List ℕ) (at k used : ℕ) : Type 0 where
  pub words : List ℕ
  pub passes : {add : Add} {grow : Tables → List ℕ → Tables} → AddsWords key width add grow → (t : Tables) (next : Next)
      → read_rows rows n ls add t next ≡ lines add (rows - k) (grow t words) (n + k) (lines_of (drop at file)) next
  pub holds : out' ≡ sets out 0 words
  pub size : used ≡ length words
  pub small : used ≤ 5 * k

pub rows_none : (key : List ℕ) (width rows n at : ℕ) (file out : List ℕ)
    → RowsRead key width rows n (lines_of (drop at file)) file out out at 0 0
rows_none key width rows n at file out =
    let e : rows - 0 ≡ rows = omega arith in
    let f : n + 0 ≡ n = omega arith in
    record {
      words = [];
      passes = λ {add} {grow} a t next. rw (e, f, a.grow_none t);
      holds = refl;
      size = refl;
      small = omega arith;
    }

module _ {key : List ℕ} {width rows n : ℕ} {ls : List (List ℕ)} {file out out' : List ℕ}
    {at k used : ℕ} (s : RowsRead key width rows n ls file out out' at k used) where
  pub rows_done : k ≡ rows → rows ≤ 1024
      → RowsTo key width (read_rows rows n ls) file out out' (n + rows) at (n + rows) used
  rows_done e m = record {
    words = s.words;
    passes = λ {add} {grow} a t next. s.passes a t next
        ∙ lines_end add (rows - k) (grow t s.words) (n + k) (lines_of (drop at file)) next (omega arith)
        ∙ ap (λ (i : ℕ). next (grow t s.words) (n + i) (lines_of (drop at file))) e;
    holds = s.holds;
    size = s.size;
    small = omega (arith, s.small);
    below = omega arith;
  }

  module _ (h : k < rows) where
    pub rows_missing : lines_of (drop at file) ≡ [] → RowsStop key width (read_rows rows n ls) (n + k)
    rows_missing e = record {
      stops = λ {add} {grow} a t next.
          s.passes a t next ∙ lines_missing add (grow t s.words) (n + k) next (rows - k) (omega arith) e;
    }

    module _ {e : ℕ} (l : LineTo file at e) where
      pub rows_stop : row_of key width (between file at e) ≡ None → RowsStop key width (read_rows rows n ls) (n + k)
      rows_stop q = record {
        stops = λ {add} {grow} a t next.
            s.passes a t next
            ∙ lines_stop add (grow t s.words) (n + k) next (between file at e)
            (lines_of (drop (e + 1) file)) (rows - k) (omega arith) l.splits
            (a.each (grow t s.words) (between file at e)
            ∙ ap (λ (o : Option (List ℕ)). and_then o (λ row. Some (grow (grow t s.words) row))) q);
      }

      pub rows_more : {out'' : List ℕ} {to : ℕ} → StoredTo (row_of key width (between file at e)) out' used out'' to
          → width ≤ 5 → RowsRead key width rows n ls file out out'' (e + 1) (k + 1) to
      rows_more {out''} {to} r w =
          let p : rows - k - 1 ≡ rows - (k + 1) = omega arith in
          let m : n + k + 1 ≡ n + (k + 1) = omega arith in
          record {
            words = s.words ++ r.run;
            passes = λ {add} {grow} a t next.
                s.passes a t next
                ∙ lines_pass add (grow t s.words) (n + k) next (between file at e)
                (lines_of (drop (e + 1) file)) (rows - k) (omega arith) l.splits
                (a.each (grow t s.words) (between file at e)
                ∙ ap (λ (o : Option (List ℕ)). and_then o (λ row. Some (grow (grow t s.words) row))) r.is)
                ∙ rw (p, m, a.grow_more t s.words r.run);
            holds =
                r.stored
                ∙ ap (λ (o : List ℕ). sets o used r.run) s.holds
                ∙ ap (λ (i : ℕ). sets (sets out 0 s.words) i r.run) (s.size ∙ omega arith)
                ∙ sets_append out 0 s.words r.run;
            size = omega (arith, s.size, r.ends, length-append s.words r.run);
            small = omega (arith, s.small, r.ends, row_length key width (between file at e) r.is);
          }
