-- The parts of a file, put together as the definition of reading does.
use mathlib.Core.Path.{◌≡◌, refl, sym, ◌∙◌, ap}
use mathlib.Core.List.{List, [], ◌++◌, append-nil, append_assoc}
use Prim.Native.Nat.{ℕ, ◌+◌, ◌≤◌, ◌<◌}
use native.Mathlib.Omega.{arith}
use lib.ListN.{length, drop}
use borrow.Author.Tests.{lt-ltb, le-ltb}
use Rattle.tables.specs.Tables.{Tables, tables_of}
use Rattle.strings.specs.Strings.{max_strings}
use Rattle.schema.specs.RowRule.{max_rows}
use Rattle.instance.specs.NodeRule.{max_nodes}
use Rattle.job.specs.Ascii.{ascii}
use Rattle.job.specs.Lines.{lines_of}
use Rattle.job.specs.Reading.{max_file, read_job, read_lines, read, wrong, literal, count, add_row, add_node}
use Rattle.job_lines.specs.Steps.{TakesLine, Next, string_tables, read_strings, StringsTo}
use Rattle.job_lines.specs.Steps.{AddsWords, read_table, RowsTo, RowsStop}
use Rattle.job_lines.specs.Steps.{read_end, read_front, max_front, read_back, with_rows, BackTo, LinesTo}

-- ---- the rows of a table
abbrev with_schema : Tables → List ℕ → Tables
with_schema t row = tables_of t.strings (t.schema ++ row) t.instance

abbrev with_instance : Tables → List ℕ → Tables
with_instance t row = tables_of t.strings t.schema (t.instance ++ row)

adds_row : AddsWords (ascii "row=") 3 add_row with_schema
adds_row = record {
  each = λ t l. refl;
  grow_none = λ t. ap (λ (s : List ℕ). tables_of t.strings s t.instance) (append-nil t.schema);
  grow_more = λ t a b. ap (λ (s : List ℕ). tables_of t.strings s t.instance) (append_assoc t.schema a b);
}

adds_node : AddsWords (ascii "node=") 5 add_node with_instance
adds_node = record {
  each = λ t l. refl;
  grow_none = λ t. ap (λ (s : List ℕ). tables_of t.strings t.schema s) (append-nil t.instance);
  grow_more = λ t a b. ap (λ (s : List ℕ). tables_of t.strings t.schema s) (append_assoc t.instance a b);
}

-- ---- the front
module _ {ls rest : List (List ℕ)} (header : TakesLine (literal (ascii "rng=1")) ls [] rest) where
  module _ {strings : ℕ} {after : List (List ℕ)}
      (counted : TakesLine (count (ascii "strings=") max_strings) rest strings after) where
    front_strings : (next : Next) → read_front ls next ≡ read_strings strings 3 after next
    front_strings next = header.on 1 _ ∙ counted.on 2 _

    pub front_done : {file bytes ends bytes' ends' : List ℕ} {at n used : ℕ}
        → StringsTo (read_strings strings 3 after) file bytes ends bytes' ends' strings (3 + strings) at n used
        → StringsTo (read_front ls) file bytes ends bytes' ends' strings max_front at n used
    front_done s = record {
      text = s.text;
      marks = s.marks;
      passes = λ next. front_strings next ∙ s.passes next;
      bytes_hold = s.bytes_hold;
      ends_hold = s.ends_hold;
      size = s.size;
      small = s.small;
      many = s.many;
      few = s.few;
      below = omega (arith, s.below, s.few);
    }

-- ---- the back
module _ (file : List ℕ) (n : ℕ) (ls : List (List ℕ)) where
  pub back_no_rows : {m : ℕ} → RowsStop (ascii "row=") 3 (read_table (ascii "schema=") max_rows n ls) m
      → (t : Tables) → read_back file n ls t ≡ wrong m
  back_no_rows s t = s.stops adds_row t _

  module _ {schema schema' : List ℕ} {top at n' used : ℕ} (rows : RowsTo (ascii "row=") 3
      (read_table (ascii "schema=") max_rows n ls) file schema schema' top at n' used) where
    pub back_no_nodes : {m : ℕ}
        → RowsStop (ascii "node=") 5 (read_table (ascii "instance=") max_nodes n' (lines_of (drop at file))) m
        → (t : Tables) → read_back file n ls t ≡ wrong m
    back_no_nodes s t = rows.passes adds_row t _ ∙ s.stops adds_node (with_schema t rows.words) _

    module _ {instance instance' : List ℕ} {top' at' n'' used' : ℕ}
        (nodes : RowsTo (ascii "node=") 5 (read_table (ascii "instance=") max_nodes n' (lines_of (drop at file)))
        file instance instance' top' at' n'' used') where
      to_end : (t : Tables)
          → read_back file n ls t ≡ read_end file n'' (lines_of (drop at' file)) (with_rows t rows.words nodes.words)
      to_end t = rows.passes adds_row t _ ∙ nodes.passes adds_node (with_schema t rows.words) _

      pub back_no_end : {m : ℕ} → ((t : Tables) → read_end file n'' (lines_of (drop at' file)) t ≡ wrong m)
          → (t : Tables) → read_back file n ls t ≡ wrong m
      back_no_end e t = to_end t ∙ e (with_rows t rows.words nodes.words)

      pub back_done : ((t : Tables) → read_end file n'' (lines_of (drop at' file)) t ≡ read t)
          → BackTo file n ls schema instance schema' instance' used used'
      back_done e = record {
        row_words = rows.words;
        node_words = nodes.words;
        reads = λ t. to_end t ∙ e (with_rows t rows.words nodes.words);
        schema_holds = rows.holds;
        instance_holds = nodes.holds;
        schema_size = rows.size;
        instance_size = nodes.size;
      }

-- ---- the whole file
module _ (file : List ℕ) where
  pub too_long : max_file < length file → read_job file ≡ wrong 0
  too_long h = rw (lt-ltb max_file (length file) h)

  module _ (short : length file ≤ max_file) where
    by_lines : read_job file ≡ read_lines file
    by_lines = rw (le-ltb max_file (length file) short)

    pub no_front : {m : ℕ} → ((next : Next) → read_front (lines_of file) next ≡ wrong m) → read_job file ≡ wrong m
    no_front e = by_lines ∙ e (λ t n rest. read_back file n rest t)

    module _ {bytes ends bytes' ends' : List ℕ} {strings top at n used : ℕ}
        (front : StringsTo (read_front (lines_of file)) file bytes ends bytes' ends' strings top at n used) where
      pub no_back : {m : ℕ} → ((t : Tables) → read_back file n (lines_of (drop at file)) t ≡ wrong m)
          → read_job file ≡ wrong m
      no_back e =
          by_lines
          ∙ front.passes (λ t n rest. read_back file n rest t)
          ∙ e (string_tables front.text front.marks)

      pub lines_done : {schema instance schema' instance' : List ℕ} {r i : ℕ}
          → BackTo file n (lines_of (drop at file)) schema instance schema' instance' r i
          → LinesTo file bytes ends schema instance bytes' ends' schema' instance' used strings r i
      lines_done back = record {
        tables = with_rows (string_tables front.text front.marks) back.row_words back.node_words;
        reads =
            by_lines
            ∙ front.passes (λ t n rest. read_back file n rest t)
            ∙ back.reads (string_tables front.text front.marks);
        bytes_hold = front.bytes_hold;
        ends_hold = front.ends_hold;
        schema_hold = back.schema_holds;
        instance_hold = back.instance_holds;
        bytes_size = front.size;
        ends_size = sym front.many;
        schema_size = back.schema_size;
        instance_size = back.instance_size;
      }
