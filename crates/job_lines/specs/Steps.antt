-- What the functions on lines answer: each goes on with the lines after it, or is wrong at a line, as the definition of
-- reading does; cited by private functions only.
use Rattle.std.specs.Prelude.{ℕ, suc, ◌+◌, ◌≤◌, ◌<◌, ◌≡◌, List, [], ◌++◌, length, get_or, drop}
use Rattle.std.specs.Prelude.{Option, None, Some, Result, Ok, Err}
use Rattle.std.proofs.lemmas.List.Edits.{sets}
use Rattle.tables.specs.Tables.{Tables, tables_of, string_table}
use Rattle.strings.specs.Strings.{max_strings, max_bytes}
use Rattle.schema.specs.RowRule.{max_rows}
use Rattle.instance.specs.NodeRule.{max_nodes}
use Rattle.job.specs.Ascii.{ascii}
use Rattle.job.specs.Lines.{line_feed, lines_of}
use Rattle.job.specs.Reading.{no_tables, Reading, read, wrong, line, lines, literal, count}
use Rattle.job.specs.Reading.{add_string, add_row, add_node, row_of, and_then, nothing_more, read_job}
use Rattle.job_lines.specs.declared.Section.{Section}
use Rattle.job_lines.specs.declared.Front.{Front}
use Rattle.job_lines.specs.declared.Back.{Back}
use Rattle.job_lines.specs.declared.Lengths.{Lengths}

-- the most words that a table of rows has
abbrev pub max_words : ℕ
max_words = 5120

-- ---- one line
-- the first line holds a, and the rest comes after it
pub record TakesLine {A : Type 0} (holds : List ℕ → Option A) (ls : List (List ℕ)) (a : A)
    (rest : List (List ℕ)) : Type 0 where
  pub on : (n : ℕ) (next : A → ℕ → List (List ℕ) → Reading) → line holds n ls next ≡ next a (suc n) rest

-- the first line is wrong, or missing
pub record Stops {A : Type 0} (holds : List ℕ → Option A) (ls : List (List ℕ)) : Type 0 where
  pub on : (n : ℕ) (next : A → ℕ → List (List ℕ) → Reading) → line holds n ls next ≡ wrong n

-- a line that is a text ends with the LF at e
pub record LiteralTo (text file : List ℕ) (at e : ℕ) : Type 0 where
  pub within : e < length file
  pub feed : get_or file e 0 ≡ line_feed
  pub passes : TakesLine (literal text) (lines_of (drop at file)) [] (lines_of (drop (e + 1) file))

abbrev pub LiteralLine : List ℕ → List ℕ → ℕ → Option ℕ → Type 0
LiteralLine text file at (Some e) = LiteralTo text file at e
LiteralLine text file at None = Stops (literal text) (lines_of (drop at file))

-- a count n keeps its limit, and the next line starts at p
pub record CountTo (key : List ℕ) (limit : ℕ) (file : List ℕ) (at n p : ℕ) : Type 0 where
  pub keeps : n ≤ limit
  pub passes : TakesLine (count key limit) (lines_of (drop at file)) n (lines_of (drop p file))

abbrev pub CountLine : List ℕ → ℕ → List ℕ → ℕ → Option (ℕ × ℕ) → Type 0
CountLine key limit file at (Some c) = CountTo key limit file at c.0 c.1
CountLine key limit file at None = Stops (count key limit) (lines_of (drop at file))

-- ---- the lines of a table
-- what is done with the tables, the number of the next line and the lines left
abbrev pub Next : Type 0
Next = Tables → ℕ → List (List ℕ) → Reading

abbrev pub Add : Type 0
Add = Tables → List ℕ → Option Tables

-- tables that hold strings alone
abbrev pub string_tables : List ℕ → List ℕ → Tables
string_tables bytes ends = tables_of (string_table bytes ends) [] []

abbrev pub read_strings : ℕ → ℕ → List (List ℕ) → Next → Reading
read_strings strings n ls next = lines add_string strings no_tables n ls next

-- strings are read, and stand in their two outputs as far as they fit
pub record StringsTo (reads : Next → Reading) (file bytes ends bytes' ends' : List ℕ)
    (strings top at n used : ℕ) : Type 0 where
  pub text : List ℕ
  pub marks : List ℕ
  pub passes : (next : Next) → reads next ≡ next (string_tables text marks) n (lines_of (drop at file))
  pub bytes_hold : bytes' ≡ sets bytes 0 text
  pub ends_hold : ends' ≡ sets ends 0 marks
  pub size : used ≡ length text
  pub small : used ≤ max_bytes
  pub many : length marks ≡ strings
  pub few : strings ≤ max_strings
  pub below : n ≤ top

abbrev pub StringSection : (Next → Reading) → List ℕ → List ℕ → List ℕ → List ℕ → List ℕ → ℕ → ℕ
    → Result Section ℕ → Type 0
StringSection reads file bytes ends bytes' ends' strings top (Ok s) =
    StringsTo reads file bytes ends bytes' ends' strings top s.next s.line s.words
StringSection reads file bytes ends bytes' ends' strings top (Err n) = (next : Next) → reads next ≡ wrong n

-- a line of a table adds its words to it, and grow is what words add to the tables
pub record AddsWords (key : List ℕ) (width : ℕ) (add : Add) (grow : Tables → List ℕ → Tables) : Type 0 where
  pub each : (t : Tables) (l : List ℕ) → add t l ≡ and_then (row_of key width l) (λ row. Some (grow t row))
  pub grow_none : (t : Tables) → grow t [] ≡ t
  pub grow_more : (t : Tables) (a b : List ℕ) → grow (grow t a) b ≡ grow t (a ++ b)

abbrev pub read_rows : ℕ → ℕ → List (List ℕ) → Add → Tables → Next → Reading
read_rows rows n ls add t next = lines add rows t n ls next

-- a table: its count, and its rows
abbrev pub read_table : List ℕ → ℕ → ℕ → List (List ℕ) → Add → Tables → Next → Reading
read_table key limit n ls add t next = line (count key limit) n ls (λ rows n rest. lines add rows t n rest next)

-- rows are read, and their words stand in the output as far as they fit
pub record RowsTo (key : List ℕ) (width : ℕ) (reads : Add → Tables → Next → Reading) (file out out' : List ℕ)
    (top at n used : ℕ) : Type 0 where
  pub words : List ℕ
  pub passes : {add : Add} {grow : Tables → List ℕ → Tables} → AddsWords key width add grow → (t : Tables) (next : Next)
      → reads add t next ≡ next (grow t words) n (lines_of (drop at file))
  pub holds : out' ≡ sets out 0 words
  pub size : used ≡ length words
  pub small : used ≤ max_words
  pub below : n ≤ top

-- a row is wrong, or missing, at line n
pub record RowsStop (key : List ℕ) (width : ℕ) (reads : Add → Tables → Next → Reading) (n : ℕ) : Type 0 where
  pub stops : {add : Add} {grow : Tables → List ℕ → Tables} → AddsWords key width add grow → (t : Tables) (next : Next)
      → reads add t next ≡ wrong n

abbrev pub RowSection : List ℕ → ℕ → (Add → Tables → Next → Reading) → List ℕ → List ℕ → List ℕ → ℕ
    → Result Section ℕ → Type 0
RowSection key width reads file out out' top (Ok s) =
    RowsTo key width reads file out out' top s.next s.line s.words
RowSection key width reads file out out' top (Err n) = RowsStop key width reads n

-- ---- the last line
abbrev pub read_end : List ℕ → ℕ → List (List ℕ) → Tables → Reading
read_end file n ls t = line (literal (ascii "end=1")) n ls (λ _ n rest. nothing_more file t n rest)

abbrev pub EndLine : List ℕ → ℕ → ℕ → Result Unit ℕ → Type 0
EndLine file n at (Ok x) = (t : Tables) → read_end file n (lines_of (drop at file)) t ≡ read t
EndLine file n at (Err m) = (t : Tables) → read_end file n (lines_of (drop at file)) t ≡ wrong m

-- ---- the parts of a file
-- the first line and the strings
abbrev pub read_front : List (List ℕ) → Next → Reading
read_front ls next =
    line (literal (ascii "rng=1")) 1 ls (λ _ n rest.
    line (count (ascii "strings=") max_strings) n rest (λ strings n rest.
    read_strings strings n rest next))

-- the number of the line after the last string is at most this
abbrev pub max_front : ℕ
max_front = 515

abbrev pub FrontRead : List ℕ → List ℕ → List ℕ → List ℕ → List ℕ → Result Front ℕ → Type 0
FrontRead file bytes ends bytes' ends' (Ok f) =
    StringsTo (read_front (lines_of file)) file bytes ends bytes' ends' f.strings max_front f.next f.line f.bytes
FrontRead file bytes ends bytes' ends' (Err n) = (next : Next) → read_front (lines_of file) next ≡ wrong n

-- the two tables of rows and the last line
abbrev pub read_back : List ℕ → ℕ → List (List ℕ) → Tables → Reading
read_back file n ls t =
    read_table (ascii "schema=") max_rows n ls add_row t (λ t n rest.
    read_table (ascii "instance=") max_nodes n rest add_node t (λ t n rest.
    read_end file n rest t))

-- the tables with the words of rows added
abbrev pub with_rows : Tables → List ℕ → List ℕ → Tables
with_rows t schema instance = tables_of t.strings (t.schema ++ schema) (t.instance ++ instance)

-- both tables are read, and stand in their outputs as far as they fit
pub record BackTo (file : List ℕ) (n : ℕ) (ls : List (List ℕ)) (schema instance schema' instance' : List ℕ)
    (r i : ℕ) : Type 0 where
  pub row_words : List ℕ
  pub node_words : List ℕ
  pub reads : (t : Tables) → read_back file n ls t ≡ read (with_rows t row_words node_words)
  pub schema_holds : schema' ≡ sets schema 0 row_words
  pub instance_holds : instance' ≡ sets instance 0 node_words
  pub schema_size : r ≡ length row_words
  pub instance_size : i ≡ length node_words

abbrev pub BackRead : List ℕ → ℕ → List (List ℕ) → List ℕ → List ℕ → List ℕ → List ℕ → Result Back ℕ → Type 0
BackRead file n ls schema instance schema' instance' (Ok b) =
    BackTo file n ls schema instance schema' instance' b.schema b.instance
BackRead file n ls schema instance schema' instance' (Err m) = (t : Tables) → read_back file n ls t ≡ wrong m

-- ---- all lines
-- the lines are read, each table stands at the front of its output as far as it fits, and b, s, r and i are the lengths
-- of the tables
pub record LinesTo (file bytes ends schema instance bytes' ends' schema' instance' : List ℕ)
    (b s r i : ℕ) : Type 0 where
  pub tables : Tables
  pub reads : read_job file ≡ read tables
  pub bytes_hold : bytes' ≡ sets bytes 0 tables.strings.bytes
  pub ends_hold : ends' ≡ sets ends 0 tables.strings.ends
  pub schema_hold : schema' ≡ sets schema 0 tables.schema
  pub instance_hold : instance' ≡ sets instance 0 tables.instance
  pub bytes_size : b ≡ length tables.strings.bytes
  pub ends_size : s ≡ length tables.strings.ends
  pub schema_size : r ≡ length tables.schema
  pub instance_size : i ≡ length tables.instance

abbrev pub LinesHeld : List ℕ → List ℕ → List ℕ → List ℕ → List ℕ → List ℕ → List ℕ → List ℕ → List ℕ
    → Result Lengths ℕ → Type 0
LinesHeld file bytes ends schema instance bytes' ends' schema' instance' (Ok l) =
    LinesTo file bytes ends schema instance bytes' ends' schema' instance' l.bytes l.ends l.schema l.instance
LinesHeld file bytes ends schema instance bytes' ends' schema' instance' (Err n) = read_job file ≡ wrong n
