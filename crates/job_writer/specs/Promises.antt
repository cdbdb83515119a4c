-- What the writer of job files promises: the text of the tables, or the refusal.
use Rattle.std.specs.Prelude.{ℕ, ◌/◌, ◌%◌, ◌<◌, ◌≡◌, ◌≢◌, List, [], length, Result, Ok, Err}
use Rattle.tables.specs.Outputs.{laid}
use Rattle.tables.specs.Codes.{verdict_of, Tries, Passes}
use Rattle.tables.specs.Tables.{Tables}
use Rattle.tables.specs.declared.refusals.Code.TheVariants.{Strings, Rows, Nodes, Room}
use Rattle.tables.specs.declared.refusals.Refusal.{Refusal}
use Rattle.strings.specs.Strings.{StringFault}
use Rattle.schema.specs.RowRule.{max_rows}
use Rattle.instance.specs.NodeRule.{max_nodes}
use Rattle.job.specs.Reading.{max_file}
use Rattle.job.specs.Written.{job_text}

-- the length that an answer gives: 0 at a refusal
abbrev pub size_of : Result ℕ Refusal → ℕ
size_of (Ok size) = size
size_of (Err refusal) = 0

-- a table of more rows than its limit, or with a broken length; the place is 0
pub data TableFault (width limit : ℕ) (table : List ℕ) (place : ℕ) : Type 0 where
  too_many_rows : limit < length table / width → place ≡ 0 → TableFault width limit table place
  broken_length : length table % width ≢ 0 → place ≡ 0 → TableFault width limit table place

-- a text that is longer than a file may be, or than the output that is lent; the place is 0
pub data TextFault (text : List ℕ) (room place : ℕ) : Type 0 where
  too_long : max_file < length text → place ≡ 0 → TextFault text room place
  too_short : room < length text → place ≡ 0 → TextFault text room place

-- the text that is given with an answer: none where something is refused
abbrev pub text_given : Result ℕ Refusal → List ℕ → List ℕ
text_given (Ok size) text = text
text_given (Err refusal) text = []

-- the answer, and the output of so many bytes to its end; `code_of` and `place_of` of the answer are the code and place
-- of FORMAT, "Codes and places"
pub record WriteJob (J : Tables) (room : ℕ) (out : List ℕ) (r : Result ℕ Refusal) : Type 0 where
  pub refusal : Tries Strings (StringFault J.strings) (Tries Rows (TableFault 3 max_rows J.schema)
      (Tries Nodes (TableFault 5 max_nodes J.instance) (Tries Room (TextFault (job_text J) room) Passes)))
      (verdict_of r)
  pub size : size_of r ≡ length (text_given r (job_text J))
  pub holds : out ≡ laid room (text_given r (job_text J))
