-- How an answer is handed to C, as one number: the code of a refusal in its upper half and the place in the lower, or
-- with code 0 the answer itself (FORMAT, "Calls and outputs"). What the output of a call is too short for is refused by
-- 12 at 0, and then every output is zeros.
use Rattle.std.specs.Prelude.{ℕ, ◌+◌, ◌*◌, ◌≡◌, Bool, cond, List, [], ◌∷◌, leb, length}
use Rattle.std.specs.Prelude.{Result, Ok, Err, Option, Some, None}
use Rattle.std.specs.Borrow.{Bor}
use Rattle.tables.specs.Tables.{StringTable, Tables}
use Rattle.tables.specs.Outputs.{laid, zeros}
use Rattle.tables.specs.Codes.{number_of, refusal_at, Passes}
use Rattle.tables.specs.declared.refusals.Code.TheVariants as code
use Rattle.tables.specs.declared.refusals.Refusal.{Refusal}
use Rattle.strings.specs.Text.{StringText}
use Rattle.job.specs.Reading.{no_tables, read_job}
use Rattle.job_lines.specs.Promises.{Room, OutputsHold}
use Rattle.job_reader.specs.Promises.{given, JobAnswer}
use Rattle.job_reader.specs.declared.Counts.{Counts}
use Rattle.job_writer.specs.Promises.{WriteJob}
use Rattle.matching_list.specs.declared.Matches.{Matches}
use Rattle.schema_classes.specs.declared.Member.{Member}
use Rattle.schema_classes.specs.declared.Member.TheVariants.{Yes, No}
use Rattle.schema_classes.specs.declared.Name.{Name}
use Rattle.relaxng.specs.Promises.{SchemaRefusal, NameInClass, LeastCommonName}
use Rattle.relaxng.specs.Matching.{GivesVerdict, ListsMatches}
use Rattle.report.specs.Report.{Reports}

-- the number of a refusal
abbrev pub packed_refusal : Refusal → ℕ
packed_refusal r = number_of r.code * 4294967296 + r.place

-- the number of a buffer that is too short
abbrev pub packed_short : ℕ
packed_short = packed_refusal (refusal_at code.Room 0)

-- the number of each answer: 0 where a schema passes
abbrev pub packed_verdict : Result Unit Refusal → ℕ
packed_verdict (Ok x) = 0
packed_verdict (Err r) = packed_refusal r

-- 1 for yes and 0 for no
abbrev pub packed_membership : Result Member Refusal → ℕ
packed_membership (Ok (Yes row)) = 1
packed_membership (Ok (No row)) = 0
packed_membership (Err r) = packed_refusal r

-- 1 where there is a name and 0 where there is none
abbrev pub packed_name : Result (Option Name) Refusal → ℕ
packed_name (Ok (Some n)) = 1
packed_name (Ok None) = 0
packed_name (Err r) = packed_refusal r

-- 1 for valid and 0 for not valid
abbrev pub packed_validation : Result Bool Refusal → ℕ
packed_validation (Ok valid) = cond valid 1 0
packed_validation (Err r) = packed_refusal r

-- the words of the list that are used, and 1 more for valid
abbrev pub packed_matches : Result Matches Refusal → ℕ
packed_matches (Ok m) = m.pairs * 2 + cond m.valid 1 0
packed_matches (Err r) = packed_refusal r

-- 0, since the counts are an output
abbrev pub packed_read : Result Counts Refusal → ℕ
packed_read (Ok counts) = 0
packed_read (Err r) = packed_refusal r

-- the length of the text
abbrev pub packed_written : Result ℕ Refusal → ℕ
packed_written (Ok size) = size
packed_written (Err r) = packed_refusal r

-- what is handed over in an output beside the number: the row, the name, the counts; nothing beside a refusal
abbrev pub row_words : Result Member Refusal → List ℕ
row_words (Ok (Yes row)) = row ∷ []
row_words (Ok (No row)) = row ∷ []
row_words (Err r) = []

abbrev pub name_words : Result (Option Name) Refusal → List ℕ
name_words (Ok (Some n)) = n.namespace ∷ n.local ∷ []
name_words (Ok None) = []
name_words (Err r) = []

abbrev pub read_counts : Result Counts Refusal → List ℕ
read_counts (Ok c) = c.bytes ∷ c.strings ∷ c.rows ∷ c.nodes ∷ []
read_counts (Err r) = []

-- a run is handed over in an output of so many words or bytes: with its number where it fits, and zeros after it;
-- otherwise refused, and zeros throughout
abbrev pub fits_in : ℕ → List ℕ → Bool
fits_in room run = leb (length run) room

pub record Handed (run : List ℕ) (value room : ℕ) (out : List ℕ) (r : ℕ) : Type 0 where
  pub number : r ≡ cond (fits_in room run) value packed_short
  pub output : out ≡ cond (fits_in room run) (laid room run) (zeros room)

-- The promises: an answer that keeps the promise of its call, and its number.

pub record PackedSchema (T : StringTable) (s : List ℕ) (r : ℕ) : Type 0 where
  pub answer : Result Unit Refusal
  pub promise : SchemaRefusal T s Passes answer
  pub number : r ≡ packed_verdict answer

pub record PackedMember (T : StringTable) (s : List ℕ) (class namespace local room : ℕ) (row : List ℕ) (r : ℕ) : Type 0
  where
    pub answer : Result Member Refusal
    pub promise : NameInClass T s class namespace local answer
    pub handed : Handed (row_words answer) (packed_membership answer) room row r

pub record PackedLeast (T : StringTable) (s : List ℕ) (first second room : ℕ) (name : List ℕ) (r : ℕ) : Type 0 where
  pub answer : Result (Option Name) Refusal
  pub promise : LeastCommonName T s first second answer
  pub handed : Handed (name_words answer) (packed_name answer) room name r

pub record PackedValidation (J : Tables) (room : ℕ) (work : List ℕ) (r : ℕ) : Type 0 where
  pub answer : Result Bool Refusal
  pub promise : GivesVerdict J room work answer
  pub number : r ≡ packed_validation answer

pub record PackedList (J : Tables) (list_room work_room : ℕ) (list work : List ℕ) (r : ℕ) : Type 0 where
  pub answer : Result Matches Refusal
  pub promise : ListsMatches J list_room work_room list work answer
  pub number : r ≡ packed_matches answer

-- the part that is the text of string k, copied
pub record PackedText (bytes : Bor (List ℕ)) (ends : List ℕ) (k room : ℕ) (text : List ℕ) (r : ℕ) : Type 0 where
  pub part : Bor (List ℕ)
  pub promise : StringText bytes ends k part
  pub handed : Handed part.now (length part.now) room text r

-- the tables are given where the counts fit
pub record PackedRead (file : List ℕ) (room : Room) (count_room : ℕ)
    (bytes ends schema instance counts : List ℕ) (r : ℕ) : Type 0 where
  pub answer : Result Counts Refusal
  pub promise : JobAnswer (read_job file) room answer
  pub handed : Handed (read_counts answer) (packed_read answer) count_room counts r
  pub tables : OutputsHold (cond (fits_in count_room (read_counts answer)) (given (read_job file) room) no_tables) room
      bytes ends schema instance

pub record PackedWrite (J : Tables) (room : ℕ) (file : List ℕ) (r : ℕ) : Type 0 where
  pub answer : Result ℕ Refusal
  pub promise : WriteJob J room file answer
  pub number : r ≡ packed_written answer

pub record PackedReport (file : List ℕ) (room : ℕ) (out : List ℕ) (r : ℕ) : Type 0 where
  pub text : List ℕ
  pub promise : Reports file text
  pub handed : Handed text (length text) room out r
