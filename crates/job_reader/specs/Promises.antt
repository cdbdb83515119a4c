-- What the reader of job files promises: the counts and the tables that the definition of reading gives, or the
-- refusal.
use Rattle.std.specs.Prelude.{◌≡◌, Bool, cond, ◌&&◌, length, leb, Result, Ok, Err}
use Rattle.tables.specs.Tables.{Tables}
use Rattle.tables.specs.Codes.{refusal_at}
use Rattle.tables.specs.declared.refusals.Code.TheVariants.{Room as room_code, Line}
use Rattle.tables.specs.declared.refusals.Refusal.{Refusal}
use Rattle.schema.specs.Rows.{rows_of}
use Rattle.instance.specs.Nodes.{nodes_of}
use Rattle.job.specs.Reading.{no_tables, Reading, read, wrong}
use Rattle.job_lines.specs.Promises.{Room}
use Rattle.job_reader.specs.declared.Counts.{Counts}

-- how many bytes, strings, schema rows and instance rows tables have
abbrev pub counts_in : Tables → Counts
counts_in t =
    record {
      bytes = length t.strings.bytes;
      strings = length t.strings.ends;
      rows = rows_of t.schema;
      nodes = nodes_of t.instance;
    }

-- no output is too short
abbrev pub fits : Tables → Room → Bool
fits t room =
    leb (length t.strings.bytes) room.bytes && leb (length t.strings.ends) room.ends
    && leb (length t.schema) room.schema && leb (length t.instance) room.instance

-- 13 with the first wrong line; then 12 at 0 where an output is too short; otherwise the counts
abbrev pub read_answer : Reading → Room → Result Counts Refusal
read_answer (wrong line) room = Err (refusal_at Line line)
read_answer (read t) room = cond (fits t room) (Ok (counts_in t)) (Err (refusal_at room_code 0))

-- the tables that are given: none at a refusal
abbrev pub given : Reading → Room → Tables
given (wrong line) room = no_tables
given (read t) room = cond (fits t room) t no_tables

-- the answer; the number of its code and its place are those of FORMAT, "Codes and places"
abbrev pub JobAnswer : Reading → Room → Result Counts Refusal → Type 0
JobAnswer reading room r = r ≡ read_answer reading room
