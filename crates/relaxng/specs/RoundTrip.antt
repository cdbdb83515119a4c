-- A job that is written reads back the same: what write_job lays in its output, read_job gives as the same four tables
-- (FORMAT, "Job file").
use Rattle.std.specs.Prelude.{ℕ, ◌≤◌, ◌≡◌, List, length, take, Result, Ok}
use Rattle.tables.specs.Tables.{Tables}
use Rattle.tables.specs.declared.refusals.Refusal.{Refusal}
use Rattle.job.specs.Numbers.{Words, Bytes}
use Rattle.job.specs.Reading.{read_job}
use Rattle.job_lines.specs.Promises.{Room, OutputsHold}
use Rattle.job_reader.specs.Promises.{counts_in, given, JobAnswer}
use Rattle.job_reader.specs.declared.Counts.{Counts}
use Rattle.job_writer.specs.Promises.{WriteJob}

-- the tables are of bytes and words, as slices hold them
pub record MachineWords (J : Tables) : Type 0 where
  pub bytes : Bytes J.strings.bytes
  pub schema : Words J.schema
  pub instance : Words J.instance

-- each output is long enough for its table
pub record LongEnough (J : Tables) (room : Room) : Type 0 where
  pub for_bytes : length J.strings.bytes ≤ room.bytes
  pub for_ends : length J.strings.ends ≤ room.ends
  pub for_schema : length J.schema ≤ room.schema
  pub for_instance : length J.instance ≤ room.instance

-- what read_job promises of a file: its answer and its four outputs
pub record ReadsJob (file : List ℕ) (room : Room) (bytes ends schema instance : List ℕ) (r : Result Counts Refusal)
    : Type 0 where
  pub answer : JobAnswer (read_job file) room r
  pub outputs : OutputsHold (given (read_job file) room) room bytes ends schema instance

-- the answer gives the sizes of the tables of J, and each output holds its table to its end
pub record ReadsBack (J : Tables) (room : Room) (bytes ends schema instance : List ℕ) (r : Result Counts Refusal)
    : Type 0 where
  pub answer : r ≡ Ok (counts_in J)
  pub outputs : OutputsHold J room bytes ends schema instance

-- the n bytes that were written of J are read
abbrev pub RoundTrip : Tables → Type 0
RoundTrip J = (size n : ℕ) (out : List ℕ) → MachineWords J → WriteJob J size out (Ok n)
    → (room : Room) (bytes ends schema instance : List ℕ) (r : Result Counts Refusal) → LongEnough J room
    → ReadsJob (take n out) room bytes ends schema instance r → ReadsBack J room bytes ends schema instance r
