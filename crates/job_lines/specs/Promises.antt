-- What reading the lines of a job file promises: the tables that the definition of reading gives, laid in four outputs
-- as far as they fit, or the first wrong line.
use Rattle.std.specs.Prelude.{ℕ, ◌≡◌, List, length, Result, Ok, Err}
use Rattle.tables.specs.Outputs.{laid}
use Rattle.tables.specs.Tables.{Tables}
use Rattle.job.specs.Reading.{no_tables, Reading, read, wrong}
use Rattle.job_lines.specs.declared.Lengths.{Lengths}

-- how many words each lent output has
pub record Room : Type 0 where
  pub bytes : ℕ
  pub ends : ℕ
  pub schema : ℕ
  pub instance : ℕ

abbrev pub room_of : List ℕ → List ℕ → List ℕ → List ℕ → Room
room_of bytes ends schema instance =
    record { bytes = length bytes; ends = length ends; schema = length schema; instance = length instance }

-- each output holds its table, as far as it fits, and then zeros, to its end
pub record OutputsHold (t : Tables) (room : Room) (bytes ends schema instance : List ℕ) : Type 0 where
  pub of_bytes : bytes ≡ laid room.bytes t.strings.bytes
  pub of_ends : ends ≡ laid room.ends t.strings.ends
  pub of_schema : schema ≡ laid room.schema t.schema
  pub of_instance : instance ≡ laid room.instance t.instance

-- the lengths of the four tables, or the first wrong line
abbrev pub held_as : Reading → Result Lengths ℕ
held_as (read t) =
    Ok (record {
      bytes = length t.strings.bytes;
      ends = length t.strings.ends;
      schema = length t.schema;
      instance = length t.instance;
    })
held_as (wrong line) = Err line

-- the tables that are laid: none where a line is wrong
abbrev pub tables_in : Reading → Tables
tables_in (read t) = t
tables_in (wrong line) = no_tables
