-- From the lines of a file to the answer: what is held keeps the limits of a job, and what fits is given.
use mathlib.Core.Path.{◌≡◌, refl, sym, ◌∙◌, ap}
use mathlib.Core.Bool.{Bool, true, ◌&&◌, true≢false}
use mathlib.Core.List.{List}
use Prim.Native.Nat.{ℕ, ◌≤◌}
use native.Mathlib.Omega.{arith}
use lib.Dec.{leb}
use lib.ListN.{length}
use Rattle.std.specs.Prelude.{Ok, is_ok}
use Rattle.tables.specs.Tables.{Tables}
use Rattle.tables.proofs.Fill.{length_laid}
use Rattle.strings.specs.Strings.{max_strings, max_bytes}
use Rattle.job.specs.Reading.{Reading, read, wrong, read_job}
use Rattle.job.proofs.Limits.{limited}
use Rattle.job_lines.specs.Promises.{Room, room_of, OutputsHold, held_as, tables_in}
use Rattle.job_lines.specs.declared.Lengths.{Lengths}
use Rattle.job_reader.specs.Promises.{fits, given}

abbrev lengths_in : Tables → Lengths
lengths_in t = record {
  bytes = length t.strings.bytes;
  ends = length t.strings.ends;
  schema = length t.schema;
  instance = length t.instance;
}

-- the tables were read, and l has their lengths
record ReadAs (reading : Reading) (l : Lengths) : Type 0 where
  tables : Tables
  reads : reading ≡ read tables
  is : l ≡ lengths_in tables

held_tables : (reading : Reading) {l : Lengths} → Ok l ≡ held_as reading → ReadAs reading l
held_tables (read t) e = record { tables = t; reads = refl; is = cc }
held_tables (wrong n) e = absurd (true≢false (ap is_ok e))

-- what is held keeps the limits of a job
pub record Small (l : Lengths) : Type 0 where
  pub few_bytes : l.bytes ≤ max_bytes
  pub few_strings : l.ends ≤ max_strings
  pub few_rows : l.schema ≤ 1536
  pub few_nodes : l.instance ≤ 5120

pub small : (file : List ℕ) {l : Lengths} → Ok l ≡ held_as (read_job file) → Small l
small file e =
    let a = held_tables (read_job file) e in
    let l = limited file a.reads in
    record {
      few_bytes = omega (arith, ap (λ (x : Lengths). x.bytes) a.is, l.lengths.few_bytes);
      few_strings = omega (arith, ap (λ (x : Lengths). x.ends) a.is, l.lengths.of_ends, l.few_strings);
      few_rows = omega (arith, ap (λ (x : Lengths). x.schema) a.is, l.lengths.of_schema, l.few_rows);
      few_nodes = omega (arith, ap (λ (x : Lengths). x.instance) a.is, l.lengths.of_instance, l.few_nodes);
    }

-- the room is what the outputs have
pub room_of_lem : {t : Tables} {room : Room} {bytes ends schema instance : List ℕ}
    → OutputsHold t room bytes ends schema instance → room_of bytes ends schema instance ≡ room
room_of_lem {t} {room} {bytes} {ends} {schema} {instance} h =
    let p : length bytes ≡ room.bytes = ap length h.of_bytes ∙ length_laid room.bytes t.strings.bytes in
    let q : length ends ≡ room.ends = ap length h.of_ends ∙ length_laid room.ends t.strings.ends in
    let u : length schema ≡ room.schema = ap length h.of_schema ∙ length_laid room.schema t.schema in
    let v : length instance
    ≡ room.instance = ap length h.of_instance ∙ length_laid room.instance t.instance in
    rw (p, q, u, v)

-- lengths against the room of outputs
abbrev all_fit : Lengths → Room → Bool
all_fit l room = leb l.bytes room.bytes && leb l.ends room.ends && leb l.schema room.schema
    && leb l.instance room.instance

-- what was held is given where it fits the outputs
pub tables_given : (reading : Reading) {room : Room} {bytes ends schema instance : List ℕ} {l : Lengths}
    → OutputsHold (tables_in reading) room bytes ends schema instance → Ok l ≡ held_as reading
    → true ≡ all_fit l (room_of bytes ends schema instance)
    → OutputsHold (given reading room) room bytes ends schema instance
tables_given (wrong n) holds e f = holds
tables_given (read t) {room} {bytes} {ends} {schema} {instance} {l} holds e f =
    let is : l ≡ lengths_in t = cc in
    let h : fits t room ≡ true = ap (fits t) (sym (room_of_lem holds))
    ∙ sym (f ∙ ap (λ (x : Lengths). all_fit x (room_of bytes ends schema instance)) is) in
    rw h holds
