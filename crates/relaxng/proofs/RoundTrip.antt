-- The round trip, from the promises of write_job and read_job, not from their code.
use mathlib.Core.Path.{◌≡◌, refl, ◌∙◌, ap, subst}
use mathlib.Core.Bool.{true}
use mathlib.Core.List.{List, ◌++◌}
use Prim.Native.Nat.{ℕ, ◌≤◌}
use lib.ListN.{length, take}
use lib.Seq.{take-take, take-append_seam}
use borrow.Author.Tests.{le-leb}
use Rattle.tables.proofs.Numbers.{not_less, is_same}
use Rattle.tables.specs.Outputs.{zeros}
use Rattle.std.specs.Prelude.{Result, Ok}
use Rattle.tables.specs.Codes.{goes_on}
use Rattle.tables.specs.Tables.{Tables}
use Rattle.tables.specs.declared.refusals.Refusal.{Refusal}
use Rattle.job.specs.Reading.{Reading, read, read_job}
use Rattle.job.specs.Written.{job_text}
use Rattle.job.proofs.Job.{Writable, round_trip}
use Rattle.job_lines.specs.Promises.{Room, OutputsHold}
use Rattle.job_reader.specs.Promises.{fits, given, counts_in, JobAnswer}
use Rattle.job_reader.specs.declared.Counts.{Counts}
use Rattle.job_writer.specs.Promises.{WriteJob, too_many_rows, broken_length, too_long, too_short}
use Rattle.job_writer.proofs.Job.{Chain}
use Rattle.relaxng.specs.RoundTrip.{MachineWords, LongEnough, RoundTrip}

module _ (J : Tables) where
  -- the chain of the writer, passed
  passed : {room : ℕ} → Chain J room (Ok tt) → MachineWords J → Writable J × (length (job_text J) ≤ room)
  passed (goes_on strings (goes_on rows (goes_on nodes (goes_on text e)))) m = (
    record {
      strings_right = strings;
      are_bytes = m.bytes;
      schema_words = m.schema;
      instance_words = m.instance;
      few_rows = not_less (λ f. rows 0 (too_many_rows f refl));
      whole_rows = is_same (λ f. rows 0 (broken_length f refl));
      few_nodes = not_less (λ f. nodes 0 (too_many_rows f refl));
      whole_nodes = is_same (λ f. nodes 0 (broken_length f refl));
      short = not_less (λ f. text 0 (too_long f refl));
    },
    not_less (λ f. text 0 (too_short f refl)),
  )

  module _ {size n : ℕ} {out : List ℕ} (m : MachineWords J) (w : WriteJob J size out (Ok n)) where
    -- the first n bytes of the output are the text
    file_is_text : take n out ≡ job_text J
    file_is_text =
        let h = (passed w.refusal m).1 in
        rw (w.size, w.holds) (take-take (length (job_text J)) size (job_text J ++ zeros size) h
        ∙ take-append_seam (job_text J) (zeros size))

    reads_as : read_job (take n out) ≡ read J
    reads_as = ap read_job file_is_text ∙ round_trip J (passed w.refusal m).0

  -- tables that fit are given whole
  module _ {room : Room} (long : LongEnough J room) where
    fits_all : fits J room ≡ true
    fits_all =
        rw (
          le-leb _ _ long.for_bytes,
          le-leb _ _ long.for_ends,
          le-leb _ _ long.for_schema,
          le-leb _ _ long.for_instance,
        )

    whole : given (read J) room ≡ J
    whole = rw fits_all

    sizes : {reading : Reading} {r : Result Counts Refusal} → reading ≡ read J → JobAnswer reading room r
        → r ≡ Ok (counts_in J)
    sizes e a = a ∙ rw (e, fits_all) refl

    tables_back : {reading : Reading} {bytes ends schema instance : List ℕ}
        → reading ≡ read J → OutputsHold (given reading room) room bytes ends schema instance
        → OutputsHold J room bytes ends schema instance
    tables_back {bytes = bytes} {ends} {schema} {instance} e h =
        subst (λ (t : Tables). OutputsHold t room bytes ends schema instance)
        (ap (λ (x : Reading). given x room) e ∙ whole) h

pub reads_back : (J : Tables) → RoundTrip J
reads_back J size n out m w room bytes ends schema instance r long x = record {
  answer = sizes J long (reads_as J m w) x.answer;
  outputs = tables_back J long (reads_as J m w) x.outputs;
}
