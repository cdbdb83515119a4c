-- The promise of the writer, put together from what its steps found and wrote.
use mathlib.Core.Path.{◌≡◌, refl, sym, ◌∙◌, ap}
use mathlib.Core.Bool.{false≢true}
use mathlib.Core.List.{List}
use mathlib.Core.Logic.{◌⊎◌, ⊎_elim}
use Prim.Native.Nat.{ℕ, ◌≤◌, ◌<◌}
use native.Mathlib.Nat.{zero-add}
use native.Mathlib.Omega.{arith}
use lib.ListN.{length, length-replicate}
use lib.Seq.{sets}
use Rattle.std.specs.Prelude.{Result, Ok, Err, is_ok}
use Rattle.tables.proofs.Codes.{tries_map, tries_go}
use Rattle.tables.proofs.Numbers.{not_less, is_same}
use Rattle.tables.proofs.Stores.{sets_zeros}
use Rattle.tables.proofs.Fill.{laid_none}
use Rattle.tables.specs.Outputs.{zeros}
use Rattle.tables.specs.Tables.{Tables}
use Rattle.tables.specs.Codes.{refusal_at, Tries, refused, goes_on, Passes}
use Rattle.tables.specs.declared.refusals.Code.TheVariants.{Strings, Rows, Nodes, Room}
use Rattle.tables.specs.declared.refusals.Refusal.{Refusal}
use Rattle.strings.specs.Strings.{StringFault, too_many_strings, too_many_bytes, bad_end, at_front}
use Rattle.schema.specs.RowRule.{max_rows}
use Rattle.instance.specs.NodeRule.{max_nodes}
use Rattle.job.specs.Reading.{max_file}
use Rattle.job.specs.Written.{job_text}
use Rattle.job_writer.specs.Promises.{TableFault, too_many_rows, broken_length}
use Rattle.job_writer.specs.Promises.{TextFault, too_long, too_short, WriteJob}
use Rattle.job_writer.specs.Refused.{CheckJob}
use Rattle.job_texts.specs.Writing.{Sized, Wrote}
use Rattle.job_texts.proofs.Writing.{wrote_length}

module _ (J : Tables) (room : ℕ) where
  abbrev pub Chain : Result Unit Refusal → Type 0
  Chain =
      Tries Strings (StringFault J.strings) (Tries Rows (TableFault 3 max_rows J.schema)
      (Tries Nodes (TableFault 5 max_nodes J.instance) (Tries Room (TextFault (job_text J) room) Passes)))

  -- the tables are refused
  pub tables_refused : {out : List ℕ} {r : Refusal} → out ≡ zeros room → CheckJob J (Err r)
      → WriteJob J room out (Err r)
  tables_refused z c = record {
    refusal = tries_map (tries_map (tries_map (λ e. absurd (false≢true (ap is_ok e))))) c;
    size = refl;
    holds = z ∙ sym (laid_none room);
  }

module _ {text before after : List ℕ} {r : ℕ} where
  text_size : Wrote before 0 text after r → r ≡ length text
  text_size put = put.moves ∙ zero-add _

  room_kept : {room : ℕ} → before ≡ zeros room → Wrote before 0 text after r → length after ≡ room
  room_kept zero put = wrote_length put ∙ ap length zero ∙ length-replicate {A = ℕ} _ 0

module _ {J : Tables} (checked : CheckJob J (Ok tt)) where
  pub sized : Sized J
  sized = by_chain checked
    where
      by_chain : CheckJob J (Ok tt) → Sized J
      by_chain (goes_on strings (goes_on rows (goes_on nodes e))) = record {
        few_bytes = not_less (λ f. strings 0 (bad_end (at_front (too_many_bytes f refl))));
        few_strings = not_less (λ f. strings 0 (bad_end (at_front (too_many_strings f refl))));
        few_rows = not_less (λ f. rows 0 (too_many_rows f refl));
        whole_rows = is_same (λ f. rows 0 (broken_length f refl));
        few_nodes = not_less (λ f. nodes 0 (too_many_rows f refl));
        whole_nodes = is_same (λ f. nodes 0 (broken_length f refl));
      }

  -- the text was put into an output of zeros, and r is the position after it
  module _ {room r : ℕ} {before after : List ℕ} (zero : before ≡ zeros room)
      (put : Wrote before 0 (job_text J) after r) where
    pub room_refused : {out : List ℕ} {refusal : Refusal} → refusal ≡ refusal_at Room 0 → out ≡ zeros (length after)
        → (max_file < r) ⊎ ((r ≤ max_file) × (length after < r)) → WriteJob J room out (Err refusal)
    room_refused e z over =
        let l = text_size put in
        let m = room_kept zero put in
        let f = ⊎_elim {C = TextFault (job_text J) room 0} (λ h. too_long (omega arith) refl)
        (λ h. too_short (let k = h.1 in omega arith) refl) over in
        rw e (record {
          refusal = tries_go (tries_go (tries_go (λ e. refused 0 f (λ i h x. absurd (omega arith))))) checked;
          size = refl;
          holds = z ∙ ap zeros (room_kept zero put) ∙ sym (laid_none room);
        })

    pub text_written : r ≤ max_file → r ≤ length after → WriteJob J room after (Ok r)
    text_written h k = record {
      refusal = tries_go (tries_go (tries_go (λ e. goes_on fits refl))) checked;
      size = text_size put;
      holds = put.holds ∙ ap (λ (o : List ℕ). sets o 0 (job_text J)) zero ∙ sets_zeros room (job_text J);
    }
      where
        fits : (i : ℕ) → ¬ TextFault (job_text J) room i
        fits i (too_long f e) = let l = text_size put in omega arith
        fits i (too_short f e) = let l = text_size put in let m = room_kept zero put in omega arith
