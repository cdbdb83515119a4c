-- What is stored from the front of outputs that are zeros is laid in them.
use mathlib.Core.Path.{◌≡◌, ◌∙◌, ap}
use mathlib.Core.Bool.{false, true≢false}
use mathlib.Core.List.{List, []}
use Prim.Native.Nat.{ℕ}
use lib.Seq.{sets}
use Rattle.std.specs.Prelude.{Result, Ok, Err, is_err}
use Rattle.tables.specs.Outputs.{laid}
use Rattle.tables.proofs.Fill.{laid_none}
use Rattle.tables.proofs.Stores.{sets_zeros}
use Rattle.job.specs.Reading.{no_tables, read_job}
use Rattle.job_lines.specs.Promises.{Room, OutputsHold, tables_in}
use Rattle.job_lines.specs.Steps.{LinesHeld}
use Rattle.job_lines.specs.declared.Lengths.{Lengths}

lays : (n : ℕ) (run : List ℕ) {out out' : List ℕ} → out ≡ laid n [] → out' ≡ sets out 0 run → out' ≡ laid n run
lays n run e f = f ∙ ap (λ (o : List ℕ). sets o 0 run) (e ∙ laid_none n) ∙ sets_zeros n run

-- the lines were read into outputs that were zeros
pub laid_in : {room : Room} {z₁ z₂ z₃ z₄ : List ℕ} → OutputsHold no_tables room z₁ z₂ z₃ z₄
    → (file : List ℕ) {bytes ends schema instance : List ℕ} (h : Result Lengths ℕ) → is_err h ≡ false
    → LinesHeld file z₁ z₂ z₃ z₄ bytes ends schema instance h
    → OutputsHold (tables_in (read_job file)) room bytes ends schema instance
laid_in {room} zero file (Ok l) e t = rw t.reads (record {
  of_bytes = lays room.bytes t.tables.strings.bytes zero.of_bytes t.bytes_hold;
  of_ends = lays room.ends t.tables.strings.ends zero.of_ends t.ends_hold;
  of_schema = lays room.schema t.tables.schema zero.of_schema t.schema_hold;
  of_instance = lays room.instance t.tables.instance zero.of_instance t.instance_hold;
})
laid_in zero file (Err n) e t = absurd (true≢false e)
