-- A run that fits is handed over with its number, and one that does not is refused.
use Prim.Native.Nat.{ℕ, ◌*◌, ◌≤◌, ◌<◌}
use mathlib.Core.Path.{◌≡◌, refl, sym, subst, ◌∙◌}
use mathlib.Core.Bool.{Bool, true, false}
use mathlib.Core.List.{List, [], ◌∷◌, ◌++◌}
use mathlib.Core.Logic.{⊎_elim}
use native.Mathlib.Omega.{arith}
use lib.Dec.{leb→le, le→leb}
use lib.ListN.{length, take, length-append}
use Rattle.tables.specs.Tables.{Tables}
use Rattle.tables.specs.Outputs.{laid, zeros}
use Rattle.tables.proofs.Fill.{laid_none}
use Rattle.job.specs.Ascii.{ascii}
use Rattle.job.specs.Numbers.{decimal}
use Rattle.job.specs.Lines.{comma, line_feed, text_of_lines}
use Rattle.job.specs.Reported.{match_lines, match_text, refusal_text}
use Rattle.job.proofs.Decimals.{lt_or_ge}
use Rattle.job.specs.Reading.{no_tables}
use Rattle.job_lines.specs.Promises.{Room, room_of, OutputsHold}
use Rattle.job_reader.proofs.Answer.{room_of_lem}
use Rattle.job_texts.specs.Writing.{TextIn}
use Rattle.std.specs.Prelude.{Ok, Err}
use Rattle.tables.specs.Codes.{number_of}
use Rattle.report.specs.Report.{Reports, not_read, answered}
use Rattle.farshavan.specs.Packed.{packed_short, fits_in, Handed}

fits_in_lem : (run : List ℕ) (room : ℕ) → length run ≤ room → fits_in room run ≡ true
fits_in_lem run room h = go (fits_in room run) refl
  where
    go : (b : Bool) → fits_in room run ≡ b → fits_in room run ≡ true
    go true e = e
    go false e = absurd (rw e at (le→leb (length run) room h))

not_in : (run : List ℕ) (room : ℕ) → room < length run → fits_in room run ≡ false
not_in run room h = go (fits_in room run) refl
  where
    go : (b : Bool) → fits_in room run ≡ b → fits_in room run ≡ false
    go true e = absurd (let z = leb→le (length run) room (rw e tt) in omega arith)
    go false e = e

pub handed_whole : {run out : List ℕ} {value room r : ℕ} → length run ≤ room → r ≡ value → out ≡ laid room run
    → Handed run value room out r
handed_whole {run} {out} {value} {room} {r} h e o =
    let f = fits_in_lem run room h in
    record { number = rw f e; output = rw f o }

pub handed_short : {run out : List ℕ} {value room r : ℕ} → room < length run → r ≡ packed_short
    → out ≡ zeros room
    → Handed run value room out r
handed_short {run} {out} {value} {room} {r} h e o =
    let f = not_in run room h in
    record { number = rw f e; output = rw f o }

-- nothing to hand over but the number
pub none_fits : (room : ℕ) → fits_in room [] ≡ true
none_fits room = fits_in_lem [] room (omega arith)

pub handed_none : {out : List ℕ} {value room r : ℕ} → r ≡ value → out ≡ zeros room → Handed [] value room out r
handed_none {out} {value} {room} e o = handed_whole (omega arith) e (o ∙ sym (laid_none room))

-- where the number is 0 for a run that fits, it tells whether the run did
pub told_whole : {run out : List ℕ} {room r : ℕ} → Handed run 0 room out r → r ≡ 0 → fits_in room run ≡ true
told_whole {run} {out} {room} {r} h e = go (fits_in room run) refl
  where
    go : (b : Bool) → fits_in room run ≡ b → fits_in room run ≡ true
    go true f = f
    go false f = absurd (let z = rw f at h.number in omega arith)

pub told_short : {run out : List ℕ} {room r : ℕ} → Handed run 0 room out r → (r ≡ 0 → ⊥) → fits_in room run ≡ false
told_short {run} {out} {room} {r} h e = go (fits_in room run) refl
  where
    go : (b : Bool) → fits_in room run ≡ b → fits_in room run ≡ false
    go true f = absurd (e (rw f at h.number))
    go false f = f

-- outputs that held tables have the room that they had
pub zeroed : {t : Tables} {room : Room} {b e s i b' e' s' i' : List ℕ} → OutputsHold t room b e s i
    → OutputsHold no_tables (room_of b e s i) b' e' s' i' → OutputsHold no_tables room b' e' s' i'
zeroed {t} {room} {b} {e} {s} {i} {b'} {e'} {s'} {i'} before after =
    subst (λ (x : Room). OutputsHold no_tables x b' e' s' i') (room_of_lem before) after

-- no text is empty, so that a text that does not fit is told by the length 0
lines_not_empty : (lines : List (List ℕ)) → 0 < length lines → 0 < length (text_of_lines lines)
lines_not_empty [] h = absurd (omega arith)
lines_not_empty (l ∷ rest) h = let z = length-append l (line_feed ∷ text_of_lines rest) in omega arith

match_not_empty : (valid : Bool) (words : List ℕ) → 0 < length (match_text valid words)
match_not_empty valid words = lines_not_empty (match_lines valid words) (omega arith)

refusal_not_empty : (code place : ℕ) → 0 < length (refusal_text code place)
refusal_not_empty code place =
    lines_not_empty ((ascii "refusal=" ++ decimal code ++ comma ∷ decimal place) ∷ []) (omega arith)

report_not_empty : {file text : List ℕ} → Reports file text → 0 < length text
report_not_empty (not_read line e t) = rw t (refusal_not_empty 13 line)
report_not_empty (answered t list after (Ok m) e l t') = rw t' (match_not_empty m.valid (take (m.pairs * 2) list))
report_not_empty (answered t list after (Err r) e l t') = rw t' (refusal_not_empty (number_of r.code) r.place)

pub text_short : {file text out : List ℕ} {room n r : ℕ} → Reports file text → TextIn text room out n → n ≡ 0
    → r ≡ packed_short → Handed text (length text) room out r
text_short {file} {text} {out} {room} {n} {r} p w e q =
    ⊎_elim (λ h. handed_short h q (w.short h).0)
    (λ h. absurd (let y = (w.fits h).1 in let z = report_not_empty p in omega arith))
    (lt_or_ge room (length text))

pub text_whole : {text out : List ℕ} {room n : ℕ} → TextIn text room out n
    → (n ≡ 0 → ⊥) → Handed text (length text) room out n
text_whole {text} {out} {room} {n} w e =
    ⊎_elim (λ h. absurd (e (w.short h).1)) (λ h. handed_whole h (w.fits h).1 (w.fits h).0)
    (lt_or_ge room (length text))
