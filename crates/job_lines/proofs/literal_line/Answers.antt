-- A line is passed exactly when it is the text.
use mathlib.Core.Path.{refl, ◌∙◌, ap}
use Prim.Native.Nat.{◌+◌}
use lib.ListN.{drop}
use mathlib.Core.Bool.{true, false, false≢true}
use Rattle.std.proofs.lemmas.Bool.Decides.{Decides-eqb}
use Rattle.std.proofs.lemmas.Slice.Eq.{slice_eq-Decides}
use Rattle.job.specs.Lines.{lines_of}
use Rattle.job.specs.Reading.{literal}
use Rattle.tables.specs.Place.{between}
use Rattle.job_lines.proofs.Passing as passing
use Rattle.job_lines.proofs.literal_line.Goals as goal

pub returns-then-eq : goal.returns-then-eq
returns-then-eq c =
    let args = c.args in
    let l = c.in_ok-e.ensures in
    record {
      within = l.within;
      feed = l.feed;
      passes = passing.line_passes (literal args.text.now) (between args.file.now args.at c.in_ok-e.e)
          (lines_of (drop (c.in_ok-e.e + 1) args.file.now)) l.splits (ap (literal args.text.now)
          ((slice_eq-Decides Decides-eqb (between args.file.now args.at c.in_ok-e.e) args.text.now true
          c.if-eq.ensures).0 refl)
          ∙ passing.literal_same args.text.now);
    }

pub returns-else-eq : goal.returns-else-eq
returns-else-eq c =
    let args = c.args in
    let l = c.in_ok-e.ensures in
    passing.line_stops (literal args.text.now) (between args.file.now args.at c.in_ok-e.e)
    (lines_of (drop (c.in_ok-e.e + 1) args.file.now)) l.splits
    (passing.literal_other args.text.now (between args.file.now args.at c.in_ok-e.e)
    (λ e. false≢true ((slice_eq-Decides Decides-eqb (between args.file.now args.at c.in_ok-e.e) args.text.now false
    c.if-eq.ensures).1 e)))
