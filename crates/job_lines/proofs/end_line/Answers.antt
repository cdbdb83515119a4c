-- What follows the last line is nothing exactly when the LF of that line is the last byte.
use mathlib.Core.Path.{sym, ◌∙◌, ap}
use native.Mathlib.Numerals.{add-one}
use Rattle.job.specs.Reading.{wrong}
use Rattle.job_lines.proofs.LastLine.{more_follows, nothing_follows}
use Rattle.job_lines.proofs.end_line.Goals as goal

pub returns-then-e-file : goal.returns-then-e-file
returns-then-e-file c =
    let args = c.args in
    let l = rw c.in_ok-e.ensures.ok_part at c.literal_line.ensures in
    λ t. l.passes.on args.line _ ∙ more_follows args.file.now t _ _ c.if-e-file.true
    ∙ ap wrong (sym (add-one args.line))

pub returns : goal.returns
returns c =
    let args = c.args in
    let l = rw c.in_ok-e.ensures.ok_part at c.literal_line.ensures in
    λ t. l.passes.on args.line _ ∙ nothing_follows args.file.now t _ _ l.within c.if-e-file.false l.feed
