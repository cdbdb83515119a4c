-- A line ends where an LF is found.
use mathlib.Core.Path.{◌∙◌, ap}
use native.Mathlib.Omega.{arith}
use lib.ListN.{drop_of_length-le}
use Rattle.std.specs.List.{position}
use Rattle.std.proofs.lemmas.List.{take_rest}
use Rattle.job.specs.Lines.{lines_of}
use Rattle.job_lines.proofs.Split.{line_to, no_line}
use Rattle.job_lines.proofs.line_end.Goals as goal

pub returns-in_err-get : goal.returns-in_err-get
returns-in_err-get c =
    let past = c.in_err-get.ensures.lookup.0 in
    rw c.from_residual.ensures (ap lines_of (drop_of_length-le c.args.file.now {i = c.args.at} (omega (arith, past))))

pub returns-in_err-i : goal.returns-in_err-i
returns-in_err-i c =
    let rest = c.in_ok-get.ensures.lookup.0.2 in
    rw c.from_residual-in_err-i.ensures (no_line c.args.file.now c.args.at
    (c.in_err-i.ensures ∙ ap (position _) (rest ∙ take_rest c.args.file.now c.args.at)))

pub returns : goal.returns
returns c =
    let rest = c.in_ok-get.ensures.lookup.0.2 in
    line_to c.args.file.now c.args.at
    (c.in_ok-i.ensures ∙ ap (position _) (rest ∙ take_rest c.args.file.now c.args.at))
