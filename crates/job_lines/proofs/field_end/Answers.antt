-- A field ends where a comma is found, or with the text.
use mathlib.Core.Path.{◌∙◌, ap}
use Rattle.std.specs.List.{position}
use Rattle.std.proofs.lemmas.List.{take_rest}
use Rattle.job_lines.proofs.Split.{field_to, last_field}
use Rattle.job_lines.proofs.field_end.Goals as goal

pub returns-in-Some : goal.returns-in-Some
returns-in-Some c =
    field_to c.args.text.now c.args.from c.requires
    (c.in-Some.ensures ∙ ap (position _) (take_rest c.args.text.now c.args.from))

pub returns-in-None : goal.returns-in-None
returns-in-None c =
    last_field c.args.text.now c.args.from c.requires
    (c.in-None.ensures ∙ ap (position _) (take_rest c.args.text.now c.args.from))
