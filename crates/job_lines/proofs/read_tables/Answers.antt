-- The outputs are zeros before the lines are read.
use mathlib.Core.Path.{sym, ◌∙◌}
use Rattle.job_lines.proofs.Holding.{laid_in}
use Rattle.job_lines.proofs.read_tables.Goals as goal

pub returns-else-is_err-clause-outputs : goal.returns-else-is_err-clause-outputs
returns-else-is_err-clause-outputs c =
    laid_in c.zero_outputs.ensures c.args.file.now c.read_lines-held.result
    (sym c.is_err.ensures.value ∙ c.if-is_err.false) c.read_lines-held.ensures
