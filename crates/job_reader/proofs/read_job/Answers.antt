-- What is held keeps the limits of a job, and is given where it fits.
use mathlib.Core.Path.{◌≡◌, ◌∙◌}
use native.Mathlib.Omega.{arith}
use borrow.Author.Rules.{rules}
use Rattle.std.specs.Prelude.{Ok}
use Rattle.job.specs.Reading.{read_job}
use Rattle.job_reader.proofs.Answer.{small, tables_given}
use Rattle.job_reader.proofs.read_job.Goals as goal

pub overflow_cast-result : goal.overflow_cast-result
overflow_cast-result c =
    let held : Ok c.in_ok-lengths.lengths ≡ c.read_tables-held.result = search rules in
    omega (arith, (small c.args.file.now (held ∙ c.read_tables-held.ensures.answer)).few_bytes)

pub overflow_cast-result-2 : goal.overflow_cast-result-2
overflow_cast-result-2 c =
    let held : Ok c.in_ok-lengths.lengths ≡ c.read_tables-held.result = search rules in
    omega (arith, (small c.args.file.now (held ∙ c.read_tables-held.ensures.answer)).few_strings)

pub overflow_cast-result-3 : goal.overflow_cast-result-3
overflow_cast-result-3 c =
    let held : Ok c.in_ok-lengths.lengths ≡ c.read_tables-held.result = search rules in
    omega (arith, (small c.args.file.now (held ∙ c.read_tables-held.ensures.answer)).few_rows)

pub overflow_cast-result-4 : goal.overflow_cast-result-4
overflow_cast-result-4 c =
    let held : Ok c.in_ok-lengths.lengths ≡ c.read_tables-held.result = search rules in
    omega (arith, (small c.args.file.now (held ∙ c.read_tables-held.ensures.answer)).few_nodes)

pub returns-clause-outputs : goal.returns-clause-outputs
returns-clause-outputs c =
    let held : Ok c.in_ok-lengths.lengths ≡ c.read_tables-held.result = search rules in
    tables_given (read_job c.args.file.now) c.read_tables-held.ensures.outputs
    (held ∙ c.read_tables-held.ensures.answer) c.if-not-fit.ensures
