-- A number that is too large stays so.
use mathlib.Core.Path.{sym, ◌∙◌, ap}
use Prim.Native.Nat.{◌+◌}
use native.Mathlib.Omega.{arith}
use lib.ListN.{drop, get_or}
use Rattle.tables.proofs.Parts.{drop_one}
use Rattle.job_numbers.proofs.Digits.{next_over}
use Rattle.job_numbers.specs.Answers.{digits_of}
use Rattle.job_numbers.proofs.read_digits.Goals as goal

pub returns-then-value-gt-LARGEST_NUMBER : goal.returns-then-value-gt-LARGEST_NUMBER
returns-then-value-gt-LARGEST_NUMBER c =
    let text = c.args.text.now in
    let loop = c.loop-b in
    sym (loop.invariant.1 ∙ ap (digits_of loop.value) (drop_one text loop.b-index c.loop-b-test.true)
    ∙ next_over loop.value (get_or text loop.b-index 0) (drop (loop.b-index + 1) text) (omega arith))
