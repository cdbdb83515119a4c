-- A wrong end comes before every repeated text; where all ends are right only repeated texts are left.
use Rattle.tables.proofs.Checks.{found_none, found_first, finds_same}
use Rattle.strings.proofs.Table.{few_strings, only_repeats, first_bad_end}
use Rattle.strings.specs.Strings.{at_front, repeated}
use Rattle.strings.proofs.check_strings.Goals as goal

pub returns-in_err-check_ends : goal.returns-in_err-check_ends
returns-in_err-check_ends c =
    found_first _ _ c.check_ends.ensures c.in_err-check_ends.was c.from_residual.ensures.1 first_bad_end

pub first_repeat-requires : goal.first_repeat-requires
first_repeat-requires c = few_strings (λ k f. found_none _ c.check_ends.ensures c.in_ok-check_ends.was k (at_front f))

pub returns : goal.returns
returns c =
    let right = found_none _ c.check_ends.ensures c.in_ok-check_ends.was in
    finds_same c.first_repeat.result (λ k f. repeated right f) (only_repeats right) c.first_repeat.ensures
