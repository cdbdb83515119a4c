-- Codes 1 to 10, and 12 for the work buffer, leave zeros; then the list and code 12 are told of the tables, which pass.
use Rattle.relaxng.proofs.Matched.{tables_pass, refused_list, whole_list}
use Rattle.relaxng.proofs.match_list.Goals as goal

pub returns-in-Err : goal.returns-in-Err
returns-in-Err c =
    refused_list _ _ c.work_verdict.ensures.work_refusal c.work_verdict.ensures.cleared c.in-Err.is c.zero.ensures

pub match_pairs-requires : goal.match_pairs-requires
match_pairs-requires c = tables_pass c.in_default.is c.work_verdict.ensures.work_refusal

pub returns : goal.returns
returns c =
    rw c.matches_of.ensures
    (whole_list _ _ c.work_verdict.ensures.work_refusal c.work_verdict.ensures.cleared
    c.in_default.is c.match_pairs.result c.match_pairs.ensures)
