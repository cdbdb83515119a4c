use native.Mathlib.Omega.{arith}
use Rattle.report.proofs.Job.{lent_buffers, pairs_fit, is_answered}
use Rattle.report.proofs.answer.Goals as goal

pub write_pairs-requires : goal.write_pairs-requires
write_pairs-requires c =
    let f = pairs_fit (lent_buffers c.match_list.ensures) c.in-Ok.is in
    (omega (arith, f), f)

pub returns-in-Ok : goal.returns-in-Ok
returns-in-Ok c = is_answered (lent_buffers c.match_list.ensures) c.in-Ok.is c.write_pairs.ensures

pub returns-in-Err : goal.returns-in-Err
returns-in-Err c =
    is_answered (lent_buffers c.match_list.ensures) c.in-Err.is (rw c.number.ensures at c.write_refusal.ensures)
