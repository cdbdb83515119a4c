-- The shift stays in the word, and 2 ^ n - 1 has the positions before n.
use Rattle.sets.proofs.Collecting.{pow_positive, collects_all}
use Rattle.sets.proofs.Bits.{one_shl}
use native.Mathlib.Omega.{arith}
use Rattle.sets.proofs.up_to.Goals as goal

pub overflow_sub-result : goal.overflow_sub-result
overflow_sub-result c = let p = one_shl c.args.n (omega arith) in let q = pow_positive c.args.n in omega arith

pub returns : goal.returns
returns c = collects_all _ (omega arith)
