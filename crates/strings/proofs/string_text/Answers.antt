-- Where the strings keep their rule, the ends of a string are in order and within the bytes, so the part lies where it
-- should.
use Prim.Native.Nat.{suc, ◌-◌}
use native.Mathlib.Omega.{arith}
use lib.ListN.{length}
use native.Mathlib.Nat.{le_trans}
use Rattle.tables.proofs.Checks.{found_none}
use Rattle.tables.proofs.Parts.{in_order_lem}
use Rattle.strings.specs.Strings.{start_of, end_of}
use Rattle.strings.proofs.Table.{ends_of, start_before_end, end_within}
use Rattle.strings.proofs.string_text.Goals as goal

pub returns-in-Ok : goal.returns-in-Ok
returns-in-Ok c =
    let a = c.args in
    record {
      in_table = λ right h. (
          let below = start_before_end (ends_of right) a.k h in
          let within = end_within (ends_of right) (length a.ends.now - suc a.k) a.k (omega arith) in
          rw (in_order_lem a.bytes.now (start_of a.ends.now a.k) (end_of a.ends.now a.k)
          below (le_trans below within)) at c.text.ensures.lies
          );
      not_in_table = λ h. absurd (omega (arith, h, c.if-k-ends.true));
      rule_broken = λ place f. absurd (found_none _ c.check_strings.ensures c.in-Ok.is place f);
    }
