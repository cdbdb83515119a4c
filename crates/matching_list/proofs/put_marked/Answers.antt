-- A pair, or none.
use Rattle.matching_list.proofs.Putting.{put_as, put_none, marked, unmarked}
use mathlib.Core.Path.{sym, ◌∙◌}
use native.Mathlib.Omega.{arith}
use Rattle.matching_list.proofs.put_marked.Goals as goal

pub returns-then-at-eq1 : goal.returns-then-at-eq1
returns-then-at-eq1 c =
    let a = c.args in
    let k = c.put_pair.ensures.number in record {
      put_pairs = put_as (sym (marked a.table.now a.e a.d (sym c.at.ensures ∙ c.if-at-eq1.true)))
          c.put_pair.ensures;
      one = omega arith;
    }

pub returns-else-at-eq1 : goal.returns-else-at-eq1
returns-else-at-eq1 c =
    let a = c.args in record {
      put_pairs = put_as (sym (unmarked a.table.now a.e a.d (λ z. c.if-at-eq1.false (c.at.ensures ∙ z))))
          (put_none _ _);
      one = omega arith;
    }
