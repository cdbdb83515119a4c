-- The invariant: no whitespace character stands at the positions passed.
use mathlib.Core.Path.{sym, ◌∙◌}
use native.Mathlib.Nat.{le-max_left, le-max_right}
use native.Mathlib.Omega.{arith}
use borrow.Author.Count.{below_more}
use lib.ListN.{length}
use Rattle.datatypes.proofs.Positions.{search_end}
use Rattle.datatypes.proofs.token_end.Goals as goal

pub loop-to-init : goal.loop-to-init
loop-to-init c = (omega arith, le-max_left _ _, λ i h g. absurd (omega arith))

pub returns-then-is_space : goal.returns-then-is_space
returns-then-is_space c =
    let passed = c.loop-to.invariant in
    record {
      onward = passed.0;
      within = passed.1;
      unbroken = λ i h g. passed.2 i g h;
      ended = λ h. sym c.is_space.ensures ∙ c.if-is_space.true;
    }

pub loop-to-preserved : goal.loop-to-preserved
loop-to-preserved c =
    let passed = c.loop-to.invariant in (
      omega arith,
      omega (arith, le-max_right c.args.from (length c.args.s.now)),
      below_more _ _ passed.2 (λ h. sym c.is_space.ensures ∙ c.if-is_space.false),
    )

pub returns : goal.returns
returns c =
    let passed = c.loop-to.invariant in
    rw (c.max.ensures, ← search_end passed.0 passed.1 c.loop-to-test.false)
    (record {
      onward = passed.0;
      within = passed.1;
      unbroken = λ i h g. passed.2 i g h;
      ended = λ h. absurd (omega (arith, h, c.loop-to-test.false));
    })
