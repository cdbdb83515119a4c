-- Where the front is right and no end falls, only the last end can be wrong.
use mathlib.Core.Path.{◌≡◌, ap, ◌∙◌}
use Prim.Native.Nat.{suc, ◌-◌}
use native.Mathlib.Omega.{arith}
use lib.ListN.{length}
use Rattle.tables.proofs.Checks.{found_none, found_first}
use Rattle.strings.proofs.Table.{some_string, few_strings, ends_right, first_at_front}
use Rattle.strings.specs.Strings.{end_of, at_front, end_falls, last_end_wrong}
use Rattle.strings.proofs.check_ends.Goals as goal

pub returns-in_err-check_front : goal.returns-in_err-check_front
returns-in_err-check_front c =
    found_first _ _ c.check_front.ensures c.in_err-check_front.was c.from_residual.ensures.1
    (λ f clear. (at_front f, λ k h. absurd (omega (arith, first_at_front f))))

pub first_fall-requires : goal.first_fall-requires
first_fall-requires c = few_strings (found_none _ c.check_front.ensures c.in_ok-check_front.was)

pub returns-in_err-first_fall : goal.returns-in_err-first_fall
returns-in_err-first_fall c =
    found_first _ _ c.first_fall.ensures c.in_err-first_fall.was
    c.from_residual-in_err-first_fall.ensures.1 (λ f clear. (
      end_falls f,
      ends_right (found_none _ c.check_front.ensures
          c.in_ok-check_front.was) _ clear (λ k h e. absurd (omega (arith, f.0))),
    ))

pub overflow_sub-last : goal.overflow_sub-last
overflow_sub-last c = omega (arith, some_string (found_none _ c.check_front.ensures c.in_ok-check_front.was))

pub bounds-ends-last : goal.bounds-ends-last
bounds-ends-last c = omega (arith, some_string (found_none _ c.check_front.ensures c.in_ok-check_front.was))

pub overflow_cast-result : goal.overflow_cast-result
overflow_cast-result c = omega (arith, few_strings (found_none _ c.check_front.ensures c.in_ok-check_front.was))

pub returns-then-ends-last : goal.returns-then-ends-last
returns-then-ends-last c = (
  last_end_wrong (omega (
    arith,
    some_string (found_none _ c.check_front.ensures c.in_ok-check_front.was),
  )) c.if-ends-last.true,
  ends_right (found_none _ c.check_front.ensures c.in_ok-check_front.was)
      _ (λ k h. found_none _ c.first_fall.ensures c.in_ok-first_fall.was k)
      (λ k h e. absurd (omega arith)),
)

pub returns : goal.returns
returns c =
    λ i.
    let ends = c.args.ends.now in
    ends_right (found_none _ c.check_front.ensures c.in_ok-check_front.was)
    (suc i) (λ k h. found_none _ c.first_fall.ensures c.in_ok-first_fall.was k)
    (λ k h e. let l : k ≡ length ends - 1 = omega arith in ap (end_of ends) l ∙ c.if-ends-last.false)
    i (omega arith)
