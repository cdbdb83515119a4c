-- The invariant: the digits passed make the value, which is not too large.
use mathlib.Core.Path.{◌≡◌}
use Prim.Native.Nat.{◌≤◌}
use lib.ListN.{drop}
use Rattle.job.specs.Numbers.{largest_number}
use Rattle.job_numbers.specs.Answers.{digits_of}
use Rattle.job_numbers.proofs.read_digits.Given as goal

abbrev pub invariant-loop-b : goal.invariant-loop-b
invariant-loop-b l = (l.value ≤ largest_number) × (digits_of 0 l.text ≡ digits_of l.value (drop l.b-index l.text))
