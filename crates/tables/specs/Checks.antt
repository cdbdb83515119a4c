-- What a check of a table answers: nothing is wrong, or the place of the first fault.
use Rattle.std.specs.Prelude.{ℕ, Result, Ok, Err}
use Rattle.tables.specs.Answers.{Clear}

-- Ok exactly when P holds at no place, and otherwise the smallest place at which it holds
abbrev pub Finds : (ℕ → Type 0) → Result Unit ℕ → Type 0
Finds P (Ok _) = (i : ℕ) → ¬ P i
Finds P (Err place) = P place × Clear P place
