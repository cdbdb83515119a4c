-- What a text is read as: a number, if it is one.
use Rattle.std.specs.Prelude.{ℕ, cond, ◌&&◌, List, leb, Option, None, Some}
use Rattle.job.specs.Numbers.{all_digits, value_from, largest_number}

-- the number that digits make after those that made n, leading zeros or not; cited by a private function only
abbrev pub digits_of : ℕ → List ℕ → Option ℕ
digits_of n l = cond (all_digits l && leb (value_from n l) largest_number) (Some (value_from n l)) None
