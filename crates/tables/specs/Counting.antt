-- A table of counts: how a place of it counts one more.
use Rattle.std.specs.Prelude.{ℕ, ◌+◌, Bool, cond, List, get_or, set}

-- the counts with one more at place x, where it is wanted; a place past the end is not counted
abbrev pub counted : Bool → ℕ → List ℕ → List ℕ
counted wanted x counts = cond wanted (set counts x (get_or counts x 0 + 1)) counts
