-- The match list of a schema and an instance, and what is answered with it.
use Rattle.std.specs.Prelude.{ℕ, ◌*◌, ◌≤◌, ◌<◌, ◌≡◌, Bool, Result, Ok, Err, length}
use mathlib.Core.List.{List, Memᴰ}
use Rattle.tables.specs.Tables.{Tables}
use Rattle.tables.specs.Answers.{Decides}
use Rattle.tables.specs.Outputs.{zeros, laid}
use Rattle.matching_rules.specs.Job.{Pair, StartNames}
use Rattle.matching_rules.specs.Job as job
use Rattle.matching_rules.specs.Listed.{Rising, Lists, pair_words}
use Rattle.matching_list.specs.declared.Matches.{Matches}
use Rattle.matching_list.specs.declared.TooShort.{TooShort}

-- l is all pairs of an element and a definition that it is proved against, by element and then by definition, each once
pub record MatchList (J : Tables) (l : List (ℕ × ℕ)) : Type 0 where
  pub rising : Rising l
  pub lists : Lists (Pair J) l

-- the match list l in a list of so many words, with the number of its pairs and valid or not
pub record ListWritten (J : Tables) (l : List (ℕ × ℕ)) (room : ℕ) (list : List ℕ) (number : ℕ)
    (valid : Bool) : Type 0 where
  pub fit : length l * 2 ≤ room
  -- the pairs as words, one behind the other, and zeros to the end
  pub words : list ≡ laid room (pair_words l)
  pub counted : number ≡ length l
  -- valid is yes exactly when the list has a pair of row 0 and a definition that the start names, and exactly when a
  -- derivation by (valid) of 9.4 exists
  pub rooted : Decides ((d : ℕ) × StartNames J d × Memᴰ (0, d) l) valid
  pub derived : Decides (job.Valid J) valid

-- what each answer says of the match list l and of the list of so many words
abbrev pub Says : (J : Tables) (l : List (ℕ × ℕ)) (room : ℕ) (list : List ℕ) → Result Matches TooShort → Type 0
Says J l room list (Ok m) = ListWritten J l room list m.pairs m.valid
Says J l room list (Err short) = (room < length l * 2) × (list ≡ zeros room)

-- the whole promise: there is a match list, and the answer is told of it
pub record ListAnswer (J : Tables) (room : ℕ) (list : List ℕ) (r : Result Matches TooShort) : Type 0 where
  pub pairs : List (ℕ × ℕ)
  pub all : MatchList J pairs
  pub says : Says J pairs room list r
