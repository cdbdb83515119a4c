-- The codes in their order: a code is given only where those tried before it have no fault, and with the smallest place
-- at which it has one.
use Rattle.std.specs.Prelude.{ℕ, ◌≡◌, Result, Ok, Err}
use Rattle.tables.specs.Answers.{Clear}
use Rattle.tables.specs.declared.refusals.Code.{Code}
use Rattle.tables.specs.declared.refusals.Refusal.{Refusal}
use Rattle.tables.specs.declared.refusals.Code.TheVariants.{Strings, Rows, Places, Names, Paths, Content, Attributes}
use Rattle.tables.specs.declared.refusals.Code.TheVariants.{Interleaves, Nodes, Width, NoClass, Room, Line}

-- FORMAT, "Codes and places"
abbrev pub number_of : Code → ℕ
number_of Strings = 1
number_of Rows = 2
number_of Places = 3
number_of Names = 4
number_of Paths = 5
number_of Content = 6
number_of Attributes = 7
number_of Interleaves = 8
number_of Nodes = 9
number_of Width = 10
number_of NoClass = 11
number_of Room = 12
number_of Line = 13

abbrev pub refusal_at : Code → ℕ → Refusal
refusal_at code place = record { code = code; place = place }

-- the fault that a check found, as a refusal
abbrev pub refused_by : Code → Result Unit ℕ → Result Unit Refusal
refused_by code (Ok x) = Ok x
refused_by code (Err place) = Err (refusal_at code place)

-- a code whose faults are P is tried, and after it what next says
pub data Tries (code : Code) (P : ℕ → Type 0) (next : Result Unit Refusal → Type 0) : Result Unit Refusal → Type 0 where
  refused : (place : ℕ) → P place → Clear P place → Tries code P next (Err (refusal_at code place))
  goes_on : {v : Result Unit Refusal} → ((i : ℕ) → ¬ P i) → next v → Tries code P next v

-- no code is left
abbrev pub Passes : Result Unit Refusal → Type 0
Passes v = v ≡ Ok tt

-- an answer in the numbers of FORMAT, "Codes and places": code and place, both 0 where nothing is refused
abbrev pub code_of : {A : Type 0} → Result A Refusal → ℕ
code_of (Ok x) = 0
code_of (Err r) = number_of r.code

abbrev pub place_of : {A : Type 0} → Result A Refusal → ℕ
place_of (Ok x) = 0
place_of (Err r) = r.place

-- what an answer says of refusal alone
abbrev pub verdict_of : {A : Type 0} → Result A Refusal → Result Unit Refusal
verdict_of (Ok x) = Ok tt
verdict_of (Err r) = Err r
