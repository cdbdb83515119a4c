-- What each case of an answer says (FORMAT, "Calls and outputs"), besides its code and place, which are `code_of` and
-- `place_of` of it: yes or no, and the row; the name or none; the number of pairs.
use Rattle.std.specs.Prelude.{ℕ, Bool, true, false, Result, Ok, Err, Option, None}
use Rattle.tables.specs.Codes.{refusal_at}
use Rattle.tables.specs.declared.refusals.Code.TheVariants.{Room}
use Rattle.tables.specs.declared.refusals.Refusal.{Refusal}
use Rattle.matching_list.specs.declared.Matches.{Matches}
use Rattle.matching_list.specs.declared.TooShort.{TooShort}
use Rattle.schema_classes.specs.declared.Member.{Member}
use Rattle.schema_classes.specs.declared.Member.TheVariants.{Yes, No}
use Rattle.schema_classes.specs.declared.Name.{Name}

-- no, none or 0 beside a refusal
abbrev pub is_yes : Result Member Refusal → Bool
is_yes (Ok (Yes row)) = true
is_yes (Ok (No row)) = false
is_yes (Err r) = false

abbrev pub row_of : Result Member Refusal → ℕ
row_of (Ok (Yes row)) = row
row_of (Ok (No row)) = row
row_of (Err r) = 0

abbrev pub found_name : Result (Option Name) Refusal → Option Name
found_name (Ok name) = name
found_name (Err r) = None

abbrev pub is_valid : Result Bool Refusal → Bool
is_valid (Ok valid) = valid
is_valid (Err r) = false

abbrev pub is_matched : Result Matches Refusal → Bool
is_matched (Ok m) = m.valid
is_matched (Err r) = false

abbrev pub pair_count : Result Matches Refusal → ℕ
pair_count (Ok m) = m.pairs
pair_count (Err r) = 0

-- the answer where no code before 12 refuses
abbrev pub match_answer : Result Matches TooShort → Result Matches Refusal
match_answer (Ok m) = Ok m
match_answer (Err e) = Err (refusal_at Room 0)
