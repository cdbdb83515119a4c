-- The string table and its rule, from FORMAT, "Strings", and code 1 of FORMAT, "Codes and places".
use Rattle.std.specs.Prelude.{ℕ, zero, suc, ◌<◌, ◌≡◌, ◌≢◌, List, length, get_or}
use Rattle.tables.specs.Place.{between}
use Rattle.tables.specs.Tables.{StringTable}

-- the limits of FORMAT, "Strings"
abbrev pub max_strings : ℕ
max_strings = 512

abbrev pub max_bytes : ℕ
max_bytes = 16384

-- where string k ends, and where it starts: at the end of the string before it, and string 0 at 0
abbrev pub end_of : List ℕ → ℕ → ℕ
end_of ends k = get_or ends k 0

abbrev pub start_of : List ℕ → ℕ → ℕ
start_of ends zero = 0
start_of ends (suc k) = end_of ends k

-- the text of string k
abbrev pub text_of : StringTable → ℕ → List ℕ
text_of T k = between T.bytes (start_of T.ends k) (end_of T.ends k)

-- how many strings there are for the rows of the schema, and for those of the instance
abbrev pub schema_strings : StringTable → ℕ
schema_strings T = length T.ends

abbrev pub instance_strings : StringTable → ℕ
instance_strings T = length T.ends

-- an end before the end of the string before
abbrev pub Falls : List ℕ → ℕ → Type 0
Falls ends k = (k < length ends) × (end_of ends k < start_of ends k)

-- the text of a string before
abbrev pub RepeatsText : StringTable → ℕ → Type 0
RepeatsText T k = (k < length T.ends) × ((j : ℕ) × (j < k) × (text_of T j ≡ text_of T k))

-- a fault whose place is string 0: the number of strings, the number of bytes, or a string 0 that is not empty
pub data FrontFault (T : StringTable) (k : ℕ) : Type 0 where
  no_string : length T.ends ≡ 0 → k ≡ 0 → FrontFault T k
  too_many_strings : max_strings < length T.ends → k ≡ 0 → FrontFault T k
  too_many_bytes : max_bytes < length T.bytes → k ≡ 0 → FrontFault T k
  first_not_empty : end_of T.ends 0 ≢ 0 → k ≡ 0 → FrontFault T k

-- what is wrong at string k with the counts and the ends
pub data EndFault (T : StringTable) (k : ℕ) : Type 0 where
  at_front : FrontFault T k → EndFault T k
  end_falls : Falls T.ends k → EndFault T k
  last_end_wrong : suc k ≡ length T.ends → end_of T.ends k ≢ length T.bytes → EndFault T k

-- code 1 at string k; a repeated text is a fault only where all ends are right
pub data StringFault (T : StringTable) (k : ℕ) : Type 0 where
  bad_end : EndFault T k → StringFault T k
  repeated : ((i : ℕ) → ¬ EndFault T i) → RepeatsText T k → StringFault T k

-- the strings keep their rule
abbrev pub StringsRight : StringTable → Type 0
StringsRight T = (k : ℕ) → ¬ StringFault T k
