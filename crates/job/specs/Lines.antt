-- Lines ended by LF, and the parts of a line.
use Rattle.std.specs.Prelude.{ℕ, Bool, false, cond, List, [], ◌∷◌, ◌++◌, eqb}
use Rattle.std.specs.Prelude.{Option, None, Some}

abbrev pub line_feed : ℕ
line_feed = 10

abbrev pub comma : ℕ
comma = 44

-- the text of lines, each ended by LF
abbrev pub text_of_lines : List (List ℕ) → List ℕ
text_of_lines [] = []
text_of_lines (l ∷ lines) = l ++ line_feed ∷ text_of_lines lines

-- a byte in front of the first of some runs of bytes
abbrev pub in_front : ℕ → List (List ℕ) → List (List ℕ)
in_front c [] = []
in_front c (l ∷ runs) = (c ∷ l) ∷ runs

-- the lines of a text; what follows its last LF is no line
abbrev pub lines_of : List ℕ → List (List ℕ)
lines_of [] = []
lines_of (c ∷ text) = cond (eqb c line_feed) ([] ∷ lines_of text) (in_front c (lines_of text))

-- the text ends with LF
abbrev pub is_ended : List ℕ → Bool
is_ended [] = false
is_ended (c ∷ []) = eqb c line_feed
is_ended (c ∷ d ∷ text) = is_ended (d ∷ text)

-- the fields of a line, with a comma between; a line without comma is one field
abbrev pub fields_of : List ℕ → List (List ℕ)
fields_of [] = [] ∷ []
fields_of (c ∷ line) = cond (eqb c comma) ([] ∷ fields_of line) (in_front c (fields_of line))

-- what follows a key at the front of a line
abbrev pub after : List ℕ → List ℕ → Option (List ℕ)
after [] line = Some line
after (k ∷ key) [] = None
after (k ∷ key) (c ∷ line) = cond (eqb c k) (after key line) None
