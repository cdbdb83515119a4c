-- What the program `check` prints (FORMAT, "Output"): the verdict, the number of pairs and the pairs, or the
-- one line of a refusal.
use Rattle.std.specs.Prelude.{ℕ, ◌/◌, Bool, true, false, List, [], ◌∷◌, ◌++◌, length}
use Rattle.job.specs.Ascii.{ascii}
use Rattle.job.specs.Numbers.{decimal}
use Rattle.job.specs.Lines.{comma, text_of_lines}
use Rattle.job.specs.Written.{row_lines}

abbrev pub valid_line : Bool → List ℕ
valid_line true = ascii "valid=yes"
valid_line false = ascii "valid=no"

-- the words of the match list, two for each pair
abbrev pub match_lines : Bool → List ℕ → List (List ℕ)
match_lines valid words =
    valid_line valid ∷ (ascii "pairs=" ++ decimal (length words / 2))
    ∷ row_lines (ascii "pair=") 2 (length words / 2) words

abbrev pub match_text : Bool → List ℕ → List ℕ
match_text valid words = text_of_lines (match_lines valid words)

abbrev pub refusal_text : ℕ → ℕ → List ℕ
refusal_text code place = text_of_lines ((ascii "refusal=" ++ decimal code ++ comma ∷ decimal place) ∷ [])
