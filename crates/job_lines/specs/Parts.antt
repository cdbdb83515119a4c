-- What the functions on one line answer, over the definitions of reading; cited by private functions only.
use Rattle.std.specs.Prelude.{ℕ, ◌+◌, ◌≤◌, ◌<◌, ◌≡◌, cond, List, [], ◌∷◌, length, get_or, drop, leb}
use Rattle.std.specs.Prelude.{Option, None, Some}
use Rattle.std.proofs.lemmas.List.Edits.{sets}
use Rattle.strings.specs.Strings.{max_bytes}
use Rattle.tables.specs.Place.{between}
use Rattle.job.specs.Ascii.{ascii}
use Rattle.job.specs.Numbers.{hex_bytes}
use Rattle.job.specs.Lines.{line_feed, lines_of, fields_of, after}
use Rattle.job.specs.Reading.{and_then}

-- the string of a line, after so many bytes of other strings
abbrev pub string_after : ℕ → List ℕ → Option (List ℕ)
string_after used l =
    and_then (after (ascii "s=") l)
    (λ digits. and_then (hex_bytes digits) (λ text. cond (leb (used + length text) max_bytes) (Some text) None))

-- the line that starts at a position ends with the LF at e
pub record LineTo (file : List ℕ) (at e : ℕ) : Type 0 where
  pub from : at ≤ e
  pub within : e < length file
  pub feed : get_or file e 0 ≡ line_feed
  pub splits : lines_of (drop at file) ≡ between file at e ∷ lines_of (drop (e + 1) file)

abbrev pub LineEnd : List ℕ → ℕ → Option ℕ → Type 0
LineEnd file at (Some e) = LineTo file at e
LineEnd file at None = lines_of (drop at file) ≡ []

-- the fields from a position on: none past the end of the text
abbrev pub fields_from : List ℕ → ℕ → List (List ℕ)
fields_from text at = cond (leb at (length text)) (fields_of (drop at text)) []

-- the field that starts at a position ends at e, before a comma or the end of the text
pub record FieldEnd (text : List ℕ) (at e : ℕ) : Type 0 where
  pub from : at ≤ e
  pub within : e ≤ length text
  pub splits : fields_from text at ≡ between text at e ∷ fields_from text (e + 1)

-- what is read stands in the output from a position on, as far as it fits, and ends at another position
pub record StoredTo (reads : Option (List ℕ)) (out : List ℕ) (from : ℕ) (after : List ℕ) (to : ℕ) : Type 0 where
  pub run : List ℕ
  pub is : reads ≡ Some run
  pub stored : after ≡ sets out from run
  pub ends : to ≡ from + length run

abbrev pub Stores : Option (List ℕ) → List ℕ → ℕ → List ℕ → Option ℕ → Type 0
Stores reads out from after (Some to) = StoredTo reads out from after to
Stores reads out from after None = reads ≡ None
