-- What the program `check` prints for a job file (FORMAT, "Output").
use Rattle.std.specs.Prelude.{ℕ, ◌*◌, ◌≡◌, List, take, Result, Ok, Err}
use Rattle.tables.specs.Tables.{Tables}
use Rattle.tables.specs.Codes.{number_of}
use Rattle.tables.specs.declared.refusals.Refusal.{Refusal}
use Rattle.job.specs.Reading.{read, wrong, read_job}
use Rattle.job.specs.Reported.{match_text, refusal_text}
use Rattle.job_texts.specs.Writing.{TextIn}
use Rattle.relaxng.specs.Matching.{ListsMatches}
use Rattle.matching_list.specs.declared.Matches.{Matches}

-- the words that the program lends to the match list
abbrev pub list_room : ℕ
list_room = 16384

-- and the bytes for work
abbrev pub work_room : ℕ
work_room = 49155

-- the text of an answer, with the list that came with it
abbrev pub answer_text : Result Matches Refusal → List ℕ → List ℕ
answer_text (Ok m) list = match_text m.valid (take (m.pairs * 2) list)
answer_text (Err r) list = refusal_text (number_of r.code) r.place

-- the text of a job file: refused by 13 at its first wrong line, or the answer on the match list of its tables
pub data Reports (file text : List ℕ) : Type 0 where
  not_read : (line : ℕ) → read_job file ≡ wrong line → text ≡ refusal_text 13 line → Reports file text
  answered : (t : Tables) (list after : List ℕ) (r : Result Matches Refusal) → read_job file ≡ read t
      → ListsMatches t list_room work_room list after r → text ≡ answer_text r list → Reports file text

-- an output of so many bytes holds that text, with zeros after it, and n is its length
pub record Reported (file : List ℕ) (room : ℕ) (out : List ℕ) (n : ℕ) : Type 0 where
  pub text : List ℕ
  pub reports : Reports file text
  pub written : TextIn text room out n

-- the answer on tables, written
pub record Answered (J : Tables) (room : ℕ) (out : List ℕ) (n : ℕ) : Type 0 where
  pub list : List ℕ
  pub after : List ℕ
  pub matches : Result Matches Refusal
  pub lists : ListsMatches J list_room work_room list after matches
  pub written : TextIn (answer_text matches list) room out n
