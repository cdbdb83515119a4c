-- What the calls on a schema and an instance promise: valid or not, and the match list.
use Rattle.std.specs.Prelude.{ℕ, ◌*◌, ◌<◌, ◌≡◌, ◌≢◌, ◌⊎◌, Bool, List, length, Result}
use Rattle.tables.specs.Tables.{Tables}
use Rattle.strings.specs.Strings.{instance_strings}
use Rattle.tables.specs.Answers.{Decides}
use Rattle.tables.specs.Outputs.{zeros}
use Rattle.tables.specs.Codes.{Tries, Passes, code_of, verdict_of}
use Rattle.tables.specs.declared.refusals.Code.TheVariants as code
use Rattle.tables.specs.declared.refusals.Refusal.{Refusal}
use Rattle.instance.specs.NodeRule.{NodeFault}
use Rattle.instance.specs.Width.{WidthFault}
use Rattle.matching_rules.specs.Job.{Valid}
use Rattle.matching_list.specs.MatchList.{MatchList, ListWritten}
use Rattle.matching_work.specs.Work.{WorkFault}
use Rattle.matching_list.specs.declared.Matches.{Matches}
use Rattle.relaxng.specs.Answers.{is_valid, is_matched, pair_count}
use Rattle.relaxng.specs.Promises.{SchemaRefusal}

-- codes 1 to 10, and after them what next says
abbrev pub InstanceRefusal : Tables → (Result Unit Refusal → Type 0) → Result Unit Refusal → Type 0
InstanceRefusal J next =
    SchemaRefusal J.strings J.schema
    (Tries code.Nodes (NodeFault (instance_strings J.strings) J.instance)
    (Tries code.Width (WidthFault J.instance) next))

-- codes 1 to 10, then 12 for so many bytes of work
abbrev pub WorkRefusal : (J : Tables) (work : ℕ) → Result Unit Refusal → Type 0
WorkRefusal J work = InstanceRefusal J (Tries code.Room (WorkFault J work) Passes)

-- the verdict on schema and instance with so many bytes for work, which are zero afterwards: valid exactly when nothing
-- is refused and a derivation by (valid) of 9.4 exists
pub record GivesVerdict (J : Tables) (work : ℕ) (after : List ℕ) (r : Result Bool Refusal) : Type 0 where
  pub refusal : WorkRefusal J work (verdict_of r)
  pub answer : Decides ((code_of r ≡ 0) × Valid J) (is_valid r)
  pub cleared : after ≡ zeros work

-- code 12 at 0: the pairs of the match list, at two words each, need more words than the list has
abbrev pub ListTooShort : (J : Tables) (room place : ℕ) → Type 0
ListTooShort J room place = (place ≡ 0) × (l : List (ℕ × ℕ)) × MatchList J l × (room < length l * 2)

-- code 12 for either buffer
abbrev pub BufferShort : (J : Tables) (room work place : ℕ) → Type 0
BufferShort J room work place = WorkFault J work place ⊎ ListTooShort J room place

-- the match list in a buffer of so many words, the number of its pairs, and valid exactly when a derivation by (valid)
-- of 9.4 exists
pub record Matched (J : Tables) (room : ℕ) (list : List ℕ) (r : Result Matches Refusal) : Type 0 where
  pub pairs : List (ℕ × ℕ)
  pub all : MatchList J pairs
  pub written : ListWritten J pairs room list (pair_count r) (is_matched r)

-- the whole promise, with so many words for the list and so many bytes for work, which are zero afterwards: where
-- nothing is refused the list, and zeros throughout otherwise
pub record ListsMatches (J : Tables) (room work : ℕ) (list after : List ℕ) (r : Result Matches Refusal) : Type 0 where
  pub refusal : InstanceRefusal J (Tries code.Room (BufferShort J room work) Passes) (verdict_of r)
  pub matched : code_of r ≡ 0 → Matched J room list r
  pub zeroed : code_of r ≢ 0 → list ≡ zeros room
  pub cleared : after ≡ zeros work
