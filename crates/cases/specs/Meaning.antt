-- What a row of the table of cases says of a job's tables, by the definitions that the promises cite.
use Rattle.std.specs.Prelude.{ℕ, ◌≡◌, Bool, true, false, List, [], ◌∷◌, Ok, Err, Some}
use Rattle.tables.specs.Tables.{string_table, Tables, tables_of}
use Rattle.strings.specs.Strings.{instance_strings}
use Rattle.tables.specs.Codes.{number_of, refusal_at, Passes}
use Rattle.tables.specs.declared.refusals.Code.{Code}
use Rattle.schema_classes.specs.Least.{LeastCommon}
use Rattle.instance.specs.NodeRule.{NodesRight}
use Rattle.instance.specs.Width.{WidthFault}
use Rattle.relaxng.specs.Promises.{SchemaRefusal}
use Rattle.matching_rules.specs.Job.{Pair, Valid}
use Rattle.matching_rules.specs.Listed.{Rising, Lists}

-- what is said of a case: the match list with valid or not; the least name common to the classes at two rows;
-- a refusal of the schema by code and place
pub data Expected : Type 0 where
  matches : (pairs : List (ℕ × ℕ)) (valid : Bool) → Expected
  least : (first second namespace local : ℕ) → Expected
  refused : (code place : ℕ) → Expected

-- the tables of a job; the instance is empty where the case has none
pub record Row : Type 0 where
  pub bytes : List ℕ
  pub ends : List ℕ
  pub schema : List ℕ
  pub instance : List ℕ
  pub expected : Expected

abbrev pub tables_at : Row → Tables
tables_at r = tables_of (string_table r.bytes r.ends) r.schema r.instance

abbrev pub IsValid : Bool → Tables → Type 0
IsValid true J = Valid J
IsValid false J = ¬ Valid J

-- no code from 1 to 8 finds a fault
abbrev pub NotRefused : Row → Type 0
NotRefused r = SchemaRefusal (tables_at r).strings r.schema Passes (Ok tt)

-- no code from 1 to 10 finds a fault, the list has exactly the pairs, in order, and the instance is valid or not
pub record Matching (r : Row) (pairs : List (ℕ × ℕ)) (valid : Bool) : Type 0 where
  pub schema_passes : NotRefused r
  pub nodes_right : NodesRight (instance_strings (tables_at r).strings) r.instance
  pub not_wide : (e : ℕ) → ¬ WidthFault r.instance e
  pub rising : Rising pairs
  pub listed : Lists (Pair (tables_at r)) pairs
  pub validity : IsValid valid (tables_at r)

-- a code with that number refuses the schema at the place
pub record Refused (r : Row) (code place : ℕ) : Type 0 where
  pub by : Code
  pub numbered : number_of by ≡ code
  pub refusal : SchemaRefusal (tables_at r).strings r.schema Passes (Err (refusal_at by place))

abbrev pub CaseSays : Row → Expected → Type 0
CaseSays r (matches pairs valid) = Matching r pairs valid
CaseSays r (least c d u l) = NotRefused r × LeastCommon r.schema c d (Some (record { namespace = u; local = l }))
CaseSays r (refused code place) = Refused r code place

abbrev pub CaseHolds : Row → Type 0
CaseHolds r = CaseSays r r.expected

-- every row of a table holds
pub data AllHold : List Row → Type 0 where
  none_left : AllHold []
  holds : {r : Row} {rows : List Row} → CaseHolds r → AllHold rows → AllHold (r ∷ rows)
