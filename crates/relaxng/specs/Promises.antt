-- What the public calls promise.
use Rattle.std.specs.Prelude.{ℕ, ◌≡◌, true, false, ◌&&◌, List, eqb, Result, Option}
use Rattle.tables.specs.Tables.{StringTable}
use Rattle.tables.specs.Codes.{Tries, Passes, code_of, verdict_of}
use Rattle.tables.specs.declared.refusals.Code.TheVariants as code
use Rattle.tables.specs.declared.refusals.Refusal.{Refusal}
use Rattle.strings.specs.Strings.{StringFault, schema_strings}
use Rattle.schema.specs.Rows.{sort_of, is_class}
use Rattle.schema_classes.specs.Membership.{in_class}
use Rattle.schema_classes.specs.WhichRow.{WhichRow}
use Rattle.schema_classes.specs.Least as least
use Rattle.schema_restrictions.specs.Schema.{SchemaTries}
use Rattle.schema_classes.specs.declared.Member.{Member}
use Rattle.schema_classes.specs.declared.Name.{Name}
use Rattle.relaxng.specs.Answers.{is_yes, row_of, found_name}

-- codes 1 to 8, and after them what next says
abbrev pub SchemaRefusal : StringTable → List ℕ → (Result Unit Refusal → Type 0) → Result Unit Refusal → Type 0
SchemaRefusal T s next = Tries code.Strings (StringFault T) (SchemaTries (schema_strings T) s next)

-- code 11: the row asked is not a name class; of two the first that is not
abbrev pub NotClass : List ℕ → ℕ → ℕ → Type 0
NotClass s row place = (is_class (sort_of s row) ≡ false) × (place ≡ row)

pub data NoClass (s : List ℕ) (first second place : ℕ) : Type 0 where
  not_first : NotClass s first place → NoClass s first second place
  not_second : is_class (sort_of s first) ≡ true → NotClass s second place → NoClass s first second place

-- yes exactly where nothing is refused and the name is in the class, with the row of the class that says so; the row 0
-- beside a refusal
pub record NameInClass (T : StringTable) (s : List ℕ) (class namespace local : ℕ) (r : Result Member Refusal)
    : Type 0 where
  pub refusal : SchemaRefusal T s (Tries code.NoClass (NotClass s class) Passes) (verdict_of r)
  pub answer : is_yes r ≡ (eqb (code_of r) 0 && in_class s namespace local class)
  pub row : code_of r ≡ 0 → WhichRow s namespace local class (is_yes r) (row_of r)
  pub without_row : ¬ (code_of r ≡ 0) → row_of r ≡ 0

-- the least name that both classes hold or none, where nothing is refused
pub record LeastCommonName (T : StringTable) (s : List ℕ) (first second : ℕ) (r : Result (Option Name) Refusal)
    : Type 0 where
  pub refusal : SchemaRefusal T s (Tries code.NoClass (NoClass s first second) Passes) (verdict_of r)
  pub answer : code_of r ≡ 0 → least.LeastCommon s first second (found_name r)
