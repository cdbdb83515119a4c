-- The kinds that are prohibited at a row, and the first of two faults; cited by private functions only.
use Rattle.std.specs.Prelude.{ℕ, min, ◌≡◌, Bool, true, ◌||◌, List, eqb, Result, Ok, Err}
use Rattle.schema.specs.Kinds as kind
use Rattle.schema.specs.Rows.{kind_of}
use Rattle.schema.specs.Marks.{Marked}
use Rattle.schema_places.specs.Marks.{Under}
use Rattle.schema_places.specs.Sources.{HasKind}
use Rattle.schema_places.specs.Paths.{sharing_kind, not_in_attribute, not_in_list, not_in_except, not_in_start}
use Rattle.schema_places.specs.declared.Prohibition.{Prohibition}
use Rattle.schema_places.specs.declared.Prohibition.TheVariants.{AnyKind, NotInAnyName, NotInNsName}
use Rattle.schema_places.specs.declared.Prohibition.TheVariants.{NotInAttribute, NotInRepeated}
use Rattle.schema_places.specs.declared.Prohibition.TheVariants.{NotInList, NotInExcept, NotInStart}

abbrev pub is_prohibited : Prohibition → ℕ → Bool
is_prohibited AnyKind k = true
is_prohibited NotInAnyName k = eqb k kind.any_name
is_prohibited NotInNsName k = eqb k kind.any_name || eqb k kind.ns_name
is_prohibited NotInAttribute k = not_in_attribute k
is_prohibited NotInRepeated k = eqb k kind.attribute
is_prohibited NotInList k = not_in_list k
is_prohibited NotInExcept k = not_in_except k
is_prohibited NotInStart k = not_in_start k

-- row r is marked, and its kind is prohibited
pub record MarkedKind (s t : List ℕ) (prohibition : Prohibition) (r : ℕ) : Type 0 where
  pub mark : Marked t r
  pub prohibited : is_prohibited prohibition (kind_of s r) ≡ true

-- row r is below a row of which S holds, and its kind is prohibited there
pub record Prohibited (s : List ℕ) (S : ℕ → Type 0) (prohibition : Prohibition) (r : ℕ) : Type 0 where
  pub under : Under s S r
  pub prohibited : is_prohibited prohibition (kind_of s r) ≡ true

-- the groups and interleaves below a oneOrMore
pub record RepeatedSharing (s : List ℕ) (p : ℕ) : Type 0 where
  pub sharing : sharing_kind (kind_of s p) ≡ true
  pub repeated : Under s (HasKind s kind.one_or_more) p

abbrev pub earliest : Result Unit ℕ → Result Unit ℕ → Result Unit ℕ
earliest (Ok _) b = b
earliest (Err x) (Ok _) = Err x
earliest (Err x) (Err y) = Err (min x y)
