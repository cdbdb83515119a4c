-- What the search for a member makes of the answers on the parts of a class.
use Rattle.std.specs.Prelude.{ℕ, ◌<◌, ◌≡◌, min, ◌&&◌, List, ltb}
use Rattle.schema_classes.specs.Membership.{in_class}
use Rattle.schema_classes.specs.WhichRow.{TakesIn, ShutsOut, RowBy, is_yes, row_of}
use Rattle.schema_classes.specs.declared.Member.{Member}
use Rattle.schema_classes.specs.declared.Member.TheVariants.{Yes, No}

-- row r, whose except class is e, by the answer on e
abbrev pub unless_excepted : ℕ → ℕ → Member → Member
unless_excepted r e (Yes q) = No e
unless_excepted r e (No q) = Yes r

-- a choice, by the answers on its members
abbrev pub choice_of : Member → Member → Member
choice_of (Yes p) (Yes q) = Yes (min p q)
choice_of (Yes p) (No q) = Yes p
choice_of (No p) (Yes q) = Yes q
choice_of (No p) (No q) = No (min p q)

-- the answer on the class c in a field of p: where it is no smaller row it says no, and no row does
pub record JudgedBelow (s : List ℕ) (u l p c : ℕ) (m : Member) : Type 0 where
  pub answer : is_yes m ≡ (ltb c p && in_class s u l c)
  pub row : RowBy (λ r. (c < p) × TakesIn s u l c r) (λ e. (c < p) × ShutsOut s u l c e) (is_yes m) (row_of m)
