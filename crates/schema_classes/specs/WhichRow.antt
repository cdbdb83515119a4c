-- Which row of a class says that a name is in it, or that it is not (FORMAT, "Matching").
use Rattle.std.specs.Prelude.{ℕ, ◌≡◌, Bool, true, false, ◌&&◌, List, leb}
use Rattle.tables.specs.Answers.{Clear}
use Rattle.schema.specs.Kinds as kind
use Rattle.schema.specs.Relations.{Child}
use Rattle.schema.specs.Rows.{kind_of, a_of}
use Rattle.schema_classes.specs.Membership.{in_class}
use Rattle.schema_classes.specs.declared.Member.{Member}
use Rattle.schema_classes.specs.declared.Member.TheVariants.{Yes, No}

-- r lies in the class c below no except: it is c, or it lies so in a member of c, which is a choice
pub data Lies (s : List ℕ) (r : ℕ) : ℕ → Type 0 where
  itself : Lies s r r
  within : {c m : ℕ} → kind_of s c ≡ kind.name_choice → Child s m c → Lies s r m → Lies s r c

-- e is the except class of r, an anyName or an nsName of the namespace u
pub data Except (s : List ℕ) (u e r : ℕ) : Type 0 where
  of_any_name : kind_of s r ≡ kind.any_name → Child s e r → Except s u e r
  of_ns_name : kind_of s r ≡ kind.ns_name → a_of s r ≡ u → Child s e r → Except s u e r

-- anyName, nsName and name
abbrev pub no_choice : ℕ → Bool
no_choice k = leb kind.any_name k && leb k kind.name

-- r, an anyName, an nsName or a name that lies in the class c below no except, holds the name u, l, taken with its own
-- except
pub record TakesIn (s : List ℕ) (u l c r : ℕ) : Type 0 where
  pub lies : Lies s r c
  pub kind : no_choice (kind_of s r) ≡ true
  pub holds : in_class s u l r ≡ true

-- e holds the name u, l, and is the except class of an anyName, or of an nsName of the namespace u, that lies in the
-- class c below no except
pub record ShutsOut (s : List ℕ) (u l c e : ℕ) : Type 0 where
  pub under : ℕ
  pub lies : Lies s under c
  pub except : Except s u e under
  pub holds : in_class s u l e ≡ true

-- the smallest row with P, or - where no row has it
pub data SmallestOrNone (P : ℕ → Type 0) (r : ℕ) : Type 0 where
  smallest : P r → Clear P r → SmallestOrNone P r
  without_row : ((i : ℕ) → ¬ P i) → r ≡ kind.no_row → SmallestOrNone P r

-- the row for yes is the smallest with T, the row for no the smallest with S, or - where no row has it
abbrev pub RowBy : (ℕ → Type 0) → (ℕ → Type 0) → Bool → ℕ → Type 0
RowBy T S true r = T r × Clear T r
RowBy T S false r = SmallestOrNone S r

abbrev pub WhichRow : List ℕ → ℕ → ℕ → ℕ → Bool → ℕ → Type 0
WhichRow s u l c = RowBy (TakesIn s u l c) (ShutsOut s u l c)

abbrev pub is_yes : Member → Bool
is_yes (Yes r) = true
is_yes (No r) = false

abbrev pub row_of : Member → ℕ
row_of (Yes r) = r
row_of (No r) = r

-- yes exactly when the name u, l is in the class c, with its row
pub record Judged (s : List ℕ) (u l c : ℕ) (m : Member) : Type 0 where
  pub answer : is_yes m ≡ in_class s u l c
  pub row : WhichRow s u l c (is_yes m) (row_of m)
