-- The search for the least common name: the numbers to try are taken in rising order, each from what the two classes
-- mention above the last. Cited by private functions only.
use Rattle.std.specs.Prelude.{ℕ, ◌≤◌, ◌<◌, ◌≡◌, Bool, true, false, ◌⊎◌, List, Option, Some, None}
use Rattle.tables.specs.Answers.{Clear}
use Rattle.schema.specs.Kinds as kind
use Rattle.schema.specs.Rows.{kind_of, a_of, b_of}
use Rattle.schema_classes.specs.Least.{Common}
use Rattle.schema_classes.specs.Made.{SomeRow, Mentioned, Fresh, KnownOrFresh}
use Rattle.schema_classes.specs.declared.Name.{Name}
use Rattle.schema_classes.specs.declared.Part.{Part}
use Rattle.schema_classes.specs.declared.Part.TheVariants.{Namespace, LocalBeside}

-- an nsName of the namespace u mentions u
abbrev pub NsNameMentions : ℕ → Part → ℕ → Type 0
NsNameMentions u Namespace v = u ≡ v
NsNameMentions u (LocalBeside w) v = ⊥

-- the name u, l mentions the namespace u, and beside it the local number l
abbrev pub NameMentions : ℕ → ℕ → Part → ℕ → Type 0
NameMentions u l Namespace v = u ≡ v
NameMentions u l (LocalBeside w) v = (u ≡ w) × (l ≡ v)

pub data RowMentions (s : List ℕ) (part : Part) (v r : ℕ) : Type 0 where
  by_ns_name : kind_of s r ≡ kind.ns_name → NsNameMentions (a_of s r) part v → RowMentions s part v r
  by_name : kind_of s r ≡ kind.name → NameMentions (a_of s r) (b_of s r) part v → RowMentions s part v r

-- what the class c mentions, and what it does in a field of p
abbrev pub Mentions : List ℕ → Part → ℕ → ℕ → Type 0
Mentions s part c v = SomeRow s c (RowMentions s part v)

abbrev pub MentionsBelow : List ℕ → Part → ℕ → ℕ → ℕ → Type 0
MentionsBelow s part p c v = (c < p) × Mentions s part c v

-- what one of the classes c and d mentions
abbrev pub OneMentions : List ℕ → ℕ → ℕ → Part → ℕ → Type 0
OneMentions s c d part v = Mentioned s c d (RowMentions s part v)

-- above every word of a table
abbrev pub no_number : ℕ
no_number = 4294967296

-- r is the least number with P from a first one on, or the best so far where no such number is less
pub record Lowered (P : ℕ → Type 0) (from best r : ℕ) : Type 0 where
  pub fits : (v : ℕ) → P v → v < no_number
  pub lower : (v : ℕ) → from ≤ v → P v → r ≤ v
  pub most : r ≤ best
  pub is : (r ≡ best) ⊎ ((from ≤ r) × P r)

abbrev pub NextNumber : (ℕ → Type 0) → ℕ → ℕ → Type 0
NextNumber P from r = Lowered P from no_number r

-- namespaces count from 0, local numbers from 1
abbrev pub least_of : Part → ℕ
least_of Namespace = 0
least_of (LocalBeside u) = 1

-- the fresh number, and that it and all others are words of a table
pub record FreshNumber (P : ℕ → Type 0) (first r : ℕ) : Type 0 where
  pub is : Fresh P first r
  pub small : r < no_number
  pub fits : (v : ℕ) → P v → v < no_number

abbrev pub ToTry : List ℕ → ℕ → ℕ → Part → ℕ → Type 0
ToTry s c d part = KnownOrFresh (OneMentions s c d part) (least_of part)

-- yes says that the classes c and d have no name in common; and so for c in a field of p
abbrev pub ToldApart : List ℕ → ℕ → ℕ → Bool → Type 0
ToldApart s c d true = (u l : ℕ) → ¬ Common s c d u l
ToldApart s c d false = Unit {0}

abbrev pub SmallerToldApart : List ℕ → ℕ → ℕ → ℕ → Bool → Type 0
SmallerToldApart s p c d true = c < p → (u l : ℕ) → ¬ Common s c d u l
SmallerToldApart s p c d false = Unit {0}

-- the least common name of the namespace u
abbrev pub LeastBeside : List ℕ → ℕ → ℕ → ℕ → Option Name → Type 0
LeastBeside s c d u (Some n) = (n.namespace ≡ u) × Common s c d u n.local × Clear (Common s c d u) n.local
LeastBeside s c d u None = (l : ℕ) → ¬ Common s c d u l
