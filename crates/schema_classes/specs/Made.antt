-- The names made of the numbers that two classes mention, and of the least that neither does. Of these alone the least
-- common name can be told (proofs/MadeNames).
use Rattle.std.specs.Prelude.{ℕ, ◌≤◌, ◌<◌, ◌≡◌, true, ◌⊎◌, List, Option, Some, None}
use Rattle.schema.specs.Kinds as kind
use Rattle.schema.specs.Relations.{Child}
use Rattle.schema.specs.Rows.{kind_of, a_of, b_of, sort_of, is_class}
use Rattle.schema_classes.specs.Least.{Common, NotAfter}
use Rattle.schema_classes.specs.declared.Name.{Name}

-- r is a row of the class c: c itself or a row below it, in its excepts too
pub data RowIn (s : List ℕ) (r : ℕ) : ℕ → Type 0 where
  itself : RowIn s r r
  within : {c m : ℕ} → is_class (sort_of s c) ≡ true → Child s m c → RowIn s r m → RowIn s r c

-- a row of the class c has P
pub record SomeRow (s : List ℕ) (c : ℕ) (P : ℕ → Type 0) : Type 0 where
  pub row : ℕ
  pub inside : RowIn s row c
  pub has : P row

-- a row of one of the classes c and d has P
abbrev pub Mentioned : List ℕ → ℕ → ℕ → (ℕ → Type 0) → Type 0
Mentioned s c d P = SomeRow s c P ⊎ SomeRow s d P

-- row r is an nsName or a name of the namespace u
abbrev pub HasNamespace : List ℕ → ℕ → ℕ → Type 0
HasNamespace s u r = ((kind_of s r ≡ kind.ns_name) ⊎ (kind_of s r ≡ kind.name)) × (a_of s r ≡ u)

-- row r is a name with the local number l, of whatever namespace
abbrev pub HasLocal : List ℕ → ℕ → ℕ → Type 0
HasLocal s l r = (kind_of s r ≡ kind.name) × (b_of s r ≡ l)

-- v is the least number from a first one on that is not known; what is known here is what the classes mention
pub record Fresh (Known : ℕ → Type 0) (first v : ℕ) : Type 0 where
  pub low : first ≤ v
  pub new : ¬ Known v
  pub least : (w : ℕ) → first ≤ w → w < v → Known w

pub data KnownOrFresh (Known : ℕ → Type 0) (first v : ℕ) : Type 0 where
  known : Known v → KnownOrFresh Known first v
  fresh : Fresh Known first v → KnownOrFresh Known first v

-- the name u, l is made: its namespace is one that the two classes mention, or the least from 0 on that neither
-- mentions; its local number likewise, from 1 on
pub record Made (s : List ℕ) (c d u l : ℕ) : Type 0 where
  pub namespace : KnownOrFresh (λ v. Mentioned s c d (HasNamespace s v)) 0 u
  pub local : KnownOrFresh (λ k. Mentioned s c d (HasLocal s k)) 1 l

-- the least of the made names that both classes hold
abbrev pub LeastMade : List ℕ → ℕ → ℕ → Option Name → Type 0
LeastMade s c d (Some n) = Made s c d n.namespace n.local × Common s c d n.namespace n.local
    × ((v k : ℕ) → Made s c d v k → Common s c d v k → NotAfter n.namespace n.local v k)
LeastMade s c d None = (u l : ℕ) → Made s c d u l → ¬ Common s c d u l
