-- The pattern of a list as a tree of rows, and its marks: which rows are completed by the token just read, where each
-- row was entered before some tokens and not before others.
use Rattle.std.specs.Prelude.{ℕ, ◌<◌, ◌≡◌, Bool, true, false, ◌&&◌, ◌||◌, ◌↔◌, List, [], ◌∷◌}
use Rattle.schema.specs.Views.{Pattern}
use Rattle.schema.specs.Views as pattern
use Rattle.matching_rules.specs.Items.{string, no_attributes, Lookups}
use Rattle.matching_rules.specs.Rules.{Match}

-- the pattern at a row, written out to its leaves; a leaf tells by its own test which tokens it takes
pub data Tree : Type 0 where
  empty : (row : ℕ) → Tree
  leaf : (row : ℕ) (takes : List ℕ → Bool) → Tree
  one_or_more : (row : ℕ) (part : Tree) → Tree
  choice group : (row : ℕ) (first second : Tree) → Tree

abbrev pub row_of : Tree → ℕ
row_of (empty r) = r
row_of (leaf r takes) = r
row_of (one_or_more r p) = r
row_of (choice r p q) = r
row_of (group r p q) = r

-- data and value (9.3.8), the leaves of a list
abbrev pub is_data : Pattern → Bool
is_data pattern.empty = false
is_data pattern.not_allowed = false
is_data pattern.text = false
is_data (pattern.data_all t) = true
is_data (pattern.data_except t p) = true
is_data (pattern.value t k) = true
is_data (pattern.list p) = false
is_data (pattern.attribute nc p) = false
is_data (pattern.ref d) = false
is_data (pattern.one_or_more p) = false
is_data (pattern.choice p q) = false
is_data (pattern.group p q) = false
is_data (pattern.interleave p q) = false
is_data pattern.no_pattern = false

module _ (L : Lookups) (NotMatch : List ℕ → ℕ → Type 0) where
  -- the test tells which strings match a pattern, each as a sequence of that string alone
  abbrev pub TakesRight : (List ℕ → Bool) → Pattern → Type 0
  TakesRight takes x = (t : List ℕ) → (takes t ≡ true) ↔ Match L NotMatch no_attributes (string t ∷ []) x

  -- row r shows the tree; parts are at smaller rows
  pub data Shows : ℕ → Tree → Type 0 where
    shows_empty : {r : ℕ} → L.pattern r ≡ pattern.empty → Shows r (empty r)
    shows_leaf : {r : ℕ} {takes : List ℕ → Bool} → is_data (L.pattern r) ≡ true → TakesRight takes (L.pattern r)
        → Shows r (leaf r takes)
    shows_one_or_more : {r a : ℕ} {p : Tree} → L.pattern r ≡ pattern.one_or_more a → a < r → Shows a p
        → Shows r (one_or_more r p)
    shows_choice : {r a b : ℕ} {p q : Tree} → L.pattern r ≡ pattern.choice a b → a < r → b < r → Shows a p → Shows b q
        → Shows r (choice r p q)
    shows_group : {r a b : ℕ} {p q : Tree} → L.pattern r ≡ pattern.group a b → a < r → b < r → Shows a p → Shows b q
        → Shows r (group r p q)

-- i is a row of the tree
pub data In (i : ℕ) : Tree → Type 0 where
  in_root : {p : Tree} → row_of p ≡ i → In i p
  in_part : {r : ℕ} {p : Tree} → In i p → In i (one_or_more r p)
  in_choice_1 : {r : ℕ} {p q : Tree} → In i p → In i (choice r p q)
  in_choice_2 : {r : ℕ} {p q : Tree} → In i q → In i (choice r p q)
  in_group_1 : {r : ℕ} {p q : Tree} → In i p → In i (group r p q)
  in_group_2 : {r : ℕ} {p q : Tree} → In i q → In i (group r p q)

abbrev pub Apart : Tree → Tree → Type 0
Apart p q = (i : ℕ) → In i p → ¬ In i q

-- no row stands in two parts
abbrev pub Proper : Tree → Type 0
Proper (empty r) = Unit {0}
Proper (leaf r takes) = Unit {0}
Proper (one_or_more r p) = Proper p
Proper (choice r p q) = Apart p q × Proper p × Proper q
Proper (group r p q) = Apart p q × Proper p × Proper q

-- whether the empty sequence matches
abbrev pub nullable : Tree → Bool
nullable (empty r) = true
nullable (leaf r takes) = false
nullable (one_or_more r p) = nullable p
nullable (choice r p q) = nullable p || nullable q
nullable (group r p q) = nullable p && nullable q

-- a token that was read, and whether the pattern was entered before it
pub data Read : Type 0 where
  read : (enter : Bool) (token : List ℕ) → Read

-- What was read stands newest first.

-- the second of a group is entered with the group where the first may be empty, and where the first has just been
-- completed
abbrev pub second : Bool → (List Read → Bool) → List Read → List Read
second free completed [] = []
second free completed (read e t ∷ h) = read (e && free || completed h) t ∷ second free completed h

-- the part of a oneOrMore is entered with it, and where the part itself has just been completed
abbrev pub again : (List Read → Bool) → List Read → List Read
again completed [] = []
again completed (read e t ∷ h) = read (e || completed (again completed h)) t ∷ again completed h

-- a leaf is completed by the newest token where it was entered before it
abbrev pub taken : (List ℕ → Bool) → List Read → Bool
taken takes [] = false
taken takes (read e t ∷ h) = e && takes t

-- whether the tokens from some entry up to the newest make a sequence of the pattern
unfoldable pub done : Tree → List Read → Bool
done (empty r) h = false
done (leaf r takes) h = taken takes h
done (one_or_more r p) h = done p (again (done p) h)
done (choice r p q) h = done p h || done q h
done (group r p q) h = done p h && nullable q || done q (second (nullable p) (done p) h)

-- tokens read after others, with no new entry
abbrev pub fed : List Read → List (List ℕ) → List Read
fed h [] = h
fed h (t ∷ ts) = fed (read false t ∷ h) ts

-- a whole sequence: the pattern is entered before the first token only
abbrev pub accepts : Tree → List (List ℕ) → Bool
accepts p [] = nullable p
accepts p (t ∷ ts) = done p (fed (read true t ∷ []) ts)
