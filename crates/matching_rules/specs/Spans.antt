-- Matching by positions: the items of an element at the positions of a set, and what of them matches the pattern at a
-- row.
use Rattle.std.specs.Prelude.{ℕ, zero, suc, ◌-◌, ◌≤◌, ◌≡◌, Bool, true, false, List, [], ◌∷◌}
use Rattle.relations.specs.Relations.{Relation}
use Rattle.matching_rules.specs.Items.{Item, element, string, Attributes, Lookups}
use Rattle.matching_rules.specs.Rules.{OkAsChildren, Match, WeakMatch}

module _ {A : Type 0} where
  -- a list, with x before it where the test says so
  abbrev pub added : Bool → A → List A → List A
  added true x l = x ∷ l
  added false x l = l

  -- the items at those of the n positions from i on that are in the set K
  unfoldable pub run : (ℕ → A) → (ℕ → Bool) → ℕ → ℕ → List A
  run it K i zero = []
  run it K i (suc n) = added (K i) (it i) (run it K (suc i) n)

module _ (L : Lookups) where
  -- no string of whitespace stands beside an element at the positions of a set
  abbrev pub CleanAt : (ℕ → Item) → (ℕ → Bool) → Type 0
  CleanAt it K =
      (h k e : ℕ) (s : List ℕ) → K h ≡ true → it h ≡ element e → K k ≡ true → it k ≡ string s → L.whitespace s ≡ false

  -- no two attributes of a set have one name
  abbrev pub Distinct : Attributes → Type 0
  Distinct A = (x y : ℕ) → A x ≡ true → A y ≡ true → L.SameName x y → x ≡ y

  module _ (NotMatch : List ℕ → ℕ → Type 0) where
    -- the attributes A and the items of K at the positions from i up to j match the pattern at row p
    abbrev pub Span : Attributes → (ℕ → Item) → (ℕ → Bool) → ℕ → Relation
    Span A it K p i j = (i ≤ j) × Match L NotMatch A (run it K i (j - i)) (L.pattern p)

    -- an element and a definition: the premises of (element), 9.3.7
    pub record Paired (e d : ℕ) : Type 0 where
      pub defined : L.is_definition d ≡ true
      pub ordered : OkAsChildren (L.children e)
      pub named : L.in_class (L.name_class d) e ≡ true
      pub content : WeakMatch L NotMatch (L.attributes e) (L.children e) (L.pattern (L.content d))
