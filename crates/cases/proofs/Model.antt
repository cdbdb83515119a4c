-- Matching by computation: whether a set of attributes and the items of a set of positions in [i, j) match the pattern
-- at a row.
use Prim.Native.Nat.{ℕ, zero, suc, ◌-◌}
use mathlib.Core.Bool.{Bool, true, false, not, ◌&&◌, ◌||◌}
use mathlib.Core.List.{List, [], ◌∷◌}
use lib.Dec.{eqb, ltb}
use lib.ListN.{length, get_or}
use Rattle.schema.specs.Views.{Pattern, empty, not_allowed, text, data_all, data_except, value, list}
use Rattle.schema.specs.Views.{attribute, ref, one_or_more, choice, group, interleave, no_pattern}
use Rattle.matching_rules.specs.Items.{Item, element, string, Attributes, no_attributes, only, Lookups}
use Rattle.matching_rules.proofs.Booleans.{◌∩◌, ◌∖◌}
use Rattle.matching_rules.specs.Reach.{names_attribute, takes}
use Rattle.matching_rules.specs.Spans.{run}
use Rattle.matching_rules.proofs.Sequences.{has_element}
use Rattle.cases.proofs.Tests.{every_below, some_below}
use Rattle.cases.proofs.ReachTests.{reach_test}
use Rattle.cases.proofs.ClosureTests.{plus_test}

abbrev pub no_item : List Item → Bool
no_item [] = true
no_item (x ∷ m) = false

abbrev pub one_item : (Item → Bool) → List Item → Bool
one_item t [] = false
one_item t (x ∷ []) = t x
one_item t (x ∷ y ∷ m) = false

abbrev pub on_string : (List ℕ → Bool) → Item → Bool
on_string t (element e) = false
on_string t (string s) = t s

abbrev pub on_element : (ℕ → Bool) → Item → Bool
on_element t (element e) = t e
on_element t (string s) = false

-- every position
abbrev pub all : ℕ → Bool
all k = true

-- items, attributes, positions, a row, from, to
abbrev pub Test : Type 0
Test = (ℕ → Item) → Attributes → (ℕ → Bool) → ℕ → ℕ → ℕ → Bool

-- a row against one string, against no item, and against the tokens of a list
abbrev pub string_test : Test → Attributes → ℕ → List ℕ → Bool
string_test rec A q s = rec (λ k. string s) A all q 0 1

abbrev pub nothing_test : Test → Attributes → ℕ → Bool
nothing_test rec A q = rec (λ k. string []) A all q 0 0

abbrev pub tokens_test : Test → ℕ → List (List ℕ) → Bool
tokens_test rec q l = rec (λ k. string (get_or l k [])) no_attributes all q 0 (length l)

-- attributes are rows before N
module _ (N : ℕ) where
  abbrev pub free_test : Attributes → Bool
  free_test A = not (some_below A N)

  abbrev pub each_test : Attributes → (ℕ → Bool) → Bool
  each_test A t = every_below (λ y. elim (A y) [ true ↦ t y | false ↦ true ]) N

  abbrev pub repeat_test : Test → (ℕ → Item) → Attributes → (ℕ → Bool) → ℕ → ℕ → ℕ → Bool
  repeat_test rec it A K q i j =
      elim (some_below A N) [
        | true ↦ each_test A (λ x. rec it (only x) K q i i)
            && (no_item (run it K i (j - i)) || plus_test (rec it no_attributes K q) j i j)
        | false ↦ plus_test (rec it no_attributes K q) j i j
      ]

module _ (L : Lookups) where
  -- a string weakly, with no attributes
  abbrev pub weak_string_test : Test → ℕ → List ℕ → Bool
  weak_string_test rec q s = string_test rec no_attributes q s || L.whitespace s && nothing_test rec no_attributes q

  abbrev pub attribute_test : ℕ → Test → Attributes → ℕ → ℕ → ℕ → Bool
  attribute_test N rec A nc q x =
      elim (A x) [
        | true ↦ each_test N A (eqb x) && (L.in_class nc x && weak_string_test rec q (L.value x))
        | false ↦ false
      ]

  -- the attributes that the pattern at row p names, and the positions whose items it takes; n bounds the rows of
  -- operands
  abbrev pub names : ℕ → ℕ → ℕ → Bool
  names n p x = reach_test L (names_attribute L x) n p

  abbrev pub takers : ℕ → (ℕ → Item) → ℕ → ℕ → Bool
  takers n it p k = reach_test L (takes L (it k)) n p

  abbrev pub group_test : Test → ℕ → (ℕ → Item) → Attributes → (ℕ → Bool) → ℕ → ℕ → ℕ → ℕ → ℕ → Bool
  group_test rec n it A K p q i j h =
      elim (rec it (A ∩ names n p) K p i h) [ true ↦ rec it (A ∖ names n p) K q h j | false ↦ false ]

-- equal decides datatypeEqual; pair tells which elements are proved against which definitions
module _ (L : Lookups) (N : ℕ) (equal : ℕ → List ℕ → List ℕ → Bool) (pair : ℕ → ℕ → Bool) where
  abbrev pub kind_test : Test → ℕ → (ℕ → Item) → Attributes → (ℕ → Bool) → ℕ → ℕ → Pattern → Bool
  kind_test rec n it A K i j empty = free_test N A && no_item (run it K i (j - i))
  kind_test rec n it A K i j not_allowed = false
  kind_test rec n it A K i j text = free_test N A && not (has_element (run it K i (j - i)))
  kind_test rec n it A K i j (data_all t) = free_test N A && one_item (on_string (λ s. true)) (run it K i (j - i))
  kind_test rec n it A K i j (data_except t q) =
      free_test N A && one_item (on_string (λ s. not (string_test rec no_attributes q s))) (run it K i (j - i))
  kind_test rec n it A K i j (value t k) =
      free_test N A && one_item (on_string (λ s. equal t s (L.text k))) (run it K i (j - i))
  kind_test rec n it A K i j (list q) =
      free_test N A && one_item (on_string (λ s. tokens_test rec q (L.split s))) (run it K i (j - i))
  kind_test rec n it A K i j (attribute nc q) =
      some_below (attribute_test L N rec A nc q) N && no_item (run it K i (j - i))
  kind_test rec n it A K i j (ref d) = free_test N A && one_item (on_element (λ e. pair e d)) (run it K i (j - i))
  kind_test rec n it A K i j (one_or_more q) = repeat_test N rec it A K q i j
  kind_test rec n it A K i j (choice p q) = rec it A K p i j || rec it A K q i j
  kind_test rec n it A K i j (group p q) = some_below (group_test L rec n it A K p q i j) (suc j)
  kind_test rec n it A K i j (interleave p q) =
      elim (rec it (A ∩ names L n p) (K ∩ takers L n it p) p i j) [
        | true ↦ rec it (A ∖ names L n p) (K ∖ takers L n it p) q i j
        | false ↦ false
      ]
  kind_test rec n it A K i j no_pattern = false

  -- rows before n
  unfoldable pub span_test : ℕ → Test
  span_test zero it A K p i j = false
  span_test (suc n) it A K p i j =
      elim (ltb j i) [ true ↦ false | false ↦ kind_test (span_test n) n it A K i j (L.pattern p) ]
