-- Members of a sequence of items, and whether one of them is an element.
use Prim.Native.Nat.{ℕ}
use mathlib.Core.Path.{◌≡◌, refl}
use mathlib.Core.Bool.{Bool, true, false, false≢true}
use mathlib.Core.List.{List, [], ◌∷◌, ◌++◌}
use mathlib.Core.Logic.{◌⊎◌, inl, inr}
use Rattle.matching_rules.specs.Items.{Item, element, string}

-- y is a member of m
pub data Among (y : Item) : List Item → Type 0 where
  first : {x : Item} {m : List Item} → x ≡ y → Among y (x ∷ m)
  later : {x : Item} {m : List Item} → Among y m → Among y (x ∷ m)

pub among_append : {y : Item} (l r : List Item) → Among y (l ++ r) → Among y l ⊎ Among y r
among_append [] r h = inr h
among_append (x ∷ l) r (first e) = inl (first e)
among_append (x ∷ l) r (later h) = elim (among_append l r h) [ inl k ↦ inl (later k) | inr k ↦ inr k ]

pub among_left : {y : Item} {l : List Item} (r : List Item) → Among y l → Among y (l ++ r)
among_left r (first e) = first e
among_left r (later h) = later (among_left r h)

pub among_right : {y : Item} (l : List Item) {r : List Item} → Among y r → Among y (l ++ r)
among_right [] h = h
among_right (x ∷ l) h = later (among_right l h)

pub among_one : {x y : Item} → Among y (x ∷ []) → x ≡ y
among_one {y = y} (later x5) = elim x5 [ ]
among_one (first e) = e

pub nothing_among : (m : List Item) → ((y : Item) → ¬ Among y m) → m ≡ []
nothing_among [] h = refl
nothing_among (x ∷ m) h = absurd (h x (first refl))

abbrev pub has_element : List Item → Bool
has_element [] = false
has_element (element e ∷ m) = true
has_element (string s ∷ m) = has_element m

pub strings_append : (l r : List Item) → has_element l ≡ false → has_element r ≡ false → has_element (l ++ r) ≡ false
strings_append [] r e f = f
strings_append (element x ∷ l) r e f = e
strings_append (string s ∷ l) r e f = strings_append l r e f

pub element_among : (m : List Item) → has_element m ≡ true → (e : ℕ) × Among (element e) m
element_among [] h = absurd (false≢true h)
element_among (element e ∷ m) h = (e, first refl)
element_among (string s ∷ m) h = let k = element_among m h in (k.0, later k.1)

pub among_element : {e : ℕ} {m : List Item} → Among (element e) m → has_element m ≡ true
among_element (first k) = rw k
among_element (later {x = element x} h) = refl
among_element (later {x = string s} h) = among_element h
