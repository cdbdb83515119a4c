-- What the parts of the model decide: attributes, items, and rows against one string or none.
use Prim.Native.Nat.{ℕ, suc, ◌+◌, ◌<◌}
use mathlib.Core.Path.{◌≡◌, refl, sym, ◌∙◌, ap}
use mathlib.Core.Bool.{Bool, true, false, not, ◌&&◌, ◌||◌, true≢false, false≢true}
use mathlib.Core.List.{List, [], ◌∷◌, cons≢nil, map}
use mathlib.Core.Logic.{◌⊎◌, inl, inr, ◌↔◌}
use native.Mathlib.Omega.{arith}
use lib.Dec.{eqb}
use lib.ListN.{length, get_or}
use borrow.Author.Tests.{eqb-true, eq-eqb, not-true}
use Rattle.matching_rules.specs.Items.{Item, element, string, Attributes, no_attributes, only}
use Rattle.tables.proofs.Booleans.{or_either, or_left, or_right, and_left, and_right, both_and, is_false}
use Rattle.matching_rules.proofs.Booleans.{no_member, sole_member}
use Rattle.matching_rules.proofs.Inversion.{One}
use Rattle.matching_rules.specs.Spans.{run}
use Rattle.cases.proofs.Tests.{every_below, every_below_lem, below_every, some_below, some_below_lem, below_some}
use Rattle.cases.proofs.Model.{no_item, one_item, on_string, on_element, all}

-- tests joined decide what they decide, joined
pub both_decide : (a b : Bool) {P Q : Type 0} → (a ≡ true) ↔ P → (b ≡ true) ↔ Q → ((a && b) ≡ true) ↔ (P × Q)
both_decide a b f g = (λ e. (f.0 (and_left a b e), g.0 (and_right a b e)), λ x. both_and (f.1 x.0) (g.1 x.1))

pub either_decides : (a b : Bool) {P Q : Type 0} → (a ≡ true) ↔ P → (b ≡ true) ↔ Q → ((a || b) ≡ true) ↔ (P ⊎ Q)
either_decides a b {P} {Q} f g = (λ e. elim (or_either a b e) [ inl x ↦ inl (f.0 x) | inr x ↦ inr (g.0 x) ], from)
  where
    from : P ⊎ Q → (a || b) ≡ true
    from (inl x) = or_left b (f.1 x)
    from (inr x) = or_right a (g.1 x)

pub not_decides : (b : Bool) {P : Type 0} → (b ≡ true) ↔ P → (not b ≡ true) ↔ (¬ P)
not_decides true f = (λ e. absurd (false≢true e), λ n. absurd (n (f.0 refl)))
not_decides false f = (λ e p. false≢true (f.1 p), λ n. refl)

pub guarded_decides : (a b : Bool) {P Q : Type 0} → (a ≡ true) ↔ P
    → (b ≡ true) ↔ Q → (elim a [ true ↦ b | false ↦ false ] ≡ true) ↔ (P × Q)
guarded_decides true b f g = (λ e. (f.0 refl, g.0 e), λ x. g.1 x.1)
guarded_decides false b f g = (λ e. absurd (false≢true e), λ x. f.1 x.0)

-- items
pub no_item_lem : (m : List Item) → (no_item m ≡ true) ↔ (m ≡ [])
no_item_lem [] = (λ e. refl, λ e. refl)
no_item_lem (x ∷ m) = (λ e. absurd (false≢true e), λ e. absurd (cons≢nil e))

pub is_false_iff : (b : Bool) → (not b ≡ true) ↔ (b ≡ false)
is_false_iff b = (not-true b, λ e. rw e)

pub one_string_lem : (t : List ℕ → Bool) (P : List ℕ → Type 0) → ((s : List ℕ) → (t s ≡ true) ↔ P s)
    → (m : List Item) → (one_item (on_string t) m ≡ true) ↔ One P m
one_string_lem t P f [] = (λ e. absurd (false≢true e), λ x. absurd (cons≢nil (sym x.1)))
one_string_lem t P f (string s ∷ []) =
    (λ e. (s, refl, (f s).0 e), λ x. let z : x.0 ≡ s = text_of_lem (sym x.1) in (f s).1 (rw z at x.2))
  where
    text_of_lem : {a b : List ℕ} → string a ∷ [] ≡ string b ∷ [] → a ≡ b
    text_of_lem e = cc
one_string_lem t P f (element e ∷ []) =
    (λ h. absurd (false≢true h), λ x. let z : ◌≡◌ {A = ℕ} 0 1 = clash x.1 in absurd (omega arith))
  where
    clash : {s : List ℕ} → element e ∷ [] ≡ string s ∷ [] → ◌≡◌ {A = ℕ} 0 1
    clash h = cc
one_string_lem t P f (x ∷ y ∷ m) = (λ e. absurd (false≢true e), λ x. absurd (cons≢nil (two x.1)))
  where
    two : {s : Item} → x ∷ y ∷ m ≡ s ∷ [] → y ∷ m ≡ []
    two h = cc

-- the sequence of one element
pub one_element : (t : ℕ → Bool) (P : ℕ → Type 0) (m : List Item) → ((e : ℕ) → m ≡ element e ∷ [] → (t e ≡ true) ↔ P e)
    → (one_item (on_element t) m ≡ true) ↔ ((e : ℕ) × (m ≡ element e ∷ []) × P e)
one_element t P [] f = (λ e. absurd (false≢true e), λ x. absurd (cons≢nil (sym x.1)))
one_element t P (element e ∷ []) f =
    (λ h. (e, refl, (f e refl).0 h), λ x. let z : x.0 ≡ e = row_of (sym x.1) in (f e refl).1 (rw z at x.2))
  where
    row_of : {a b : ℕ} → element a ∷ [] ≡ element b ∷ [] → a ≡ b
    row_of e = cc
one_element t P (string s ∷ []) f =
    (λ h. absurd (false≢true h), λ x. let z : ◌≡◌ {A = ℕ} 0 1 = clash x.1 in absurd (omega arith))
  where
    clash : {e : ℕ} → string s ∷ [] ≡ element e ∷ [] → ◌≡◌ {A = ℕ} 0 1
    clash h = cc
one_element t P (x ∷ y ∷ m) f = (λ e. absurd (false≢true e), λ x. absurd (cons≢nil (two x.1)))
  where
    two : {s : Item} → x ∷ y ∷ m ≡ s ∷ [] → y ∷ m ≡ []
    two h = cc

-- the sequence of the strings of a list, by their positions
strings_from : (s : ℕ → List ℕ) (i : ℕ) (l : List (List ℕ)) → ((k : ℕ) → s (i + k) ≡ get_or l k [])
    → run (λ k. string (s k)) all i (length l) ≡ map string l
unfolding run
strings_from s i [] h = refl
strings_from s i (x ∷ l) h =
    ap (λ (m : List Item). string (s i) ∷ m) (strings_from s (suc i) l (λ k. ap s (omega arith) ∙ h (suc k)))
    ∙ ap (λ (y : List ℕ). string y ∷ map string l) (ap s (omega arith) ∙ h 0)

pub run_strings : (l : List (List ℕ)) → run (λ k. string (get_or l k [])) all 0 (length l) ≡ map string l
run_strings l = strings_from (λ k. get_or l k []) 0 l (λ k. ap (λ (n : ℕ). get_or l n []) (omega arith))

-- attributes
abbrev pub Bound : ℕ → Attributes → Type 0
Bound N A = (x : ℕ) → A x ≡ true → x < N

module _ (N : ℕ) (A : Attributes) (bound : Bound N A) where
  pub free_set : some_below A N ≡ false → A ≡ no_attributes
  free_set e = no_member A (λ x h. true≢false (sym (some_below_lem A N x (bound x h) h) ∙ e))

  set_free : A ≡ no_attributes → some_below A N ≡ false
  set_free e =
      is_false (some_below A N)
      (λ h. let k = below_some A N h in true≢false (sym k.2 ∙ ap (λ (B : Attributes). B k.0) e))

  pub free_decided : (not (some_below A N) ≡ true) ↔ (A ≡ no_attributes)
  free_decided = (λ e. free_set (not-true (some_below A N) e), λ e. rw (set_free e))

  pub each_set : (t : ℕ → Bool)
      → (every_below (λ y. elim (A y) [ true ↦ t y | false ↦ true ]) N ≡ true) ↔ ((y : ℕ) → A y ≡ true → t y ≡ true)
  each_set t = (to, λ f. below_every (λ y. elim (A y) [ true ↦ t y | false ↦ true ]) N (λ y l. from y f (A y) refl))
    where
      at : (y : ℕ) (b : Bool) → b ≡ true → elim b [ true ↦ t y | false ↦ true ] ≡ true → t y ≡ true
      at y true e h = h
      at y false e h = absurd (false≢true e)

      to : every_below (λ y. elim (A y) [ true ↦ t y | false ↦ true ]) N ≡ true → (y : ℕ) → A y ≡ true → t y ≡ true
      to e y h = at y (A y) h (every_below_lem (λ y. elim (A y) [ true ↦ t y | false ↦ true ]) N e y (bound y h))

      from : (y : ℕ) → ((y : ℕ) → A y ≡ true → t y ≡ true) → (b : Bool)
          → A y ≡ b → elim b [ true ↦ t y | false ↦ true ] ≡ true
      from y f true e = f y e
      from y f false e = refl

  pub only_set : (x : ℕ) → ((A x ≡ true) × ((y : ℕ) → A y ≡ true → eqb x y ≡ true)) ↔ (A ≡ only x)
  only_set x = (
    λ p. sole_member A x p.0 (λ y h. eqb-true x y (p.1 y h)),
    λ e. (ap (λ (B : Attributes). B x) e ∙ eq-eqb x x refl, λ y h. ap (λ (B : Attributes). B y) (sym e) ∙ h),
  )
