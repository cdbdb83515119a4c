-- Content types (10.3) beside what occurs in a pattern: data, value and list make it simple, text and ref at least
-- complex.
use mathlib.Core.Path.{◌≡◌, refl, sym, ◌∙◌, ap, subst}
use mathlib.Core.Logic.{◌≢◌, ⊎_elim}
use mathlib.Core.Bool.{Bool, true, false, cond, ◌&&◌, ◌||◌, false≢true}
use mathlib.Core.List.{List}
use Prim.Native.Nat.{ℕ, ◌<◌, ◌≤◌}
use native.Mathlib.Omega.{arith}
use native.Mathlib.Decide.{dec_lt}
use lib.Dec.{eqb}
use borrow.Author.Tests.{eqb-true}
use Rattle.tables.proofs.Numbers.{not_less}
use Rattle.schema.specs.Kinds as kind
use Rattle.schema.specs.Rows.{kind_of, child_a, child_b, shape_of, sort_of, is_pattern}
use Rattle.schema.specs.Relations.{Child, by_a, by_b, connective, Occurs, itself, within}
use Rattle.schema.specs.Views.{Pattern}
use Rattle.schema.proofs.Children.{child_is}
use Rattle.schema_places.specs.Paths.{sharing_kind}
use Rattle.schema_places.specs.Places.{holds_whole, not_allowed_inside}
use Rattle.schema_sequences.specs.Content.{HasType, InList, empty_type, complex_type, simple_type, groupable}
use Rattle.schema_sequences.specs.Content.{value_type, data_type_1, data_type_2, list_type, text_type}
use Rattle.schema_sequences.specs.Content.{ref_type, type_of_empty, attribute_type, sharing_type, one_or_more_type}
use Rattle.schema_sequences.specs.Content.{choice_type, sharing_not_groupable, repeat_not_groupable}
use Rattle.schema_restrictions.specs.Schema.{SchemaPasses}
use Rattle.schema_sequences.proofs.Types.{sharing_kind_lem}
use Rattle.schema_restrictions.proofs.Outside.{child_outside}
use Rattle.schema_restrictions.proofs.Typed.{grouped, has_content_type}
use Rattle.matching_rules.specs.Reach.{Role, simple, item_by, is_simple, takes_any}
use Rattle.matching_rules.proofs.RowPatterns.{Sides, Makes}
use Rattle.matching_rules.proofs.KindTests.{HasRole, role_strings, role_string, role_attribute}
use Rattle.matching_rules.proofs.KindTests.{role_element, role_sharing, role_another, has_role}

-- the least content type that a row of kind k may have
abbrev pub least_type : ℕ → ℕ
least_type k =
    cond (eqb k kind.value || eqb k kind.«data» || eqb k kind.list) simple_type
    (cond (eqb k kind.text || eqb k kind.ref) complex_type empty_type)

type_least : {s : List ℕ} {r c : ℕ} → HasType s r c → least_type (kind_of s r) ≤ c
type_least (value_type e) = rw e (omega arith)
type_least (data_type_1 e f) = rw e (omega arith)
type_least (data_type_2 e t) = rw e (omega arith)
type_least (list_type e) = rw e (omega arith)
type_least (text_type e) = rw e (omega arith)
type_least (ref_type e) = rw e (omega arith)
type_least (type_of_empty e) = rw e (omega arith)
type_least (attribute_type e t) = rw e (omega arith)
type_least {s} {r} (sharing_type e t u g) =
    ⊎_elim (λ k. rw k (omega arith)) (λ k. rw k (omega arith)) (sharing_kind_lem (kind_of s r) e)
type_least (one_or_more_type e t g) = rw e (omega arith)
type_least (choice_type e t u) = rw e (omega arith)

-- row q has a type of at most c
abbrev TypedUpTo : List ℕ → ℕ → ℕ → Type 0
TypedUpTo s c q = (d : ℕ) × HasType s q d × (d ≤ c)

module _ (s : List ℕ) (p q : ℕ) (o : connective (kind_of s p) ≡ true) where
  no_connective : {A : Type 0} {k : ℕ} → kind_of s p ≡ k → connective k ≡ false → A
  no_connective e f = absurd (false≢true (sym f ∙ sym (ap connective e) ∙ o))

  side : {c d m : ℕ} → HasType s (child_a s p) c → HasType s (child_b s p) d
      → c ≤ m → d ≤ m → Child s q p → TypedUpTo s m q
  side {c} {d} t u h l i =
      ⊎_elim (λ e. (c, subst (λ (x : ℕ). HasType s x c) e t, h))
      (λ e. (d, subst (λ (x : ℕ). HasType s x d) e u, l)) (child_is i)

  repeat_child_type : {c : ℕ} → kind_of s p ≡ kind.one_or_more → HasType s (child_a s p) c → Child s q p
      → TypedUpTo s c q
  unfolding shape_of
  repeat_child_type {c} e t (by_a n f) =
      let g : child_a s p ≡ q = rw n f in
      (c, subst (λ (x : ℕ). HasType s x c) g t, omega arith)
  repeat_child_type e t (by_b n f) = absurd (false≢true (rw e at n))

  -- a child of a choice, group, interleave or oneOrMore has a type that is not greater
  child_type : {c : ℕ} → Child s q p → HasType s p c → TypedUpTo s c q
  child_type i (value_type e) = no_connective e refl
  child_type i (data_type_1 e f) = no_connective e refl
  child_type i (data_type_2 e t) = no_connective e refl
  child_type i (list_type e) = no_connective e refl
  child_type i (text_type e) = no_connective e refl
  child_type i (ref_type e) = no_connective e refl
  child_type i (type_of_empty e) = no_connective e refl
  child_type i (attribute_type e t) = no_connective e refl
  child_type i (sharing_type e t u g) = side t u (omega arith) (omega arith) i
  child_type i (one_or_more_type e t g) = repeat_child_type e t i
  child_type i (choice_type e t u) = side t u (omega arith) (omega arith) i

-- what occurs in a pattern with a type has one, and not a greater one
type_inside : {s : List ℕ} {r p c : ℕ} → Occurs s r p → HasType s p c → TypedUpTo s c r
type_inside {c = c} itself t = (c, t, omega arith)
type_inside {s = s} {p = p} (within {q = q} o i h) t =
    let u = child_type s p q o i t in
    let v = type_inside h u.1 in
    (v.0, v.1, omega arith)

-- what occurs in a pattern gives it at least its own type
pub occurs_least : {s : List ℕ} {p r c : ℕ} → Occurs s r p → HasType s p c → least_type (kind_of s r) ≤ c
occurs_least o t = let u = type_inside o t in omega (arith, type_least u.1)

-- the least type of a row by its role
least_role : {k a : ℕ} {r : Role} → HasRole k a r
    → cond (simple r) simple_type (cond (item_by r) complex_type empty_type) ≤ least_type k
least_role (role_strings e) = rw e (omega arith)
least_role (role_string e) = rw e (omega arith)
least_role (role_attribute e) = omega arith
least_role (role_element e) = rw e (omega arith)
least_role (role_sharing e) = omega arith
least_role role_another = omega arith

module _ {k a b : ℕ} (x : Pattern) (m : Makes k a b x) where
  pub simple_least : is_simple x ≡ true → simple_type ≤ least_type k
  simple_least e = rw e at (least_role (has_role m))

  pub any_least : takes_any x ≡ true → complex_type ≤ least_type k
  any_least e = go (is_simple x) (least_role (has_role m))
    where
      go : (b : Bool) → cond b simple_type (cond (takes_any x) complex_type empty_type) ≤ least_type k
          → complex_type ≤ least_type k
      go true h = omega arith
      go false h = rw e at h

-- types that go together: beside a simple one stands an empty one
pub record Grouped (s : List ℕ) (p q : ℕ) : Type 0 where
  pub first : ℕ
  pub second : ℕ
  pub first_type : HasType s p first
  pub second_type : HasType s q second
  pub before : simple_type ≤ first → second < complex_type
  pub after : simple_type ≤ second → first < complex_type

groupable_told : (c d : ℕ) → groupable c d ≡ true
    → (simple_type ≤ c → d < complex_type) × (simple_type ≤ d → c < complex_type)
groupable_told c d e =
    go (eqb c empty_type) refl (eqb d empty_type) refl (eqb c complex_type) refl (eqb d complex_type) refl e
  where
    go :
        (x : Bool) → eqb c empty_type ≡ x → (y : Bool) → eqb d empty_type ≡ y
        → (z : Bool) → eqb c complex_type ≡ z → (w : Bool) → eqb d complex_type ≡ w
        → (x || y || z && w) ≡ true → (simple_type ≤ c → d < complex_type) × (simple_type ≤ d → c < complex_type)
    go true f y g z h w i j = let c₀ = eqb-true c empty_type f in (λ l. omega arith, λ l. omega arith)
    go false f true g z h w i j = let d₀ = eqb-true d empty_type g in (λ l. omega arith, λ l. omega arith)
    go false f false g true h true i j =
        let c₁ = eqb-true c complex_type h in
        let d₁ = eqb-true d complex_type i in
        (λ l. omega arith, λ l. omega arith)
    go false f false g true h false i j = absurd (false≢true j)
    go false f false g false h w i j = absurd (false≢true j)

-- of rows that are below no list
module _ {strings : ℕ} {s : List ℕ} (pass : SchemaPasses strings s) (p : ℕ) (out : ¬ InList s p) where
  -- notAllowed is no operand, so an operand has a type
  operand_type : (q : ℕ) → holds_whole (kind_of s p) ≡ false → kind_of s p ≢ kind.list
      → Child s q p → is_pattern (sort_of s q) ≡ true → (c : ℕ) × HasType s q c
  operand_type q w n d i =
      has_content_type pass q i (λ e. pass.places q (not_allowed_inside p e d w)) (child_outside pass.rows d n out)

  -- the operands of a group or interleave
  pub sides_grouped : (p₁ p₂ : ℕ) → Sides s p p₁ p₂ → Grouped s p₁ p₂
  sides_grouped p₁ p₂ sides =
      let n : kind_of s p ≢ kind.list = (λ e. false≢true (sym (ap sharing_kind e) ∙ sides.is_sharing)) in
      let t = operand_type p₁ sides.not_whole n sides.first_child sides.first_pattern in
      let u = operand_type p₂ sides.not_whole n sides.second_child sides.second_pattern in
      let a : HasType s (child_a s p) t.0 = rw sides.first t.1 in
      let b : HasType s (child_b s p) u.0 = rw sides.second u.1 in
      let g = groupable_told t.0 u.0 (grouped pass (groupable t.0 u.0) (pass.sequences p)
      (λ f. record { clash = sharing_not_groupable t.0 u.0 sides.is_sharing a b f; outside = out })) in
      record {
        first = t.0;
        second = u.0;
        first_type = t.1;
        second_type = u.1;
        before = g.0;
        after = g.1;
      }

  -- what is repeated is not simple
  pub repeated_type : (q : ℕ) → kind_of s p ≡ kind.one_or_more → child_a s p ≡ q → Child s q p
      → is_pattern (sort_of s q) ≡ true → (c : ℕ) × HasType s q c × (c < simple_type)
  repeated_type q e f d i =
      let t = operand_type q (ap holds_whole e) (λ z. omega arith) d i in
      let a : HasType s (child_a s p) t.0 = rw f t.1 in
      let g = groupable_told t.0 t.0 (grouped pass (groupable t.0 t.0) (pass.sequences p)
      (λ f. record { clash = repeat_not_groupable t.0 e a f; outside = out })) in
      (t.0, t.1, low t.0 g.0)
    where
      low : (c : ℕ) → (simple_type ≤ c → c < complex_type) → c < simple_type
      low c f = go (dec_lt c simple_type)
        where
          go : Dec (c < simple_type) → c < simple_type
          go (yes h) = h
          go (no h) = omega (arith, f (not_less h))
