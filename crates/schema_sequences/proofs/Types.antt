-- The content type of a row from those of its children, and when these do not go together.
use mathlib.Core.Path.{◌≡◌, refl, sym, ◌∙◌, ap₂, subst}
use mathlib.Core.Bool.{Bool, true, false, not, cond, ◌&&◌, ◌||◌, true≢false, false≢true, or-true}
use mathlib.Core.Logic.{◌⊎◌, inl, inr, ⊎_elim}
use mathlib.Core.List.{List}
use Prim.Native.Nat.{ℕ, max, ◌<◌}
use native.Mathlib.Omega.{arith}
use lib.Dec.{eqb}
use borrow.Author.Tests.{lt-ltb, eqb-true, eq-eqb, not-true}
use Rattle.tables.specs.Answers.{Decides}
use Rattle.tables.proofs.Booleans.{and_both, or_either, either}
use Rattle.schema.specs.Kinds as kind
use Rattle.schema.specs.Rows.{kind_of, b_of, child_a, child_b}
use Rattle.schema_places.specs.Paths.{sharing_kind}
use Rattle.schema_sequences.specs.Content.{groupable, HasType, value_type, data_type_1, data_type_2}
use Rattle.schema_sequences.specs.Content.{list_type, text_type, ref_type, type_of_empty}
use Rattle.schema_sequences.specs.Content.{attribute_type, sharing_type, one_or_more_type, choice_type}
use Rattle.schema_sequences.specs.Content.{Clash, sharing_not_groupable, repeat_not_groupable}
use Rattle.schema_sequences.specs.TypeTable.{no_type, typed, fits, clashes, type_by, clash_by, TypeIs}

three : (x y z : Bool) → (x && y && z) ≡ true → (x ≡ true) × (y ≡ true) × (z ≡ true)
three x y z e = let f = and_both (x && y) z e in let g = and_both x y f.0 in (g.0, g.1, f.1)

-- there are three types
pub type_low : {s : List ℕ} {r c : ℕ} → HasType s r c → c < no_type
type_low (value_type e) = omega arith
type_low (data_type_1 e f) = omega arith
type_low (data_type_2 e t) = omega arith
type_low (list_type e) = omega arith
type_low (text_type e) = omega arith
type_low (ref_type e) = omega arith
type_low (type_of_empty e) = omega arith
type_low (attribute_type e t) = omega arith
type_low (sharing_type e t u g) = omega (arith, type_low t, type_low u)
type_low (one_or_more_type e t g) = type_low t
type_low (choice_type e t u) = omega (arith, type_low t, type_low u)

-- the type and the clash of a group or interleave
pub sharing_kind_lem : (k : ℕ) → sharing_kind k ≡ true → (k ≡ kind.group) ⊎ (k ≡ kind.interleave)
sharing_kind_lem k e =
    ⊎_elim (λ x. inl (eqb-true _ _ x)) (λ x. inr (eqb-true _ _ x))
    (or_either (eqb k kind.group) (eqb k kind.interleave) e)

sharing_by : (k b c d : ℕ) → sharing_kind k ≡ true → type_by k b c d ≡ cond (fits c d) (max c d) no_type
unfolding type_by
sharing_by k b c d e = ⊎_elim (λ f. rw f) (λ f. rw f) (sharing_kind_lem k e)

sharing_clash : (k c d : ℕ) → sharing_kind k ≡ true → clash_by k c d ≡ clashes c d
unfolding clash_by
sharing_clash k c d e = ⊎_elim (λ f. rw f) (λ f. rw f) (sharing_kind_lem k e)

is_typed : {s : List ℕ} {x t u : ℕ} → TypeIs s x t → HasType s x u → typed t ≡ true
is_typed i h = lt-ltb _ _ (subst (λ n. n < no_type) (i.only _ h) (type_low h))

module _ (s : List ℕ) (r c d : ℕ) (first : TypeIs s (child_a s r) c) (second : TypeIs s (child_b s r) d) where
  abbrev Given : ℕ → Type 0
  Given t = typed t ≡ true → HasType s r t

  no_type_lem : Given no_type
  no_type_lem e = absurd (false≢true e)

  has : Given (type_by (kind_of s r) (b_of s r) c d)
  unfolding type_by
  has =
      let k = kind_of s r in
      either Given (eqb k kind.empty) (λ e t. type_of_empty (eqb-true _ _ e)) (λ e₁.
      either Given (eqb k kind.text || eqb k kind.ref) (λ e t. ⊎_elim (λ x. text_type (eqb-true _ _ x))
      (λ x. ref_type (eqb-true _ _ x)) (or_either (eqb k kind.text) (eqb k kind.ref) e)) (λ e₂.
      either Given (eqb k kind.value || eqb k kind.list) (λ e t. ⊎_elim (λ x. value_type (eqb-true _ _ x))
      (λ x. list_type (eqb-true _ _ x)) (or_either (eqb k kind.value) (eqb k kind.list) e)) (λ e₃.
      either Given (eqb k kind.«data») (λ e. either Given (eqb (b_of s r) kind.no_row || typed d)
      (λ f t. ⊎_elim (λ x. data_type_1 (eqb-true _ _ e) (eqb-true _ _ x)) (λ x. data_type_2 (eqb-true _ _ e)
      (second.has x)) (or_either (eqb (b_of s r) kind.no_row) (typed d) f)) (λ f. no_type_lem)) (λ e₄.
      either Given (eqb k kind.attribute)
      (λ e. either Given (typed d) (λ f t. attribute_type (eqb-true _ _ e) (second.has f)) (λ f. no_type_lem)) (λ e₅.
      either Given (eqb k kind.one_or_more) (λ e. either Given (fits c c)
      (λ f t. let g = three (typed c) (typed c) (groupable c c) f in
      one_or_more_type (eqb-true _ _ e) (first.has g.0) g.2) (λ f. no_type_lem)) (λ e₆.
      either Given (eqb k kind.choice) (λ e. either Given (typed c && typed d)
      (λ f t. let g = and_both (typed c) (typed d) f in
      choice_type (eqb-true _ _ e) (first.has g.0) (second.has g.1)) (λ f. no_type_lem)) (λ e₇.
      either Given (sharing_kind k) (λ e. either Given (fits c d)
      (λ f t. let g = three (typed c) (typed d) (groupable c d) f in
      sharing_type e (first.has g.0) (second.has g.1) g.2) (λ f. no_type_lem)) (λ e₈. no_type_lem))))))))

  -- the types that the children have are those given, so they go together as these do
  same_fit : (x y : ℕ) → HasType s (child_a s r) x → HasType s (child_b s r) y → groupable x y ≡ true → fits c d ≡ true
  same_fit x y t u g = rw (is_typed first t, is_typed second u) (rw (first.only x t, second.only y u) at g)

  sharing_only : (x y : ℕ) → sharing_kind (kind_of s r) ≡ true → HasType s (child_a s r) x
      → HasType s (child_b s r) y → groupable x y ≡ true → max x y ≡ type_by (kind_of s r) (b_of s r) c d
  sharing_only x y e t u g =
      ap₂ max (first.only x t) (second.only y u)
      ∙ sym (sharing_by (kind_of s r) (b_of s r) c d e ∙ rw (same_fit x y t u g))

  only : (t : ℕ) → HasType s r t → t ≡ type_by (kind_of s r) (b_of s r) c d
  unfolding type_by
  only t (value_type e) = rw e
  only t (data_type_1 e f) = rw (e, eq-eqb _ _ f)
  only t (data_type_2 e h) = rw (e, is_typed second h, or-true (eqb (b_of s r) kind.no_row))
  only t (list_type e) = rw e
  only t (text_type e) = rw e
  only t (ref_type e) = rw e
  only t (type_of_empty e) = rw e
  only t (attribute_type e h) = rw (e, is_typed second h)
  only t (sharing_type {c = x} {d = y} e h i g) = sharing_only x y e h i g
  only t (one_or_more_type e h g) = rw (e, is_typed first h, rw (first.only t h) at g) (first.only t h)
  only t (choice_type {c = x} {d = y} e h i) =
      rw (e, is_typed first h, is_typed second i) (ap₂ max (first.only x h) (second.only y i))

  pub type_is : TypeIs s r (type_by (kind_of s r) (b_of s r) c d)
  type_is = record { has = has; only = only }

  -- the answer to whether the row is at fault
  clash_fault : clash_by (kind_of s r) c d ≡ true → Clash s r
  unfolding clash_by
  clash_fault = go (eqb (kind_of s r) kind.one_or_more) refl (sharing_kind (kind_of s r)) refl
    where
      go : (m : Bool) → eqb (kind_of s r) kind.one_or_more ≡ m → (p : Bool) → sharing_kind (kind_of s r) ≡ p
          → cond m (clashes c c) (cond p (clashes c d) false) ≡ true → Clash s r
      go true e p f h =
          let g = three (typed c) (typed c) (not (groupable c c)) h in
          repeat_not_groupable c (eqb-true _ _ e) (first.has g.0) (not-true _ g.2)
      go false e true f h =
          let g = three (typed c) (typed d) (not (groupable c d)) h in
          sharing_not_groupable c d f (first.has g.0) (second.has g.1) (not-true _ g.2)
      go false e false f h = absurd (false≢true h)

  fault_clash : Clash s r → clash_by (kind_of s r) c d ≡ true
  unfolding clash_by
  fault_clash (sharing_not_groupable x y e t u g) =
      sharing_clash (kind_of s r) c d e
      ∙ rw (is_typed first t, is_typed second u, rw (first.only x t, second.only y u) at g)
  fault_clash (repeat_not_groupable x e t g) = rw (e, is_typed first t, rw (first.only x t) at g)

  pub clash_decides : Decides (Clash s r) (clash_by (kind_of s r) c d)
  clash_decides = go (clash_by (kind_of s r) c d) refl
    where
      go : (b : Bool) → clash_by (kind_of s r) c d ≡ b → Decides (Clash s r) b
      go true e = clash_fault e
      go false e = λ f. true≢false (sym (fault_clash f) ∙ e)

-- what the code finds of a row, from what it has read
pub row_judged :
    (s : List ℕ) (r : ℕ) {k b x y c d t : ℕ} {clash : Bool} → k ≡ kind_of s r
    → b ≡ b_of s r → x ≡ child_a s r → y ≡ child_b s r → TypeIs s x c → TypeIs s y d
    → clash ≡ clash_by k c d → t ≡ type_by k b c d → Decides (Clash s r) clash × TypeIs s r t
row_judged s r {c = c} {d} ek eb ex ey first second ec et =
    let one : TypeIs s (child_a s r) c = rw ex at first in
    let two : TypeIs s (child_b s r) d = rw ey at second in
    (rw (ec, ek) (clash_decides s r c d one two), rw (et, ek, eb) (type_is s r c d one two))
