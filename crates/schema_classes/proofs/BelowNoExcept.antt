-- In a table that keeps the rule of rows, the rows of `Lies` are those of the class that are in none of its excepts.
use Prim.Native.Nat.{ℕ, ◌≤◌}
use mathlib.Core.Path.{◌≡◌, refl, sym, subst}
use mathlib.Core.Bool.{true, ◌&&◌}
use mathlib.Core.Logic.{◌⊎◌, inl, inr, ⊎_elim}
use mathlib.Core.List.{List}
use native.Mathlib.Decide.{ℕ_discrete}
use native.Mathlib.Omega.{arith}
use lib.Dec.{ltb}
use Rattle.tables.proofs.Booleans.{and_right}
use Rattle.schema.specs.Kinds as kind
use Rattle.schema.specs.Relations.{Child, by_a, by_b, Below, child, deeper}
use Rattle.schema.specs.RowRule.{RowsRight}
use Rattle.schema.specs.Rows.{kind_of, a_of, b_of, shape_of, sort_of, is_class}
use Rattle.schema.proofs.Children.{child_less}
use Rattle.schema.proofs.Sorts.{ClassKind, any_name, ns_name, one_name, name_choice_lem, class_kind}
use Rattle.schema.proofs.OneParent.{Upward, arrived, upward, below_upward, upward_less, apart_below}
use Rattle.schema_classes.specs.WhichRow.{Lies, itself, within}
use Rattle.schema_classes.proofs.ClassRows.{no_part}

-- r is in c: it is c or below it
abbrev pub In : List ℕ → ℕ → ℕ → Type 0
In s r c = (r ≡ c) ⊎ Below s r c

-- r is in an except of the class c: in the except class of an anyName or an nsName in c
pub record InExcept (s : List ℕ) (c r : ℕ) : Type 0 where
  pub of : ℕ
  pub except : ℕ
  pub within : In s of c
  pub kind : (kind_of s of ≡ kind.any_name) ⊎ (kind_of s of ≡ kind.ns_name)
  pub child : Child s except of
  pub inside : In s r except

module _ {s : List ℕ} where
  in_up : {r c : ℕ} → In s r c → Upward s c r
  in_up {c = c} (inl e) = subst (Upward s c) (sym e) arrived
  in_up (inr b) = below_upward b

  in_low : {r c : ℕ} → In s r c → r ≤ c
  in_low i = upward_less (in_up i)

  in_child : {r m c : ℕ} → Child s m c → In s r m → In s r c
  in_child {c = c} h (inl e) = inr (child (subst (λ (x : ℕ). Child s x c) (sym e) h))
  in_child h (inr b) = inr (deeper h b)

  up_more : {b r c : ℕ} → Upward s b r → Upward s c b → Upward s c r
  up_more arrived v = v
  up_more (upward h u) v = upward h (up_more u v)

  lies_in_class : {r c : ℕ} → Lies s r c → In s r c
  lies_in_class itself = inl refl
  lies_in_class (within k h l) = in_child h (lies_in_class l)

module _ {s : List ℕ} {q c : ℕ} where
  member_class : kind_of s c ≡ kind.name_choice → Child s q c → is_class (sort_of s q) ≡ true
  unfolding shape_of
  member_class k (by_a e f) =
      let g : (ltb (a_of s c) c && is_class (sort_of s (a_of s c))) ≡ true = rw k at e in
      subst (λ (x : ℕ). is_class (sort_of s x) ≡ true) f
      (and_right (ltb (a_of s c) c) (is_class (sort_of s (a_of s c))) g)
  member_class k (by_b e f) =
      let g : (ltb (b_of s c) c && is_class (sort_of s (b_of s c))) ≡ true = rw k at e in
      subst (λ (x : ℕ). is_class (sort_of s x) ≡ true) f
      (and_right (ltb (b_of s c) c) (is_class (sort_of s (b_of s c))) g)

  -- a class that has a part, which is no except, is a choice
  has_member : {r : ℕ} → is_class (sort_of s c) ≡ true → Child s q c → In s r q → ¬ InExcept s c r
      → kind_of s c ≡ kind.name_choice
  has_member {r} i h j n = go (class_kind s c i)
    where
      except : (kind_of s c ≡ kind.any_name) ⊎ (kind_of s c ≡ kind.ns_name) → InExcept s c r
      except k = record { of = c; except = q; within = inl refl; kind = k; child = h; inside = j }

      go : ClassKind (kind_of s c) → kind_of s c ≡ kind.name_choice
      go (any_name k) = absurd (n (except (inl k)))
      go (ns_name k) = absurd (n (except (inr k)))
      go (one_name k) = absurd (no_part k h)
      go (name_choice_lem k) = k

again : {s : List ℕ} {c d r : ℕ} (x : InExcept s c r) → In s x.of d → InExcept s d r
again x i =
    record { of = x.of; except = x.except; within = i; kind = x.kind; child = x.child; inside = x.inside }

pub lies_if : {s : List ℕ} {r c : ℕ} → is_class (sort_of s c) ≡ true → In s r c → ¬ InExcept s c r → Lies s r c
lies_if {s = s} {c = c} k (inl e) n = subst (λ (x : ℕ). Lies s x c) (sym e) itself
lies_if k (inr (child h)) n = within (has_member k h (inl refl) n) h itself
lies_if k (inr (deeper h b)) n =
    let j = has_member k h (inr b) n in
    within j h (lies_if (member_class j h) (inr b) (λ x. n (again x (in_child h x.within))))

module _ {strings : ℕ} {s : List ℕ} (right : RowsRight strings s) where
  -- a row in one member of a choice is in no except of another
  member_outside : {c m r : ℕ} → kind_of s c ≡ kind.name_choice → Child s m c → In s r m → ¬ InExcept s m r
      → ¬ InExcept s c r
  member_outside {c} {m} {r} k h l n x = go x.within
    where
      step : {q : ℕ} → Child s q c → In s x.of q → ⊥
      step {q} d i = pick (ℕ_discrete m q)
        where
          pick : Dec (m ≡ q) → ⊥
          pick (yes e) = n (again x (subst (In s x.of) (sym e) i))
          pick (no f) =
              apart_below right h d f (in_up l) (up_more (in_up (in_child x.child x.inside)) (in_up i))

      go : In s x.of c → ⊥
      go (inl e) = ⊎_elim (λ j. omega (arith, rw e at j)) (λ j. omega (arith, rw e at j)) x.kind
      go (inr (child d)) = step d (inl refl)
      go (inr (deeper d b)) = step d (inr b)

  lies_outside : {r c : ℕ} → Lies s r c → ¬ InExcept s c r
  lies_outside itself x = omega (arith, in_low x.inside, child_less x.child, in_low x.within)
  lies_outside (within k h l) x = member_outside k h (lies_in_class l) (lies_outside l) x

  pub lies_only : {c r : ℕ} → Lies s r c → In s r c × (¬ InExcept s c r)
  lies_only l = (lies_in_class l, lies_outside l)
