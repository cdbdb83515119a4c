-- Which rows lie in a class below no except, take a name in or shut it out, by the kind of the class's row.
use Prim.Native.Nat.{ℕ, ◌≤◌, ◌<◌}
use mathlib.Core.Path.{◌≡◌, refl, ◌∙◌, ap}
use mathlib.Core.Bool.{true, false≢true}
use mathlib.Core.Logic.{◌⊎◌, inl, inr, ⊎_elim}
use mathlib.Core.List.{List}
use native.Mathlib.Omega.{arith}
use lib.Dec.{ltb}
use Rattle.tables.proofs.Booleans.{and_both, both_and, or_left, or_right}
use Rattle.schema.specs.Kinds as kind
use Rattle.schema.specs.Relations.{Child, by_a, by_b}
use Rattle.schema.specs.Rows.{kind_of, a_of, b_of, shape_of, sort_of, is_class}
use Rattle.schema.proofs.Children.{child_less}
use Rattle.schema.specs.Falling.{upto}
use Rattle.schema.proofs.Falling.{upto_below}
use Rattle.schema_classes.specs.Membership.{holds, in_class}
use Rattle.schema_classes.specs.WhichRow.{Lies, itself, within, Except, of_any_name, of_ns_name}
use Rattle.schema_classes.specs.WhichRow.{TakesIn, ShutsOut}
use Rattle.schema_classes.proofs.ClassRows.{class_held, child_a_lem, child_b_lem}
use Rattle.schema_classes.proofs.Holds.{step, holds_name_choice}
use Rattle.schema_classes.proofs.Smallest.{Union}

-- the except class of an anyName or an nsName
module _ {s : List ℕ} {u e c : ℕ} where
  pub except_of_any : kind_of s c ≡ kind.any_name → Except s u e c → a_of s c ≡ e
  unfolding shape_of
  except_of_any k (of_any_name j (by_a h f)) = f
  except_of_any k (of_any_name j (by_b h f)) = absurd (false≢true (rw k at h))
  except_of_any k (of_ns_name j i h) = absurd (omega arith)

  pub except_of_ns : kind_of s c ≡ kind.ns_name → Except s u e c → (a_of s c ≡ u) × (b_of s c ≡ e)
  unfolding shape_of
  except_of_ns k (of_any_name j h) = absurd (omega arith)
  except_of_ns k (of_ns_name j i (by_a h f)) = absurd (false≢true (rw k at h))
  except_of_ns k (of_ns_name j i (by_b h f)) = (i, f)

  pub except_kind : Except s u e c → (kind_of s c ≡ kind.any_name) ⊎ (kind_of s c ≡ kind.ns_name)
  except_kind (of_any_name k h) = inl k
  except_kind (of_ns_name k i h) = inr k

  pub except_less : Except s u e c → e < c
  except_less (of_any_name k h) = child_less h
  except_less (of_ns_name k i h) = child_less h

  except_class : Except s u e c → is_class (sort_of s c) ≡ true
  unfolding shape_of
  except_class (of_any_name k h) = ap (λ (i : ℕ). is_class (shape_of i).sort) k
  except_class (of_ns_name k i h) = ap (λ (i : ℕ). is_class (shape_of i).sort) k

-- a class that is no choice has no row below no except but itself
pub lies_alone : {s : List ℕ} {r c : ℕ} → ¬ (kind_of s c ≡ kind.name_choice) → Lies s r c → r ≡ c
lies_alone n itself = refl
lies_alone n (within k h l) = absurd (n k)

pub lies_low : {s : List ℕ} {r c : ℕ} → Lies s r c → r ≤ c
lies_low itself = omega arith
lies_low (within k h l) = let a = child_less h in let b = lies_low l in omega arith

class_above : {s : List ℕ} {r c : ℕ} → Lies s r c → is_class (sort_of s r) ≡ true → is_class (sort_of s c) ≡ true
unfolding shape_of
class_above itself h = h
class_above (within k c l) h = ap (λ (i : ℕ). is_class (shape_of i).sort) k

-- a choice has the rows of its members, and itself
module _ {s : List ℕ} {c : ℕ} (choice : kind_of s c ≡ kind.name_choice) where
  pub lies_in : {r : ℕ} → Lies s r c
      → (r ≡ c) ⊎ (((a_of s c < c) × Lies s r (a_of s c)) ⊎ ((b_of s c < c) × Lies s r (b_of s c)))
  lies_in itself = inl refl
  lies_in (within k (by_a e f) l) = inr (inl (rw f (child_less {s = s} (by_a e f)), rw f l))
  lies_in (within k (by_b e f) l) = inr (inr (rw f (child_less {s = s} (by_b e f)), rw f l))

  pub lies_first : {r : ℕ} → a_of s c < c → is_class (sort_of s r) ≡ true → Lies s r (a_of s c) → Lies s r c
  unfolding shape_of
  lies_first h k l = within choice (child_a_lem s c kind.name_choice (λ x. refl) choice h (class_above l k)) l

  pub lies_second : {r : ℕ} → b_of s c < c → is_class (sort_of s r) ≡ true → Lies s r (b_of s c) → Lies s r c
  unfolding shape_of
  lies_second h k l = within choice (child_b_lem s c kind.name_choice (λ x. refl) choice h (class_above l k)) l

module _ (s : List ℕ) (u l : ℕ) where
  member_held : {c m : ℕ} → kind_of s c ≡ kind.name_choice → Child s m c → holds s u l m ≡ true → holds s u l c ≡ true
  unfolding holds
  member_held {c} k (by_a e f) h =
      holds_name_choice s u l c (record { kind = refl; first = refl; second = refl }) k
      ∙ or_left (upto (step s u l) c (b_of s c))
      (upto_below (step s u l) c (a_of s c) (rw f (child_less {s = s} (by_a e f))) ∙ rw f h)
  member_held {c} k (by_b e f) h =
      holds_name_choice s u l c (record { kind = refl; first = refl; second = refl }) k
      ∙ or_right (upto (step s u l) c (a_of s c))
      (upto_below (step s u l) c (b_of s c) (rw f (child_less {s = s} (by_b e f))) ∙ rw f h)

  held_above : {r c : ℕ} → Lies s r c → in_class s u l r ≡ true → in_class s u l c ≡ true
  held_above itself h = h
  held_above (within {m = m} k child lies) h =
      let g = and_both (ltb 0 l) (holds s u l m) (held_above lies h) in both_and g.0 (member_held k child g.1)

  -- a class has each name that a row takes in
  pub taken_in : {c r : ℕ} → TakesIn s u l c r → in_class s u l c ≡ true
  taken_in t = held_above t.lies t.holds

  -- of a class that is no choice
  module _ {c : ℕ} (alone : ¬ (kind_of s c ≡ kind.name_choice)) where
    pub takes_alone : {r : ℕ} → TakesIn s u l c r → r ≡ c
    takes_alone t = lies_alone alone t.lies

    pub shuts_alone : {e : ℕ} → ShutsOut s u l c e → Except s u e c
    shuts_alone x = rw (lies_alone alone x.lies) at x.except

  -- a choice: what its members take in or shut out
  module _ {c : ℕ} (choice : kind_of s c ≡ kind.name_choice) where
    pub choice_takes : Union (TakesIn s u l c) (λ r. (a_of s c < c) × TakesIn s u l (a_of s c) r)
        (λ r. (b_of s c < c) × TakesIn s u l (b_of s c) r)
    choice_takes = record { first = first; second = second; split = λ r t. split t (lies_in choice t.lies) }
      where
        again : {r d e : ℕ} → TakesIn s u l d r → Lies s r e → TakesIn s u l e r
        again t h = record { lies = h; kind = t.kind; holds = t.holds }

        first : (r : ℕ) → (a_of s c < c) × TakesIn s u l (a_of s c) r → TakesIn s u l c r
        first r (h, t) = again t (lies_first choice h (class_held s u l r t.holds) t.lies)

        second : (r : ℕ) → (b_of s c < c) × TakesIn s u l (b_of s c) r → TakesIn s u l c r
        second r (h, t) = again t (lies_second choice h (class_held s u l r t.holds) t.lies)

        split : {r : ℕ} → TakesIn s u l c r
            → (r ≡ c) ⊎ (((a_of s c < c) × Lies s r (a_of s c)) ⊎ ((b_of s c < c) × Lies s r (b_of s c)))
            → ((a_of s c < c) × TakesIn s u l (a_of s c) r) ⊎ ((b_of s c < c) × TakesIn s u l (b_of s c) r)
        split t (inl e) = absurd (false≢true (rw (e, choice) at t.kind))
        split t (inr (inl (h, i))) = inl (h, again t i)
        split t (inr (inr (h, i))) = inr (h, again t i)

    pub choice_shuts : Union (ShutsOut s u l c) (λ e. (a_of s c < c) × ShutsOut s u l (a_of s c) e)
        (λ e. (b_of s c < c) × ShutsOut s u l (b_of s c) e)
    choice_shuts = record { first = first; second = second; split = λ e x. split x (lies_in choice x.lies) }
      where
        again : {e d f : ℕ} (x : ShutsOut s u l d e) → Lies s x.under f → ShutsOut s u l f e
        again x h = record { under = x.under; lies = h; except = x.except; holds = x.holds }

        first : (e : ℕ) → (a_of s c < c) × ShutsOut s u l (a_of s c) e → ShutsOut s u l c e
        first e (h, x) = again x (lies_first choice h (except_class x.except) x.lies)

        second : (e : ℕ) → (b_of s c < c) × ShutsOut s u l (b_of s c) e → ShutsOut s u l c e
        second e (h, x) = again x (lies_second choice h (except_class x.except) x.lies)

        not_itself : {e : ℕ} (x : ShutsOut s u l c e) → x.under ≡ c → ⊥
        not_itself x f =
            ⊎_elim (λ k. omega (arith, rw f at k)) (λ k. omega (arith, rw f at k)) (except_kind x.except)

        split : {e : ℕ} (x : ShutsOut s u l c e)
            → (x.under ≡ c)
            ⊎ (((a_of s c < c) × Lies s x.under (a_of s c)) ⊎ ((b_of s c < c) × Lies s x.under (b_of s c)))
            → ((a_of s c < c) × ShutsOut s u l (a_of s c) e) ⊎ ((b_of s c < c) × ShutsOut s u l (b_of s c) e)
        split x (inl f) = absurd (not_itself x f)
        split x (inr (inl (h, i))) = inl (h, again x i)
        split x (inr (inr (h, i))) = inr (h, again x i)

  -- an except class stands at a smaller row than the class
  pub shuts_low : {c e : ℕ} → ShutsOut s u l c e → e < c
  shuts_low x = let a = except_less x.except in let b = lies_low x.lies in omega arith
