-- The answer on a class with its row, by the answers on its parts.
use Prim.Native.Nat.{ℕ, ◌≤◌, ◌<◌}
use mathlib.Core.Path.{◌≡◌, refl, sym, ◌∙◌, ap, ap₂}
use mathlib.Core.Bool.{Bool, true, false, not, ◌&&◌, ◌||◌, false≢true}
use mathlib.Core.Logic.{◌⊎◌, inl, inr, ⊎_elim}
use mathlib.Core.List.{List}
use native.Mathlib.Decide.{dec_lt}
use native.Mathlib.Omega.{arith}
use lib.Dec.{ltb, eqb}
use borrow.Author.Tests.{lt-ltb, le-ltb, ltb-true, eq-eqb, ne_eqb}
use Rattle.tables.proofs.Booleans.{and_both, or_either}
use Rattle.schema.specs.Falling.{upto}
use Rattle.schema.specs.Kinds as kind
use Rattle.schema.specs.Rows.{kind_of, shape_of, sort_of, is_class}
use Rattle.schema.proofs.Falling.{upto_below, upto_above}
use Rattle.schema_classes.specs.Judging.{unless_excepted, choice_of, JudgedBelow}
use Rattle.schema_classes.specs.Membership.{holds, in_class}
use Rattle.schema_classes.specs.WhichRow.{Except, of_any_name, of_ns_name, TakesIn, ShutsOut, no_choice}
use Rattle.schema_classes.specs.WhichRow.{itself, smallest, without_row, is_yes, row_of, Judged}
use Rattle.schema_classes.specs.declared.Member.{Member}
use Rattle.schema_classes.specs.declared.Member.TheVariants.{Yes, No}
use Rattle.schema_classes.proofs.ClassRows.{class_held, child_a_lem, child_b_lem}
use Rattle.schema_classes.proofs.Holds.{step, Read, holds_any_name, holds_ns_name}
use Rattle.schema_classes.proofs.Holds.{holds_name, holds_name_choice, holds_other}
use Rattle.schema_classes.proofs.Smallest.{row_both, choice_yes, row_beside}
use Rattle.schema_classes.proofs.WhichRow.{except_of_any, except_of_ns, except_kind, taken_in, takes_alone}
use Rattle.schema_classes.proofs.WhichRow.{shuts_alone, shuts_low, choice_takes, choice_shuts}

module _ (s : List ℕ) (u l : ℕ) where
  pub smaller_judged : {p c : ℕ} {m : Member} → c < p → Judged s u l c m → JudgedBelow s u l p c m
  smaller_judged {p} {c} {m} h j = record {
    answer = j.answer ∙ sym (ap (λ (x : Bool). x && in_class s u l c) (lt-ltb c p h));
    row = row_beside (TakesIn s u l c) (ShutsOut s u l c) h (is_yes m) (row_of m) j.row;
  }

  pub not_smaller : {p c : ℕ} → p ≤ c → JudgedBelow s u l p c (No kind.no_row)
  not_smaller {p} {c} h = record {
    answer = sym (ap (λ (x : Bool). x && in_class s u l c) (le-ltb c p h));
    row = without_row (λ i x. omega (arith, x.0)) refl;
  }

  -- a class that is no choice: it takes the name in itself, its except shuts the name out, or neither
  module _ {c : ℕ} (alone : ¬ (kind_of s c ≡ kind.name_choice)) where
    pub takes_itself : no_choice (kind_of s c) ≡ true → in_class s u l c ≡ true → Judged s u l c (Yes c)
    takes_itself k h = record {
      answer = sym h;
      row = (
        record { lies = itself; kind = k; holds = h },
        λ i less t. let e = takes_alone s u l alone t in omega arith,
      );
    }

    pub nothing : in_class s u l c ≡ false → ((e : ℕ) → ¬ Except s u e c) → Judged s u l c (No kind.no_row)
    nothing h n = record { answer = sym h; row = without_row (λ e x. n e (shuts_alone s u l alone x)) refl }

    by_except : {e : ℕ} → no_choice (kind_of s c) ≡ true → (e < c → is_class (sort_of s e) ≡ true → Except s u e c)
        → ((x : ℕ) → Except s u x c → x ≡ e) → (m : Member) → in_class s u l c ≡ not (ltb e c && in_class s u l e)
        → JudgedBelow s u l c e m → Judged s u l c (unless_excepted c e m)
    by_except {e} k made only (Yes q) h j =
        let g = and_both (ltb e c) (in_class s u l e) (sym j.answer) in
        record {
          answer = sym (h ∙ ap not (sym j.answer));
          row = smallest (record {
            under = c;
            lies = itself;
            except = made (ltb-true e c g.0) (class_held s u l e g.1);
            holds = g.1;
          }) (λ i less x. let f = only i (shuts_alone s u l alone x) in omega arith);
        }
    by_except {e} k made only (No q) h j = takes_itself k (h ∙ ap not (sym j.answer))

  module _ (positive : 0 < l) where
    held : (c : ℕ) → in_class s u l c ≡ holds s u l c
    held c = ap (λ (x : Bool). x && holds s u l c) (lt-ltb 0 l positive)

    -- a field of row c, by what the class there holds
    field : (c x : ℕ) → upto (step s u l) c x ≡ (ltb x c && in_class s u l x)
    unfolding holds
    field c x = go (dec_lt x c)
      where
        go : Dec (x < c) → upto (step s u l) c x ≡ (ltb x c && in_class s u l x)
        go (yes h) =
            upto_below (step s u l) c x h ∙ sym (held x) ∙ sym (ap (λ (b : Bool). b && in_class s u l x) (lt-ltb x c h))
        go (no h) =
            upto_above (step s u l) c x (omega arith)
            ∙ sym (ap (λ (b : Bool). b && in_class s u l x) (le-ltb x c (omega arith)))

    -- a class by its kind k and its fields a and b, as they are read
    module _ {c k a b : ℕ} (read : Read s c k a b) where
      other : (j : ℕ) → k ≡ j → ¬ (j ≡ kind.name_choice) → ¬ (kind_of s c ≡ kind.name_choice)
      other j e n f = n (sym e ∙ read.kind ∙ f)

      pub name_taken : k ≡ kind.name → u ≡ a → l ≡ b → Judged s u l c (Yes c)
      name_taken e f g =
          takes_itself (other kind.name e (λ x. omega arith)) (rw (← read.kind, e))
          (held c ∙ holds_name s u l c read e ∙ rw (eq-eqb u a f, eq-eqb l b g))

      no_except : (j : ℕ) → k ≡ j → ¬ (j ≡ kind.any_name) → ¬ (j ≡ kind.ns_name) → (e : ℕ) → ¬ Except s u e c
      no_except j e m n i x =
          ⊎_elim (λ f. m (sym e ∙ read.kind ∙ f)) (λ f. n (sym e ∙ read.kind ∙ f)) (except_kind x)

      pub name_other : k ≡ kind.name → (eqb u a && eqb l b) ≡ false → Judged s u l c (No kind.no_row)
      name_other e f =
          nothing (other kind.name e (λ x. omega arith)) (held c ∙ holds_name s u l c read e ∙ f)
          (no_except kind.name e (λ x. omega arith) (λ x. omega arith))

      pub no_class_says : ¬ (k ≡ kind.any_name) → ¬ (k ≡ kind.ns_name) → ¬ (k ≡ kind.name) → ¬ (k ≡ kind.name_choice)
          → Judged s u l c (No kind.no_row)
      no_class_says m n o p =
          nothing (λ f. p (read.kind ∙ f)) (held c ∙ holds_other s u l c read m n o p) (no_except k refl m n)

      -- what a choice holds, a member holds
      pub choice_member : k ≡ kind.name_choice → in_class s u l c ≡ true
          → ((a < c) × (in_class s u l a ≡ true)) ⊎ ((b < c) × (in_class s u l b ≡ true))
      choice_member e h =
          ⊎_elim (λ i. inl (member a i)) (λ i. inr (member b i)) (or_either (upto (step s u l) c a)
          (upto (step s u l) c b) (sym (holds_name_choice s u l c read e) ∙ sym (held c) ∙ h))
        where
          member : (x : ℕ) → upto (step s u l) c x ≡ true → (x < c) × (in_class s u l x ≡ true)
          member x i =
              let g = and_both (ltb x c) (in_class s u l x) (sym (field c x) ∙ i) in (ltb-true x c g.0, g.1)

      -- the row fits a field, so that the number of no row is none of its parts
      module _ (low : c ≤ kind.no_row) where
        pub any_judged : k ≡ kind.any_name → {m : Member} → JudgedBelow s u l c a m
            → Judged s u l c (unless_excepted c a m)
        unfolding shape_of
        any_judged e {m} j =
            by_except (other kind.any_name e (λ x. omega arith)) (rw (← read.kind, e))
            (λ h i. of_any_name kind_is (rw read.first (child_a_lem s c kind.any_name (λ x. refl) kind_is
            (rw (← read.first) h) (rw (← read.first) i))))
            (λ x h. sym (read.first ∙ except_of_any kind_is h)) m
            (held c ∙ holds_any_name s u l c read low e ∙ ap not (field c a)) j
          where
            kind_is : kind_of s c ≡ kind.any_name
            kind_is = sym read.kind ∙ e

        pub ns_judged : k ≡ kind.ns_name → u ≡ a → {m : Member} → JudgedBelow s u l c b m
            → Judged s u l c (unless_excepted c b m)
        unfolding shape_of
        ns_judged e f {m} j =
            by_except (other kind.ns_name e (λ x. omega arith)) (rw (← read.kind, e))
            (λ h i. of_ns_name kind_is (sym (f ∙ read.first)) (rw read.second (child_b_lem s c kind.ns_name (λ x. refl)
            kind_is (rw (← read.second) h) (rw (← read.second) i))))
            (λ x h. sym (read.second ∙ (except_of_ns kind_is h).1)) m
            (held c ∙ holds_ns_name s u l c read low e ∙ rw (eq-eqb u a f) (ap not (field c b))) j
          where
            kind_is : kind_of s c ≡ kind.ns_name
            kind_is = sym read.kind ∙ e

        pub ns_other : k ≡ kind.ns_name → ¬ (u ≡ a) → Judged s u l c (No kind.no_row)
        ns_other e f =
            nothing (other kind.ns_name e (λ x. omega arith))
            (held c ∙ holds_ns_name s u l c read low e ∙ rw (ne_eqb u a f))
            (λ i x. f (sym (read.first ∙ (except_of_ns (sym read.kind ∙ e) x).0)))

        pub choice_judged : k ≡ kind.name_choice → {x y : Member} → JudgedBelow s u l c a x → JudgedBelow s u l c b y
            → Judged s u l c (choice_of x y)
        choice_judged e {x} {y} i j = record {
          answer =
              choice_yes x y ∙ ap₂ ◌||◌ (i.answer ∙ sym (field c a)) (j.answer ∙ sym (field c b))
              ∙ sym (held c ∙ holds_name_choice s u l c read e);
          row = row_both (rw (read.first, read.second) (choice_takes s u l kind_is))
              (rw (read.first, read.second) (choice_shuts s u l kind_is))
              (λ r h. omega (arith, shuts_low s u l h.1)) (λ r h. omega (arith, shuts_low s u l h.1))
              x y (none_taken a x i) (none_taken b y j) i.row j.row;
        }
          where
            kind_is : kind_of s c ≡ kind.name_choice
            kind_is = sym read.kind ∙ e

            none_taken : (d : ℕ) (m : Member) → JudgedBelow s u l c d m → is_yes m ≡ false → (r : ℕ)
                → ¬ ((d < c) × TakesIn s u l d r)
            none_taken d m j n r (h, t) =
                false≢true (sym n ∙ j.answer ∙ rw (lt-ltb d c h, taken_in s u l t))

-- no class has a name whose local number is 0
pub local_zero : (s : List ℕ) (u c : ℕ) {l : ℕ} → l ≤ 0 → Judged s u l c (No kind.no_row)
local_zero s u c {l} h = record {
  answer = sym (zero c);
  row = without_row (λ e x. false≢true (sym (zero e) ∙ x.holds)) refl;
}
  where
    zero : (r : ℕ) → in_class s u l r ≡ false
    zero r = ap (λ (x : Bool). x && holds s u l r) (le-ltb 0 l h)
