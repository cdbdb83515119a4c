-- Codes 7 and 8: tests of whether a row is at fault.
use Prim.Native.Nat.{ℕ, ◌<◌}
use mathlib.Core.Path.{◌≡◌, refl, sym, ◌∙◌, ap, subst}
use mathlib.Core.Bool.{Bool, true, false, not, ◌&&◌, ◌||◌, false≢true}
use mathlib.Core.List.{List}
use mathlib.Core.Logic.{◌≢◌, ◌⊎◌, inl, inr}
use native.Mathlib.Omega.{arith}
use lib.Dec.{eqb}
use borrow.Author.Tests.{eqb-true, eq-eqb}
use Rattle.schema.specs.Kinds as kind
use Rattle.schema.specs.Rows.{rows_of, kind_of, child_a, child_b}
use Rattle.schema.specs.Relations.{Below, connective, Occurs, itself, within}
use Rattle.schema.specs.RowRule.{RowsRight}
use Rattle.schema.proofs.RowLaws.{in_table, right_size}
use Rattle.schema_classes.specs.Least.{Common}
use Rattle.schema_places.specs.Paths.{sharing_kind}
use Rattle.schema_occurrences.specs.Attributes.{is_wildcard, Infinite, of_wildcard, has_wildcard}
use Rattle.schema_occurrences.specs.Attributes.{AttributeFault, duplicate, not_repeated}
use Rattle.schema_occurrences.specs.Interleaves.{class_referred, InterleaveFault, same_element, text_twice}
use Rattle.tables.proofs.Booleans.{or_either, or_left, or_right, and_left, and_right, both_and}
use Rattle.cases.proofs.Tests.{some_below, below_some, no_of, guarded, unguarded}
use Rattle.cases.proofs.DescentTests.{inside_test, occurs_test, test_occurs, below_test, below_test_lem, test_below}
use Rattle.cases.proofs.PlaceTests.{above_row}
use Rattle.cases.proofs.ClassTests.{meet_test, meet_test_lem, test_meet}

module _ (strings : ℕ) (s : List ℕ) where
  -- the rows of a kind that occur in a pattern, by a further test
  abbrev some_of : ℕ → (ℕ → Bool) → ℕ → Bool
  some_of k t p =
      inside_test s connective (λ x. elim (eqb (kind_of s x) k) [ true ↦ t x | false ↦ false ]) (rows_of s) p

  test_some : (k : ℕ) (t : ℕ → Bool) (p : ℕ) → some_of k t p ≡ true
      → (x : ℕ) × Occurs s x p × (kind_of s x ≡ k) × (t x ≡ true)
  test_some k t p e =
      let z = test_occurs s (λ x. elim (eqb (kind_of s x) k) [ true ↦ t x | false ↦ false ]) (rows_of s) p e in
      let w = unguarded (eqb (kind_of s z.0) k) (t z.0) z.2 in
      (z.0, z.1, eqb-true (kind_of s z.0) k w.0, w.1)

  -- two rows of a kind, one in each operand of row r, whose classes have a name in common
  unfoldable pub shared_test : ℕ → (ℕ → ℕ) → ℕ → Bool
  shared_test k class r =
      some_of k (λ x. some_of k (λ y. meet_test strings s (class x) (class y)) (child_b s r)) (child_a s r)

  pub record Shared (k : ℕ) (class : ℕ → ℕ) (r : ℕ) : Type 0 where
    pub x : ℕ
    pub y : ℕ
    pub u : ℕ
    pub l : ℕ
    pub first : Occurs s x (child_a s r)
    pub first_kind : kind_of s x ≡ k
    pub second : Occurs s y (child_b s r)
    pub second_kind : kind_of s y ≡ k
    pub common : Common s (class x) (class y) u l

  test_shared : (k : ℕ) (class : ℕ → ℕ) (r : ℕ) → shared_test k class r ≡ true → Shared k class r
  unfolding shared_test
  test_shared k class r e =
      let a =
      test_some k (λ x. some_of k (λ y. meet_test strings s (class x) (class y)) (child_b s r)) (child_a s r) e in
      let b = test_some k (λ y. meet_test strings s (class a.0) (class y)) (child_b s r) a.3 in
      let m = test_meet strings s (class a.0) (class b.0) b.3 in
      record {
        x = a.0;
        y = b.0;
        u = m.0;
        l = m.1;
        first = a.1;
        first_kind = a.2;
        second = b.1;
        second_kind = b.2;
        common = m.2;
      }

  -- code 7
  abbrev pub duplicate_test : ℕ → Bool
  duplicate_test r =
      elim (sharing_kind (kind_of s r)) [ true ↦ shared_test kind.attribute (child_a s) r | false ↦ false ]

  abbrev wildcard : ℕ → Bool
  wildcard c = is_wildcard (kind_of s c)

  abbrev infinite_test : ℕ → Bool
  infinite_test c = wildcard c || below_test s wildcard (rows_of s) c

  abbrev repeats : ℕ → ℕ → Bool
  repeats r p = eqb (kind_of s p) kind.one_or_more && below_test s (eqb r) (rows_of s) p

  abbrev finite_or_repeated : ℕ → Bool
  finite_or_repeated r =
      not (eqb (kind_of s r) kind.attribute)
      || (not (infinite_test (child_a s r)) || some_below (repeats r) (rows_of s))

  unfoldable pub attributes_test : ℕ → Bool
  attributes_test r = not (duplicate_test r) && finite_or_repeated r

  pub attribute_fault : (r : ℕ) → duplicate_test r ≡ true → AttributeFault s r
  attribute_fault r e =
      let w = unguarded (sharing_kind (kind_of s r)) (shared_test kind.attribute (child_a s) r) e in
      let d = test_shared kind.attribute (child_a s) r w.1 in
      duplicate d.x d.y d.u d.l w.0 d.first d.first_kind d.second d.second_kind d.common

  -- code 8
  abbrev texts_test : ℕ → Bool
  texts_test r = some_of kind.text (λ x. true) (child_a s r) && some_of kind.text (λ x. true) (child_b s r)

  abbrev shares_items : ℕ → Bool
  shares_items r = shared_test kind.ref (class_referred s) r || texts_test r

  unfoldable pub interleave_test : ℕ → Bool
  interleave_test r = elim (eqb (kind_of s r) kind.interleave) [ true ↦ shares_items r | false ↦ false ]

  pub interleave_fault : (r : ℕ) → interleave_test r ≡ true → InterleaveFault s r
  unfolding interleave_test
  interleave_fault r e = go (or_either (shared_test kind.ref (class_referred s) r) (texts_test r) w.1)
    where
      w : (eqb (kind_of s r) kind.interleave ≡ true) × (shares_items r ≡ true)
      w = unguarded (eqb (kind_of s r) kind.interleave) (shares_items r) e

      go : (shared_test kind.ref (class_referred s) r ≡ true) ⊎ (texts_test r ≡ true) → InterleaveFault s r
      go (inl h) =
          let d = test_shared kind.ref (class_referred s) r h in
          same_element d.x d.y d.u d.l (eqb-true _ _ w.0)
          d.first d.first_kind d.second d.second_kind d.common
      go (inr h) =
          let a = test_some kind.text (λ x. true) (child_a s r)
          (and_left (some_of kind.text (λ x. true) (child_a s r)) (some_of kind.text (λ x. true) (child_b s r)) h) in
          let b = test_some kind.text (λ x. true) (child_b s r)
          (and_right (some_of kind.text (λ x. true) (child_a s r)) (some_of kind.text (λ x. true) (child_b s r)) h) in
          text_twice a.0 b.0 (eqb-true _ _ w.0) a.1 a.2 b.1 b.2

  module _ (right : RowsRight strings s) where
    -- a pattern in which a row of the table occurs is a row of the table
    occurs_row : {x p k : ℕ} → Occurs s x p → kind_of s x ≡ k → k ≢ 0 → p < rows_of s
    occurs_row itself e f = in_table (right_size right) (λ z. f (sym e ∙ z))
    occurs_row (within g c o) e f = in_table (right_size right) (λ z. false≢true (sym (ap connective z) ∙ g))

    some_of_lem : (k : ℕ) (t : ℕ → Bool) {x p : ℕ} → k ≢ 0 → Occurs s x p
        → kind_of s x ≡ k → t x ≡ true → some_of k t p ≡ true
    some_of_lem k t {x} f o e h =
        occurs_test s (λ x. elim (eqb (kind_of s x) k) [ true ↦ t x | false ↦ false ]) (rows_of s)
        (occurs_row o e f) o (guarded (eqb (kind_of s x) k) (eq-eqb (kind_of s x) k e) h)

    shared_test_lem : (k : ℕ) (class : ℕ → ℕ) (r x y u l : ℕ) → k ≢ 0 → Occurs s x (child_a s r)
        → kind_of s x ≡ k → Occurs s y (child_b s r) → kind_of s y ≡ k
        → Common s (class x) (class y) u l → shared_test k class r ≡ true
    unfolding shared_test
    shared_test_lem k class r x y u l f o e p g m =
        some_of_lem k (λ x. some_of k (λ y. meet_test strings s (class x) (class y)) (child_b s r)) f o e
        (some_of_lem k (λ y. meet_test strings s (class x) (class y)) f p g
        (meet_test_lem strings s (class x) (class y) right u l m))

    infinite_test_lem : (c : ℕ) → Infinite s c → infinite_test c ≡ true
    infinite_test_lem c (of_wildcard e) = or_left (below_test s wildcard (rows_of s) c) e
    infinite_test_lem c (has_wildcard d b e) =
        or_right (wildcard c) (below_test_lem s wildcard (rows_of s) (let l = above_row s right b in omega arith) b e)

    pub attributes_right : (r : ℕ) → attributes_test r ≡ true → ¬ AttributeFault s r
    unfolding attributes_test
    attributes_right r pass f =
        go f (or_either (not (eqb (kind_of s r) kind.attribute)) (not (infinite_test (child_a s r))
        || some_below (repeats r) (rows_of s)) (and_right (not (duplicate_test r)) (finite_or_repeated r) pass))
      where
        go : AttributeFault s r → (not (eqb (kind_of s r) kind.attribute) ≡ true)
            ⊎ ((not (infinite_test (child_a s r)) || some_below (repeats r) (rows_of s)) ≡ true) → ⊥
        go (duplicate x y u l e o k p j m) h =
            no_of (and_left (not (duplicate_test r)) (finite_or_repeated r) pass) (guarded (sharing_kind (kind_of s r))
            e (shared_test_lem kind.attribute (child_a s) r x y u l (λ z. omega arith) o k p j m))
        go (not_repeated k i f) (inl h) = no_of h (eq-eqb _ _ k)
        go (not_repeated k i f) (inr h) =
            elim (or_either (not (infinite_test (child_a s r))) (some_below (repeats r) (rows_of s)) h) [
              | inl z ↦ no_of z (infinite_test_lem (child_a s r) i)
              | inr z ↦
                  let p = below_some (repeats r) (rows_of s) z in
                  let b = test_below s (eqb r) (rows_of s) p.0 (and_right (eqb (kind_of s p.0) kind.one_or_more)
                  (below_test s (eqb r) (rows_of s) p.0) p.2) in
                  f p.0 (eqb-true _ _
                  (and_left (eqb (kind_of s p.0) kind.one_or_more) (below_test s (eqb r) (rows_of s) p.0) p.2))
                  (subst (λ (q : ℕ). Below s q p.0) (sym (eqb-true r b.0 b.2)) b.1)
            ]

    pub interleave_right : (r : ℕ) → not (interleave_test r) ≡ true → ¬ InterleaveFault s r
    unfolding interleave_test
    interleave_right r pass (same_element x y u l e o k p j m) =
        no_of pass (guarded (eqb (kind_of s r) kind.interleave) (eq-eqb _ _ e)
        (or_left (texts_test r) (shared_test_lem kind.ref (class_referred s) r x y u l (λ z. omega arith) o k p j m)))
    interleave_right r pass (text_twice x y e o k p j) =
        no_of pass (guarded (eqb (kind_of s r) kind.interleave) (eq-eqb _ _ e)
        (or_right (shared_test kind.ref (class_referred s) r)
        (both_and (some_of_lem kind.text (λ x. true) (λ z. omega arith) o k refl)
        (some_of_lem kind.text (λ x. true) (λ z. omega arith) p j refl))))
