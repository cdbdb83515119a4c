-- Codes 2 to 5: tests whose success shows that no row is at fault.
use Prim.Native.Nat.{ℕ, ◌<◌, ◌%◌}
use mathlib.Core.Path.{◌≡◌, sym, ◌∙◌, ap}
use mathlib.Core.Bool.{Bool, true, not, ◌&&◌, ◌||◌, true≢false, false≢true}
use mathlib.Core.List.{List}
use native.Mathlib.Omega.{arith}
use lib.Dec.{eqb, ltb}
use lib.ListN.{length}
use borrow.Author.Tests.{eqb-true, eq-eqb, lt-ltb, ltb-true}
use Rattle.schema.specs.Kinds as kind
use Rattle.schema.specs.Rows.{rows_of, kind_of, shape_of}
use Rattle.schema.specs.Relations.{Child, by_a, by_b, Below, child, deeper}
use Rattle.schema.specs.RowRule.{max_rows, uses_before, row_right, SizeFault, without_row}
use Rattle.schema.specs.RowRule.{too_many_rows, broken_length, bad_size, bad_row, RowsRight}
use Rattle.schema.proofs.RowLaws.{in_table, right_size}
use Rattle.schema_places.specs.Places.{holds_whole, empty_fits, PlaceFault, not_allowed_inside, empty_inside}
use Rattle.schema_places.specs.Names.{NameFault, any_name_in_any_name, any_name_in_ns_name, ns_name_in_ns_name}
use Rattle.schema_places.specs.Paths.{sharing_kind, not_in_attribute, not_in_list, not_in_except, not_in_start}
use Rattle.schema_places.specs.Paths.{PathFault}
use Rattle.schema_places.specs.Paths.{in_attribute, in_repeated_sharing, in_list, in_except, in_start}
use Rattle.tables.proofs.Booleans.{or_left, or_right, and_left, and_right, both_and}
use Rattle.cases.proofs.Tests.{every_below, every_below_lem, no_of}
use Rattle.cases.proofs.DescentTests.{child_test, child_test_lem, below_test, below_test_lem}

module _ (strings : ℕ) (s : List ℕ) where
  -- code 2
  abbrev size_test : Bool
  size_test = ltb 0 (rows_of s) && (not (ltb max_rows (rows_of s)) && eqb (length s % 3) 0)

  abbrev row_test : ℕ → Bool
  row_test r = row_right strings s r (uses_before s r (rows_of s))

  unfoldable pub rows_test : Bool
  rows_test = size_test && every_below row_test (rows_of s)

  pub rows_right : rows_test ≡ true → RowsRight strings s
  unfolding rows_test
  rows_right pass r (bad_row f) =
      true≢false
      (sym (every_below_lem row_test (rows_of s) (and_right size_test (every_below row_test (rows_of s)) pass) r f.0)
      ∙ f.1)
  rows_right pass r (bad_size f) = go (and_left size_test (every_below row_test (rows_of s)) pass) f
    where
      go : size_test ≡ true → ¬ SizeFault s r
      go e (without_row f z) =
          let l = ltb-true 0 (rows_of s)
          (and_left (ltb 0 (rows_of s)) (not (ltb max_rows (rows_of s)) && eqb (length s % 3) 0) e) in
          omega arith
      go e (too_many_rows h z) =
          no_of (and_left (not (ltb max_rows (rows_of s))) (eqb (length s % 3) 0) (and_right (ltb 0 (rows_of s))
          (not (ltb max_rows (rows_of s)) && eqb (length s % 3) 0) e)) (lt-ltb max_rows (rows_of s) h)
      go e (broken_length f z) =
          f (eqb-true (length s % 3) 0 (and_right (not (ltb max_rows (rows_of s))) (eqb (length s % 3) 0)
          (and_right (ltb 0 (rows_of s)) (not (ltb max_rows (rows_of s)) && eqb (length s % 3) 0) e)))

-- a row of kind k may not stand below one of kind j: the name class constraint, and the prohibited paths but for the
-- one through two rows
abbrev pub prohibited_name : ℕ → ℕ → Bool
prohibited_name j k =
    eqb j kind.any_name && eqb k kind.any_name || eqb j kind.ns_name && (eqb k kind.any_name || eqb k kind.ns_name)

abbrev pub prohibited_path : ℕ → ℕ → Bool
prohibited_path j k =
    eqb j kind.attribute && not_in_attribute k
    || (eqb j kind.list && not_in_list k
    || (eqb j kind.«data» && not_in_except k || eqb j kind.start && not_in_start k))

-- no row has one below it that the test finds at odds with it
unfoldable pub none_below : List ℕ → (ℕ → ℕ → Bool) → Bool
none_below s t = every_below (λ p. not (below_test s (t p) (rows_of s) p)) (rows_of s)

module _ (s : List ℕ) where
  -- code 3
  abbrev misplaced : ℕ → ℕ → Bool
  misplaced p r =
      eqb (kind_of s r) kind.not_allowed && not (holds_whole (kind_of s p))
      || eqb (kind_of s r) kind.empty && not (empty_fits s p r)

  unfoldable pub places_test : Bool
  places_test = every_below (λ p. not (child_test s (misplaced p) p)) (rows_of s)

  -- code 4
  unfoldable pub names_test : Bool
  names_test = none_below s (λ p r. prohibited_name (kind_of s p) (kind_of s r))

  -- code 5
  abbrev paired_attribute : ℕ → Bool
  paired_attribute p = sharing_kind (kind_of s p) && below_test s (λ r. eqb (kind_of s r) kind.attribute) (rows_of s) p

  abbrev repeated_sharing : ℕ → ℕ → Bool
  repeated_sharing q p = eqb (kind_of s q) kind.one_or_more && paired_attribute p

  abbrev prohibited : ℕ → ℕ → Bool
  prohibited p r = prohibited_path (kind_of s p) (kind_of s r)

  unfoldable pub paths_test : Bool
  paths_test = none_below s prohibited && none_below s repeated_sharing

  no_child : {p r : ℕ} → Child s r p → ¬ (kind_of s p ≡ 0)
  unfolding shape_of
  no_child (by_a n e) z = false≢true (rw z at n)
  no_child (by_b n e) z = false≢true (rw z at n)

  module _ {strings : ℕ} (right : RowsRight strings s) where
    -- a row with a child is in the table
    parent_row : {p r : ℕ} → Child s r p → p < rows_of s
    parent_row c = in_table (right_size right) (no_child c)

    pub above_row : {r p : ℕ} → Below s r p → p < rows_of s
    above_row (child c) = parent_row c
    above_row (deeper c b) = parent_row c

    none_below_lem : (t : ℕ → ℕ → Bool) → none_below s t ≡ true → {r p : ℕ} → Below s r p → ¬ (t p r ≡ true)
    unfolding none_below
    none_below_lem t pass {r} {p} b h =
        let l = above_row b in
        no_of (every_below_lem (λ p. not (below_test s (t p) (rows_of s) p)) (rows_of s) pass p l)
        (below_test_lem s (t p) (rows_of s) (omega arith) b h)

    pub places_right : places_test ≡ true → (r : ℕ) → ¬ PlaceFault s r
    unfolding places_test
    places_right pass r f = go f
      where
        none : (p : ℕ) → Child s r p → ¬ (misplaced p r ≡ true)
        none p c h =
            no_of (every_below_lem (λ p. not (child_test s (misplaced p) p)) (rows_of s) pass p (parent_row c))
            (child_test_lem s (misplaced p) c h)

        go : ¬ PlaceFault s r
        go (not_allowed_inside p k c h) =
            none p c
            (or_left (eqb (kind_of s r) kind.empty && not (empty_fits s p r)) (both_and (eq-eqb _ _ k) (ap not h)))
        go (empty_inside p k c h) =
            none p c (or_right (eqb (kind_of s r) kind.not_allowed && not (holds_whole (kind_of s p)))
            (both_and (eq-eqb _ _ k) (ap not h)))

    pub names_right : names_test ≡ true → (r : ℕ) → ¬ NameFault s r
    unfolding names_test
    names_right pass r f = go f
      where
        none : (p : ℕ) → Below s r p → ¬ (prohibited_name (kind_of s p) (kind_of s r) ≡ true)
        none p b = none_below_lem (λ p r. prohibited_name (kind_of s p) (kind_of s r)) pass b

        go : ¬ NameFault s r
        go (any_name_in_any_name p k j b) = none p b (rw (k, j))
        go (any_name_in_ns_name p k j b) = none p b (rw (k, j))
        go (ns_name_in_ns_name p k j b) = none p b (rw (k, j))

    pub paths_right : paths_test ≡ true → (r : ℕ) → ¬ PathFault s r
    unfolding paths_test
    paths_right pass r f = go f
      where
        none : (p : ℕ) → Below s r p → ¬ (prohibited p r ≡ true)
        none p b = none_below_lem prohibited (and_left (none_below s prohibited) (none_below s repeated_sharing) pass) b

        go : ¬ PathFault s r
        go (in_attribute p h k b) = none p b (rw (k, h))
        go (in_list p h k b) = none p b (rw (k, h))
        go (in_except p h k b) = none p b (rw (k, h))
        go (in_start p h k b) = none p b (rw (k, h))
        go (in_repeated_sharing p q k h b i c) =
            let l = above_row b in
            none_below_lem repeated_sharing (and_right (none_below s prohibited) (none_below s repeated_sharing) pass) c
            (both_and (eq-eqb _ _ i) (both_and h
            (below_test_lem s (λ r. eqb (kind_of s r) kind.attribute) (rows_of s) (omega arith) b (eq-eqb _ _ k))))
