-- Codes 9 and 10: tests whose success shows that the instance rows keep their rule, and that no element is too wide.
use Prim.Native.Nat.{ℕ, zero, suc, ◌<◌, ◌%◌}
use mathlib.Core.Path.{◌≡◌, refl, sym, ◌∙◌}
use mathlib.Core.Bool.{Bool, true, false, not, ◌&&◌, true≢false, false≢true}
use mathlib.Core.List.{List}
use native.Mathlib.Omega.{arith}
use lib.Dec.{eqb, ltb}
use lib.ListN.{length}
use borrow.Author.Tests.{eqb-true, eqb-false, eq-eqb, lt-ltb, ltb-true}
use Rattle.instance.specs.Nodes.{element, attribute, text, no_parent, nodes_of, kind_of}
use Rattle.instance.specs.Nodes.{parent_of, a_of, b_of, c_of, is_child, is_attribute}
use Rattle.instance.specs.NodeRule.{max_nodes, fields_right, nearest, SelfOrAncestor, itself, above}
use Rattle.instance.specs.NodeRule.{ParentRight, NodeSizeFault, no_node, too_many_nodes}
use Rattle.instance.specs.NodeRule.{broken_length, WrongNode, bad_fields, bad_parent, late_attribute}
use Rattle.instance.specs.NodeRule.{same_attribute, text_after_text, bad_size, bad_node, NodesRight}
use Rattle.instance.specs.Width.{max_width, how_many, WidthFault, many_attributes, many_children}
use Rattle.tables.proofs.Booleans.{and_left, and_right, both_and}
use Rattle.cases.proofs.Tests.{every_below, every_below_lem, below_every, no_of}

module _ (strings : ℕ) (t : List ℕ) where
  abbrev count_test : Bool
  count_test = not (ltb max_nodes (nodes_of t)) && eqb (length t % 5) 0

  abbrev size_test : Bool
  size_test = ltb 0 (nodes_of t) && count_test

  -- q is e or an ancestor of e, at most n steps up
  unfoldable pub up_test : ℕ → ℕ → ℕ → Bool
  up_test zero q e = eqb q e
  up_test (suc n) q e =
      elim (eqb q e) [
        | true ↦ true
        | false ↦ elim (eqb e no_parent) [ true ↦ false | false ↦ up_test n q (parent_of t e) ]
      ]

  up_test_lem : (n q e : ℕ) → up_test n q e ≡ true → SelfOrAncestor t q e
  unfolding up_test
  up_test_lem zero q e h = rw (eqb-true q e h) itself
  up_test_lem (suc n) q e h = go (eqb q e) refl (eqb e no_parent) refl h (up_test_lem n q (parent_of t e))
    where
      go : (a : Bool) → eqb q e ≡ a → (b : Bool) → eqb e no_parent ≡ b
          → elim a [ true ↦ true | false ↦ elim b [ true ↦ false | false ↦ up_test n q (parent_of t e) ] ] ≡ true
          → (up_test n q (parent_of t e) ≡ true → SelfOrAncestor t q (parent_of t e)) → SelfOrAncestor t q e
      go true f b g h rest = rw (eqb-true q e f) itself
      go false f true g h rest = absurd (false≢true h)
      go false f false g h rest = above (eqb-false e no_parent g) (rest h)

  unfoldable pub parent_test : ℕ → Bool
  parent_test zero = eqb (kind_of t 0) element && eqb (parent_of t 0) no_parent
  parent_test (suc r) =
      not (eqb (parent_of t (suc r)) no_parent) && up_test (nodes_of t) (parent_of t (suc r)) (nearest t r)

  parent_test_lem : (r : ℕ) → parent_test r ≡ true → ParentRight t r
  unfolding parent_test ParentRight
  parent_test_lem zero h = (
    eqb-true (kind_of t 0) element (and_left (eqb (kind_of t 0) element) (eqb (parent_of t 0) no_parent) h),
    eqb-true (parent_of t 0) no_parent (and_right (eqb (kind_of t 0) element) (eqb (parent_of t 0) no_parent) h),
  )
  parent_test_lem (suc r) h = (
    λ e. no_of (and_left (not (eqb (parent_of t (suc r)) no_parent))
        (up_test (nodes_of t) (parent_of t (suc r)) (nearest t r)) h) (eq-eqb (parent_of t (suc r)) no_parent e),
    up_test_lem (nodes_of t) (parent_of t (suc r)) (nearest t r)
        (and_right (not (eqb (parent_of t (suc r)) no_parent))
        (up_test (nodes_of t) (parent_of t (suc r)) (nearest t r)) h),
  )

  -- row r is at odds with an earlier row q
  abbrev late_test : ℕ → ℕ → Bool
  late_test r q = eqb (kind_of t r) attribute && is_child t (parent_of t r) q

  abbrev twin_test : ℕ → ℕ → Bool
  twin_test r q =
      (eqb (kind_of t r) attribute && is_attribute t (parent_of t r) q)
      && (eqb (a_of t q) (a_of t r) && eqb (b_of t q) (b_of t r))

  abbrev none_between : ℕ → ℕ → Bool
  none_between r q = every_below (λ x. not (ltb q x && is_child t (parent_of t r) x)) r

  abbrev texts_test : ℕ → ℕ → Bool
  texts_test r q =
      (eqb (kind_of t r) text && eqb (kind_of t q) text) && (eqb (parent_of t q) (parent_of t r) && none_between r q)

  abbrev earlier_test : ℕ → ℕ → Bool
  earlier_test r q = not (late_test r q) && (not (twin_test r q) && not (texts_test r q))

  abbrev fields_test : ℕ → Bool
  fields_test r = fields_right strings (kind_of t r) (a_of t r) (b_of t r) (c_of t r)

  abbrev place_test : ℕ → Bool
  place_test r = parent_test r && every_below (earlier_test r) r

  abbrev node_test : ℕ → Bool
  node_test r = fields_test r && place_test r

  unfoldable pub nodes_test : Bool
  nodes_test = size_test && every_below node_test (nodes_of t)

  module _ (pass : nodes_test ≡ true) where
    size : size_test ≡ true
    unfolding nodes_test
    size = and_left size_test (every_below node_test (nodes_of t)) pass

    node : (r : ℕ) → r < nodes_of t → node_test r ≡ true
    unfolding nodes_test
    node = every_below_lem node_test (nodes_of t) (and_right size_test (every_below node_test (nodes_of t)) pass)

    size_right : (r : ℕ) → ¬ NodeSizeFault t r
    size_right r (no_node e z) =
        let l = ltb-true 0 (nodes_of t) (and_left (ltb 0 (nodes_of t)) count_test size) in
        omega arith
    size_right r (too_many_nodes h z) =
        no_of (and_left (not (ltb max_nodes (nodes_of t))) (eqb (length t % 5) 0)
        (and_right (ltb 0 (nodes_of t)) count_test size)) (lt-ltb max_nodes (nodes_of t) h)
    size_right r (broken_length f z) =
        f (eqb-true (length t % 5) 0 (and_right (not (ltb max_nodes (nodes_of t)))
        (eqb (length t % 5) 0) (and_right (ltb 0 (nodes_of t)) count_test size)))

    module _ (r : ℕ) (l : r < nodes_of t) where
      place : place_test r ≡ true
      place = and_right (fields_test r) (place_test r) (node r l)

      earlier : (q : ℕ) → q < r → earlier_test r q ≡ true
      earlier = every_below_lem (earlier_test r) r (and_right (parent_test r) (every_below (earlier_test r) r) place)

      no_pair : (q : ℕ) → q < r → (not (twin_test r q) && not (texts_test r q)) ≡ true
      no_pair q h = and_right (not (late_test r q)) (not (twin_test r q) && not (texts_test r q)) (earlier q h)

      node_right : ¬ WrongNode strings t r
      node_right (bad_fields e) = true≢false (sym (and_left (fields_test r) (place_test r) (node r l)) ∙ e)
      node_right (bad_parent f) =
          f (parent_test_lem r (and_left (parent_test r) (every_below (earlier_test r) r) place))
      node_right (late_attribute q h k c) =
          no_of (and_left (not (late_test r q)) (not (twin_test r q) && not (texts_test r q)) (earlier q h))
          (both_and (eq-eqb _ _ k) c)
      node_right (same_attribute q h k c e) =
          no_of (and_left (not (twin_test r q)) (not (texts_test r q)) (no_pair q h))
          (both_and (both_and (eq-eqb _ _ k) c) (both_and (eq-eqb _ _ e.0) (eq-eqb _ _ e.1)))
      node_right (text_after_text q h k j e f) =
          no_of (and_right (not (twin_test r q)) (not (texts_test r q)) (no_pair q h))
          (both_and (both_and (eq-eqb _ _ k) (eq-eqb _ _ j))
          (both_and (eq-eqb _ _ e) (below_every (λ x. not (ltb q x && is_child t (parent_of t r) x)) r between)))
        where
          between : (x : ℕ) → x < r → not (ltb q x && is_child t (parent_of t r) x) ≡ true
          between x i = go (ltb q x) refl
            where
              go : (b : Bool) → ltb q x ≡ b → not (b && is_child t (parent_of t r) x) ≡ true
              go true g = rw (f x (ltb-true q x g) i)
              go false g = refl

    pub nodes_right : NodesRight strings t
    nodes_right r (bad_size f) = size_right r f
    nodes_right r (bad_node l f) = node_right r l f

  abbrev narrow : ℕ → Bool
  narrow e =
      not (ltb max_width (how_many (is_attribute t e) (nodes_of t)))
      && not (ltb max_width (how_many (is_child t e) (nodes_of t)))

  unfoldable pub width_test : Bool
  width_test = every_below narrow (nodes_of t)

  pub not_wide : width_test ≡ true → (e : ℕ) → ¬ WidthFault t e
  unfolding width_test
  not_wide pass e (many_attributes l k h) =
      no_of (and_left (not (ltb max_width (how_many (is_attribute t e) (nodes_of t))))
      (not (ltb max_width (how_many (is_child t e) (nodes_of t)))) (every_below_lem narrow (nodes_of t) pass e l))
      (lt-ltb max_width (how_many (is_attribute t e) (nodes_of t)) h)
  not_wide pass e (many_children l k h) =
      no_of (and_right (not (ltb max_width (how_many (is_attribute t e) (nodes_of t))))
      (not (ltb max_width (how_many (is_child t e) (nodes_of t)))) (every_below_lem narrow (nodes_of t) pass e l))
      (lt-ltb max_width (how_many (is_child t e) (nodes_of t)) h)
