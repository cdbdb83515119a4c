-- The word of a leaf: the strings that it matches alone, the elements that it is paired with, the attributes that it
-- takes.
use mathlib.Core.Path.{◌≡◌, refl, sym, subst}
use mathlib.Core.Logic.{◌⊎◌, inl, inr, ◌↔◌, ◌≢◌, ⊎_elim}
use mathlib.Core.Bool.{Bool, true, false, cond, not, ◌&&◌, false≢true}
use mathlib.Core.List.{List, [], ◌∷◌}
use Prim.Native.Nat.{ℕ, suc, ◌≤◌, ◌<◌}
use native.Mathlib.Omega.{arith}
use lib.Bits.{bit_and}
use lib.Dec.{eqb}
use lib.ListN.{length, get_or}
use borrow.Author.Tests.{eqb-true, eq-eqb}
use Rattle.tables.specs.Tables.{Tables}
use Rattle.strings.specs.Strings.{text_of, instance_strings}
use Rattle.datatypes.specs.Whitespace.{whitespace}
use Rattle.schema.specs.Kinds as kind
use Rattle.schema.specs.Rows.{rows_of, kind_of, a_of, b_of}
use Rattle.schema.specs.Views.{Pattern, pattern_of}
use Rattle.instance.specs.Nodes as node
use Rattle.sets.specs.Bits.{bit}
use Rattle.sets.proofs.Bits.{bit-and}
use Rattle.sets.specs.Collecting.{Collects}
use Rattle.sets.proofs.Collecting.{collected}
use Rattle.schema.proofs.Patterns.{attribute_at, ref_at}
use Rattle.matching_rules.specs.Items.{element, string, no_attributes, Lookups}
use Rattle.matching_rules.specs.Rules.{Match, WeakMatch, NotMatchBy, text_1, text_2}
use Rattle.matching_rules.specs.Job.{lookups}
use Rattle.tables.proofs.Booleans.{or_either, or_left, or_right, and_left, and_right, both_and}
use Rattle.matching_rules.proofs.OneElement.{weak_string}
use Rattle.matching_rules.proofs.Passing.{restricted}
use Rattle.matching_rules.specs.Reach.{Subpattern, of_attribute}
use Rattle.matching_rules.proofs.RowPatterns.{row_makes}
use Rattle.matching_alone.specs.Alone.{entry}
use Rattle.matching_marks.specs.Given.{item_at, pair_entry, Given}
use Rattle.matching_marks.specs.Marks.{attribute_row, Takes, IsPaired, TakesAttribute, LeafWord}
use Rattle.matching_marks.specs.Tests.{has_name, value_fits, string_alone}
use Rattle.matching_marks.specs.Tests.{element_paired, attribute_named, attribute_fits}
use Rattle.matching_marks.proofs.RowKinds.{StringPattern, of_text, of_string, string_made}
use Rattle.matching_marks.proofs.RowKinds.{taker_kinds, from_attribute, ref_row}

-- an entry is 1 exactly where its test says so
pub entry_test : {A : Type 0} (n : ℕ) → (n ≡ 1) ↔ A → (eqb n 1 ≡ true) ↔ A
entry_test n f = (λ e. f.0 (eqb-true n 1 e), λ a. eq-eqb n 1 (f.1 a))

module _ (L : Lookups) where
  abbrev NotMatch : List ℕ → ℕ → Type 0
  NotMatch = NotMatchBy L L.rows

  -- a string alone matches a pattern that takes strings as Takes says; no element is taken
  pub string_takes : {x : Pattern} → StringPattern x → (v : List ℕ)
      → Match L NotMatch no_attributes (string v ∷ []) x ↔ Takes L x (string v)
  string_takes of_text v = (λ d. tt, λ u. text_2 v text_1)
  string_takes (of_string e) v = rw e (λ d. d, λ d. d)

  pub element_not_taken : {x : Pattern} → StringPattern x → (e : ℕ) → ¬ Takes L x (element e)
  element_not_taken of_text e z = z
  element_not_taken (of_string i) e z = rw i at z

module _ {J : Tables} {alone nothing blank pairs items : List ℕ} {e attributes texts : ℕ}
    (g : Given J alone nothing blank pairs items e attributes texts) where
  abbrev s : List ℕ
  s = J.schema

  abbrev t : List ℕ
  t = J.instance

  abbrev L : Lookups
  L = lookups J

  abbrev Not : List ℕ → ℕ → Type 0
  Not = NotMatchBy L (rows_of s)

  abbrev Leaf : ℕ → ℕ → Type 0
  Leaf = LeafWord J e attributes (item_at J.strings items texts) (length items)

  -- the weak matches of an attribute's value
  value_fits_lem : (q v : ℕ) → q < rows_of s → v < instance_strings J.strings
      → (value_fits alone nothing blank q v ≡ true)
      ↔ WeakMatch L Not no_attributes (string (text_of J.strings v) ∷ []) (pattern_of s q)
  value_fits_lem q v h l = (to, from)
    where
      weakly : WeakMatch L Not no_attributes (string (text_of J.strings v) ∷ []) (pattern_of s q)
          ↔ (Match L Not no_attributes (string (text_of J.strings v) ∷ []) (pattern_of s q)
          ⊎ ((whitespace (text_of J.strings v) ≡ true) × Match L Not no_attributes [] (pattern_of s q)))
      weakly = weak_string L Not no_attributes (pattern_of s q) (text_of J.strings v)

      by_string : (eqb (entry alone q v) 1 ≡ true)
          ↔ Match L Not no_attributes (string (text_of J.strings v) ∷ []) (pattern_of s q)
      by_string = entry_test (entry alone q v) (g.alone_right.strings t q v h l)

      is_blank : (eqb (get_or blank v 0) 1 ≡ true) ↔ (whitespace (text_of J.strings v) ≡ true)
      is_blank = entry_test (get_or blank v 0) (g.blank_right v l)

      by_nothing : (eqb (get_or nothing q 0) 1 ≡ true) ↔ Match L Not no_attributes [] (pattern_of s q)
      by_nothing = entry_test (get_or nothing q 0) (g.alone_right.empty t q h)

      to : value_fits alone nothing blank q v ≡ true
          → WeakMatch L Not no_attributes (string (text_of J.strings v) ∷ []) (pattern_of s q)
      to u =
          weakly.1
          (⊎_elim (λ i. inl (by_string.0 i))
          (λ i. inr (
            is_blank.0 (and_left (eqb (get_or blank v 0) 1) (eqb (get_or nothing q 0) 1) i),
            by_nothing.0 (and_right (eqb (get_or blank v 0) 1) (eqb (get_or nothing q 0) 1) i),
          ))
          (or_either (eqb (entry alone q v) 1) (eqb (get_or blank v 0) 1 && eqb (get_or nothing q 0) 1) u))

      from : WeakMatch L Not no_attributes (string (text_of J.strings v) ∷ []) (pattern_of s q)
          → value_fits alone nothing blank q v ≡ true
      from w =
          ⊎_elim (λ d. or_left (eqb (get_or blank v 0) 1 && eqb (get_or nothing q 0) 1) (by_string.1 d))
          (λ d. or_right (eqb (entry alone q v) 1) (both_and (is_blank.1 d.0) (by_nothing.1 d.1)))
          (weakly.0 w)

  module _ (p : ℕ) (row : p < rows_of s) where
    pub leaf_strings : {w : ℕ} → kind.text ≤ kind_of s p → kind_of s p < suc kind.list
        → Collects (string_alone alone items texts p) (length items) w → Leaf p w
    leaf_strings h l c = record {
      leaves = λ k i any. rw (collected c i) (by_item k i (bit texts k) refl);
      attribute_leaves = λ nc q x f. absurd (omega (arith, (from_attribute (row_makes s p f)).0));
    }
      where
        is_string : StringPattern (pattern_of s p)
        is_string = string_made h l (row_makes s p refl)

        by_item : (k : ℕ) → k < length items → (b : Bool) → bit texts k ≡ b
            → ((b && eqb (entry alone p (get_or items k 0)) 1) ≡ true) ↔ Takes L (pattern_of s p)
            (cond b (string (text_of J.strings (get_or items k 0))) (element (get_or items k 0)))
        by_item k i true f =
            let y = entry_test (entry alone p (get_or items k 0))
            (g.alone_right.strings t p (get_or items k 0) row (g.strings k i f)) in
            let z = string_takes L is_string (text_of J.strings (get_or items k 0)) in
            (λ u. z.0 (y.0 u), λ u. y.1 (z.1 u))
        by_item k i false f =
            (λ u. absurd (false≢true u), λ u. absurd (element_not_taken L is_string (get_or items k 0) u))

    pub leaf_ref : {w : ℕ} → kind_of s p ≡ kind.ref
        → Collects (element_paired pairs items texts (a_of s p)) (length items) w → Leaf p w
    leaf_ref f c = record {
      leaves = λ k i any. rw (collected c i, ref_at s p f) (by_item k i (bit texts k) refl);
      attribute_leaves = λ nc q x h. absurd (omega (arith, (from_attribute (row_makes s p h)).0));
    }
      where
        by_item : (k : ℕ) → k < length items → (b : Bool) → bit texts k ≡ b
            → ((not b && eqb (pair_entry pairs (get_or items k 0) (a_of s p)) 1) ≡ true) ↔ IsPaired L (a_of s p)
            (cond b (string (text_of J.strings (get_or items k 0))) (element (get_or items k 0)))
        by_item k i true h = (λ u. absurd (false≢true u), λ u. absurd u)
        by_item k i false h =
            entry_test (pair_entry pairs (get_or items k 0) (a_of s p))
            (g.elements k (a_of s p) i h (ref_row g.passes.rows p f))

    pub leaf_attribute : {a b v w : ℕ} → kind_of s p ≡ kind.attribute → a ≡ a_of s p
        → b ≡ b_of s p → Collects (attribute_named s t e a) attributes v
        → Collects (attribute_fits t alone nothing blank e b) attributes w
        → Leaf p (bit_and v w)
    leaf_attribute {v = v} {w} f y z c d = record {
      leaves = λ k i any. absurd (false≢true (rw (attribute_at s p f) at any));
      attribute_leaves = λ nc q x h i. let m = from_attribute (row_makes s p h) in
          rw (bit-and v w x, collected c i, collected d i, y, z, ← m.1, ← m.2) (by_value x i);
    }
      where
        below : b_of s p < rows_of s
        below =
            let l = (restricted J g.passes).falls p (b_of s p)
            (subst (Subpattern (b_of s p)) (sym (attribute_at s p f)) of_attribute) in
            omega arith

        by_value : (x : ℕ) → x < attributes
            → ((has_name s t (a_of s p) (attribute_row e x) && value_fits alone nothing blank (b_of s p)
            (node.c_of t (attribute_row e x))) ≡ true) ↔ TakesAttribute L (a_of s p) (b_of s p) (attribute_row e x)
        by_value x i =
            let n = has_name s t (a_of s p) (attribute_row e x) in
            let v = value_fits alone nothing blank (b_of s p) (node.c_of t (attribute_row e x)) in
            let y = value_fits_lem (b_of s p) (node.c_of t (attribute_row e x)) below (g.values x i) in (
              λ u. record { named = and_left n v u; valued = y.0 (and_right n v u) },
              λ d. both_and d.named (y.1 d.valued),
            )

    pub leaf_none : (kind.text ≤ kind_of s p → ¬ (kind_of s p < suc kind.list))
        → kind_of s p ≢ kind.attribute → kind_of s p ≢ kind.ref → Leaf p 0
    leaf_none no_string no_attribute no_ref = record {
      leaves = λ k i any. absurd (⊎_elim (λ h. no_string h.0 h.1) no_ref (taker_kinds (row_makes s p refl) any));
      attribute_leaves = λ nc q x h. absurd (no_attribute (from_attribute (row_makes s p h)).0);
    }
