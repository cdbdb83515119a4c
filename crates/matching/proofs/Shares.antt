-- Attributes and items of an element as words: no member, one member, and the part that a word has or has not; and the
-- rows that the tables cover.
use Prim.Native.Nat.{ℕ, suc, ◌+◌, ◌-◌, ◌^◌, ◌<◌}
use mathlib.Core.Path.{◌≡◌, sym, ap, ◌∙◌, fun_ext, subst}
use mathlib.Core.Bool.{Bool, true, not, ◌&&◌, and_assoc, and-false}
use mathlib.Core.List.{List}
use native.Mathlib.Omega.{arith}
use lib.Bits.{bit_and}
use lib.Dec.{ltb}
use borrow.Author.Tests.{ltb-true, lt-ltb}
use Rattle.schema.specs.Relations.{itself}
use Rattle.schema.specs.Views.{Pattern, pattern_of}
use Rattle.sets.specs.Bits.{bit}
use Rattle.sets.proofs.Bits.{bit-and, bit_without, bit_none, bit_empty}
use Rattle.matching_rules.specs.Items.{Attributes, no_attributes}
use Rattle.matching_rules.specs.Job.{lookups}
use Rattle.tables.proofs.Booleans.{and_left, and_right, both_and}
use Rattle.matching_rules.proofs.Booleans.{◌∩◌, ◌∖◌}
use Rattle.matching_rules.proofs.Occurrences.{clean_part}
use Rattle.matching_rules.specs.Reach.{Operand}
use Rattle.matching_rules.proofs.Repeats.{distinct_part}
use Rattle.matching_rules.proofs.RowPatterns.{operand_occurs}
use Rattle.matching_marks.specs.Marks.{attribute_row, attributes_in, RowMarked}
use Rattle.matching.specs.Setting.{Setting, tables_in, Asked, Covered}

-- ---- the members of a word

pub bits_both : (a b : ℕ) → bit (bit_and a b) ≡ bit a ∩ bit b
bits_both a b = fun_ext (bit-and a b)

pub bits_without : (a b : ℕ) → a < 2 ^ 64 → b < 2 ^ 64 → bit (bit_and a (2 ^ 64 - 1 - b)) ≡ bit a ∖ bit b
bits_without a b ha hb = fun_ext (λ x. bit_without 64 a b x ha hb)

-- ---- the attributes of element e

module _ (e : ℕ) where
  -- the number of the attribute at an instance row
  abbrev pub number_of : ℕ → ℕ
  number_of r = r - suc e

  -- whether a word has the attribute at a row
  abbrev pub has_row : ℕ → ℕ → Bool
  has_row b r = bit b (number_of r)

  pub in_row : (a r : ℕ) → attributes_in e a r ≡ true → (attribute_row e (number_of r) ≡ r)
      × (bit a (number_of r) ≡ true)
  in_row a r h =
      let l = ltb-true e r (and_left (ltb e r) (bit a (number_of r)) h) in
      (omega arith, and_right (ltb e r) (bit a (number_of r)) h)

  pub row_in : (a x : ℕ) → attributes_in e a (attribute_row e x) ≡ bit a x
  row_in a x = let z : suc e + x - suc e ≡ x = omega arith in rw (lt-ltb e (suc e + x) (omega arith), z)

  pub attributes_both : (a b : ℕ) → attributes_in e (bit_and a b) ≡ attributes_in e a ∩ has_row b
  attributes_both a b =
      fun_ext (λ r. ap (λ (x : Bool). ltb e r && x) (bit-and a b (number_of r))
      ∙ sym (and_assoc (ltb e r) (bit a (number_of r)) (bit b (number_of r))))

  pub attributes_without : (a b : ℕ) → a < 2 ^ 64 → b < 2 ^ 64
      → attributes_in e (bit_and a (2 ^ 64 - 1 - b)) ≡ attributes_in e a ∖ has_row b
  attributes_without a b ha hb =
      fun_ext (λ r. ap (λ (x : Bool). ltb e r && x) (bit_without 64 a b (number_of r) ha hb)
      ∙ sym (and_assoc (ltb e r) (bit a (number_of r)) (not (bit b (number_of r)))))

  pub no_attributes_lem : attributes_in e 0 ≡ no_attributes
  no_attributes_lem = fun_ext (λ r. ap (λ (x : Bool). ltb e r && x) (bit_none (number_of r)) ∙ and-false (ltb e r))

  pub attributes_none : (a : ℕ) → attributes_in e a ≡ no_attributes → a ≡ 0
  attributes_none a f = (bit_empty a).0 (λ x. sym (row_in a x) ∙ ap (λ (A : Attributes). A (attribute_row e x)) f)

-- ---- the rows that the tables cover

module _ {s : List ℕ} (S : Setting s) {marks named taken single : List ℕ}
    {p : ℕ} (covered : Covered S marks named taken single p) where
  pub row_covered : RowMarked (tables_in S) S.element S.attributes S.it S.items marks named taken single p
  row_covered = covered.rows p itself

  pub operand_covered : {q : ℕ} {x : Pattern} → pattern_of s p ≡ x → Operand q x → Covered S marks named taken single q
  operand_covered {q} e o =
      record { rows = λ r i. covered.rows r (operand_occurs S.passes.rows (subst (Operand q) (sym e) o) i) }

-- ---- what is asked of a and k holds of their parts

module _ {s : List ℕ} (S : Setting s) {a k : ℕ} (asked : Asked S a k) where
  pub asked_part : {b l : ℕ} → ((x : ℕ) → bit b x ≡ true → bit a x ≡ true)
      → ((x : ℕ) → bit l x ≡ true → bit k x ≡ true) → Asked S b l
  asked_part {b} {l} f g = record {
    of_attributes = λ x h. asked.of_attributes x (f x h);
    of_items = λ x h. asked.of_items x (g x h);
    distinct = distinct_part (lookups (tables_in S)) (attributes_in S.element a)
        (attributes_in S.element b) wider asked.distinct;
    clean = clean_part (lookups (tables_in S)) S.it (bit k) (bit l) g asked.clean;
  }
    where
      wider : (r : ℕ) → attributes_in S.element b r ≡ true → attributes_in S.element a r ≡ true
      wider r h =
          both_and (and_left (ltb S.element r) (has_row S.element b r) h)
          (f (number_of S.element r) (in_row S.element b r h).1)
