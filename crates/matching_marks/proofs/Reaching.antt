-- The words of what a row's pattern reaches: the attributes that are named, and the items that are taken.
use mathlib.Core.Path.{◌≡◌, refl, sym, ◌∙◌, ap}
use mathlib.Core.Logic.{◌↔◌, ◌≢◌}
use mathlib.Core.Bool.{Bool, true, false, cond, not, ◌&&◌}
use mathlib.Core.List.{List}
use Prim.Native.Nat.{ℕ, suc, ◌≤◌, ◌<◌}
use native.Mathlib.Omega.{arith}
use lib.ListN.{length, get_or}
use Rattle.tables.specs.Tables.{Tables}
use Rattle.strings.specs.Strings.{text_of, schema_strings}
use Rattle.schema.specs.Kinds as kind
use Rattle.schema.specs.Rows.{kind_of, a_of, b_of}
use Rattle.schema.specs.Views.{Pattern, pattern_of}
use Rattle.schema.proofs.Patterns.{attribute_at, ref_at}
use Rattle.schema_restrictions.specs.Schema.{SchemaPasses}
use Rattle.sets.specs.Bits.{bit}
use Rattle.sets.specs.Collecting.{Collects}
use Rattle.sets.proofs.Collecting.{collected}
use Rattle.matching_rules.specs.Items.{Item, element, string, Lookups}
use Rattle.matching_rules.specs.Job.{lookups}
use Rattle.tables.proofs.Booleans.{is_false}
use Rattle.matching_rules.proofs.KindTests.{attribute_made, ref_made}
use Rattle.matching_rules.specs.Reach.{string_by, element_by, Reaches, here}
use Rattle.matching_rules.specs.Reach.{names_attribute, names_element, takes, takes_string}
use Rattle.matching_rules.proofs.RowPatterns.{Makes, row_makes}
use Rattle.matching_marks.specs.Answers.{AtOperands}
use Rattle.matching_marks.specs.Given.{item_at}
use Rattle.matching_marks.specs.Marks.{attribute_row, NamedWord, TakenWord}
use Rattle.matching_marks.specs.Tests.{has_name, element_named, attribute_named, joined_by}
use Rattle.matching_marks.proofs.Operands.{reaches_itself, joined_reaches}
use Rattle.matching_marks.proofs.RowKinds.{StringPattern, of_text, of_string, string_made}
use Rattle.matching_marks.proofs.RowKinds.{string_kinds, operand_kinds, ref_definition}

-- a pattern that takes strings names no element
string_taken : {x : Pattern} → StringPattern x → takes_string x ≡ true
string_taken of_text = refl
string_taken (of_string e) = ap string_by e

string_no_name : (L : Lookups) (e : ℕ) {x : Pattern} → StringPattern x → names_element L e x ≡ false
string_no_name L e of_text = refl
string_no_name L e (of_string i) = ap (element_by L e) i

-- a row of another kind takes no item
other_takes : (L : Lookups) {k a b : ℕ} {x : Pattern} → Makes k a b x
    → (kind.text ≤ k → ¬ (k < suc kind.list)) → k ≢ kind.ref → (y : Item) → takes L y x ≡ false
other_takes L {x = x} m no_string no_ref (element u) = is_false (names_element L u x) (λ h. no_ref (ref_made L u m h).0)
other_takes L {x = x} m no_string no_ref (string v) =
    is_false (takes_string x) (λ h. let i = string_kinds m h in no_string i.0 i.1)

module _ (J : Tables) (pass : SchemaPasses (schema_strings J.strings) J.schema) (p : ℕ) where
  abbrev s : List ℕ
  s = J.schema

  abbrev t : List ℕ
  t = J.instance

  abbrev L : Lookups
  L = lookups J

  -- a leaf reaches itself alone
  leaf_reaches : {test : Pattern → Bool} {b : Bool} → kind_of s p < kind.one_or_more
      → test (pattern_of s p) ≡ b → (b ≡ true) ↔ Reaches L test (pattern_of s p)
  leaf_reaches h f = (
    λ u. here (f ∙ u),
    λ i. sym f ∙ reaches_itself L (λ r o. let k = (operand_kinds o (row_makes s p refl)).0 in omega arith) i,
  )

  module _ (e attributes : ℕ) where
    abbrev Named : ℕ → ℕ → Type 0
    Named = NamedWord J e attributes

    pub named_attribute : {w : ℕ} → kind_of s p ≡ kind.attribute
        → Collects (attribute_named s t e (a_of s p)) attributes w → Named p w
    named_attribute f c x h =
        rw (collected c h)
        (leaf_reaches (omega arith) (ap (names_attribute L (attribute_row e x)) (attribute_at s p f)))

    pub named_other : {w : ℕ} (named : List ℕ) → kind_of s p ≢ kind.attribute → w ≡ joined_by (kind_of s p)
        (get_or named (a_of s p) 0) (get_or named (b_of s p) 0) → AtOperands s Named named p → Named p w
    named_other named f k operands x h =
        let u = attribute_row e x in
        let m = row_makes s p refl in
        rw k (joined_reaches L named x m (is_false (names_attribute L u (pattern_of s p))
        (λ i. f (attribute_made L u m i).0)) (λ r o. operands r o x h))

  module _ (items : List ℕ) (texts : ℕ) where
    abbrev Taken : ℕ → ℕ → Type 0
    Taken = TakenWord J (item_at J.strings items texts) (length items)

    pub taken_strings : kind.text ≤ kind_of s p → kind_of s p < suc kind.list → Taken p texts
    taken_strings h l k i = leaf_reaches (omega arith) (by_item (bit texts k))
      where
        is_string : StringPattern (pattern_of s p)
        is_string = string_made h l (row_makes s p refl)

        by_item : (b : Bool) → takes L
            (cond b (string (text_of J.strings (get_or items k 0))) (element (get_or items k 0))) (pattern_of s p) ≡ b
        by_item true = string_taken is_string
        by_item false = string_no_name L (get_or items k 0) is_string

    pub taken_ref : {w : ℕ} → kind_of s p ≡ kind.ref
        → Collects (element_named s t items texts (a_of s (a_of s p))) (length items) w → Taken p w
    taken_ref f c k i = rw (collected c i) (leaf_reaches (omega arith) (by_item (bit texts k)))
      where
        by_item : (b : Bool) → takes L (cond b (string (text_of J.strings (get_or items k 0)))
            (element (get_or items k 0))) (pattern_of s p)
            ≡ (not b && has_name s t (a_of s (a_of s p)) (get_or items k 0))
        by_item true = rw (ref_at s p f)
        by_item false = rw (ref_at s p f, ref_definition pass.rows p f)

    pub taken_other : {w : ℕ} (taken : List ℕ)
        → (kind.text ≤ kind_of s p → ¬ (kind_of s p < suc kind.list)) → kind_of s p ≢ kind.ref
        → w ≡ joined_by (kind_of s p) (get_or taken (a_of s p) 0) (get_or taken (b_of s p) 0)
        → AtOperands s Taken taken p → Taken p w
    taken_other taken no_string no_ref q operands k h =
        let m = row_makes s p refl in
        rw q (joined_reaches L taken k m
        (other_takes L m no_string no_ref (item_at J.strings items texts k)) (λ r o. operands r o k h))
