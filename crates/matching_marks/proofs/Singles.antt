-- The word of the attributes that match a row's pattern alone, where none stands in a group or interleave (10.2.3).
use mathlib.Core.Path.{◌≡◌, refl, sym, ◌∙◌, ap}
use mathlib.Core.Logic.{◌↔◌, ◌≢◌, ⊎_elim}
use mathlib.Core.Bool.{Bool, false}
use mathlib.Core.List.{List, []}
use Prim.Native.Nat.{ℕ, suc, ◌≤◌, ◌<◌}
use native.Mathlib.Omega.{arith}
use native.Mathlib.Decide.{dec_lt}
use lib.ListN.{get_or}
use borrow.Author.Tests.{eqb-true, eq-eqb}
use Rattle.tables.specs.Tables.{Tables}
use Rattle.strings.specs.Strings.{schema_strings}
use Rattle.tables.proofs.Numbers.{not_less}
use Rattle.schema.specs.Kinds as kind
use Rattle.schema.specs.Rows.{kind_of, a_of, b_of}
use Rattle.schema.specs.Views.{Pattern, pattern_of, attribute, one_or_more, choice}
use Rattle.schema.proofs.Patterns.{attribute_at, one_or_more_at, choice_at}
use Rattle.schema_restrictions.specs.Schema.{SchemaPasses}
use Rattle.sets.proofs.Members.{none_has}
use Rattle.matching_rules.specs.Items.{element, only, Lookups}
use Rattle.matching_rules.specs.Rules.{Match, NotMatchBy, choice_1, choice_2, one_or_more_1}
use Rattle.matching_rules.specs.Rules as rule
use Rattle.matching_rules.specs.Job.{lookups}
use Rattle.matching_rules.proofs.Inversion.{step, AttributeMatch}
use Rattle.matching_rules.proofs.KindTests.{attribute_made}
use Rattle.matching_rules.proofs.Occurrences.{named}
use Rattle.matching_rules.proofs.Passing.{restricted}
use Rattle.matching_rules.specs.Reach.{Operand, repeated, choice_first, choice_second}
use Rattle.matching_rules.specs.Reach.{Reaches, here, there, itself, down, names_attribute}
use Rattle.matching_rules.proofs.Repeats.{span_one_or_more_attributes}
use Rattle.matching_rules.specs.Restricted.{Restricted}
use Rattle.matching_rules.proofs.RowPatterns.{Makes, row_makes}
use Rattle.matching_rules.specs.Spans.{run}
use Rattle.matching_marks.specs.Answers.{AtOperands}
use Rattle.matching_marks.specs.Marks.{attribute_row, TakesAttribute, AttributeWord, SingleWord}
use Rattle.matching_marks.specs.Tests.{joined_by}
use Rattle.matching_marks.proofs.Operands.{joined_operands}
use Rattle.matching_marks.proofs.RowKinds.{operand_kinds, operand_sharing}

-- a set of one member has no other
same_only : (x y : ℕ) → only x ≡ only y → x ≡ y
same_only x y f = sym (eqb-true y x (sym (ap (λ (a : ℕ → Bool). a x) f) ∙ eq-eqb x x refl))

module _ (L : Lookups) where
  abbrev NotMatch : List ℕ → ℕ → Type 0
  NotMatch = NotMatchBy L L.rows

  -- attribute y alone matches x
  abbrev Alone : ℕ → Pattern → Type 0
  Alone y x = Match L NotMatch (only y) [] x

  alone_attribute : (y nc q : ℕ) → TakesAttribute L nc q y ↔ Alone y (attribute nc q)
  alone_attribute y nc q = (λ d. rule.attribute y d.named d.valued, from)
    where
      from : Alone y (attribute nc q) → TakesAttribute L nc q y
      from d =
          let m : AttributeMatch L NotMatch (only y) [] nc (L.pattern q) = step L NotMatch d in
          let f = same_only y m.row m.set in
          record { named = rw f m.named; valued = rw f m.valued }

  -- one attribute is matched by one repetition
  alone_repeated : (R : Restricted L) (y p q : ℕ) → L.pattern p ≡ one_or_more q
      → Alone y (L.pattern p) → Alone y (L.pattern q)
  unfolding run
  alone_repeated R y p q f d =
      ((span_one_or_more_attributes L NotMatch (λ k. element k) (λ k. false) q R (only y)
      (suc y) y (λ x h. let z = eqb-true y x h in omega arith) (eq-eqb y y refl)
      (λ x z h k same. sym (eqb-true y x h) ∙ eqb-true y z k) p 0 0 f).0 (omega arith, d)).single y (eq-eqb y y refl)

  repeated_from : (y : ℕ) {r q : ℕ} → Operand r (one_or_more q) → Alone y (L.pattern r) → Alone y (one_or_more q)
  repeated_from y repeated d = one_or_more_1 d

  choice_from : (y : ℕ) {r a b : ℕ} → Operand r (choice a b) → Alone y (L.pattern r) → Alone y (choice a b)
  choice_from y choice_first d = choice_1 d
  choice_from y choice_second d = choice_2 d

  choice_to : (y : ℕ) {a b : ℕ} → Alone y (choice a b) → (r : ℕ) × Operand r (choice a b) × Alone y (L.pattern r)
  choice_to y {a} {b} d = ⊎_elim (λ h. (a, choice_first, h)) (λ h. (b, choice_second, h)) (step L NotMatch d)

module _ (J : Tables) (e attributes : ℕ) (pass : SchemaPasses (schema_strings J.strings) J.schema) (p : ℕ) where
  abbrev s : List ℕ
  s = J.schema

  abbrev L : Lookups
  L = lookups J

  abbrev Single : ℕ → ℕ → Type 0
  Single = SingleWord J e attributes

  -- a oneOrMore or choice is matched by an operand
  by_operand : (y : ℕ) → kind.one_or_more ≤ kind_of s p → kind_of s p < kind.group
      → ((r : ℕ) × Operand r (pattern_of s p) × Alone L y (pattern_of s r)) ↔ Alone L y (pattern_of s p)
  by_operand y h l = go (dec_lt (kind_of s p) kind.choice)
    where
      go : Dec (kind_of s p < kind.choice)
          → ((r : ℕ) × Operand r (pattern_of s p) × Alone L y (pattern_of s r)) ↔ Alone L y (pattern_of s p)
      go (yes i) =
          let f = one_or_more_at s p (omega arith) in (
            λ o. rw f (repeated_from L y (rw f at o.1) o.2),
            λ d. (a_of s p, rw f repeated, alone_repeated L (restricted J pass) y p (a_of s p) f d),
          )
      go (no i) =
          let k = not_less i in
          let f = choice_at s p (omega arith) in
          (λ o. rw f (choice_from L y (rw f at o.1) o.2), λ d. rw f (choice_to L y (rw f at d)))

  pub single_attribute : (leaf : ℕ) → kind_of s p ≡ kind.attribute → AttributeWord J e attributes p leaf → Single p leaf
  single_attribute leaf f w x h flat =
      let a = w (a_of s p) (b_of s p) x (attribute_at s p f) h in
      let i = alone_attribute L (attribute_row e x) (a_of s p) (b_of s p) in
      rw (attribute_at s p f) (λ u. i.0 (a.0 u), λ d. a.1 (i.1 d))

  pub single_operands : {w : ℕ} (single : List ℕ) → kind.one_or_more ≤ kind_of s p → kind_of s p < kind.group
      → w ≡ joined_by (kind_of s p) (get_or single (a_of s p) 0) (get_or single (b_of s p) 0)
      → AtOperands s Single single p → Single p w
  single_operands single h l q operands x i flat =
      let y = attribute_row e x in
      let j = joined_operands single x (λ r. Alone L y (pattern_of s r))
      (row_makes s p refl) (λ r o. operands r o x i (λ z k. flat z (down r o k))) in
      let o = by_operand y h l in
      rw q (λ u. o.0 (j.0 u), λ d. j.1 (o.1 d))

  pub single_none : kind_of s p ≢ kind.attribute
      → (kind.one_or_more ≤ kind_of s p → ¬ (kind_of s p < kind.group)) → Single p 0
  single_none no_attribute not_operand x h flat =
      (λ u. absurd (none_has x u), λ d. absurd (unreached (named L (NotMatch L) d y (eq-eqb y y refl))))
    where
      y : ℕ
      y = attribute_row e x

      made : Makes (kind_of s p) (a_of s p) (b_of s p) (pattern_of s p)
      made = row_makes s p refl

      -- a pattern that reaches an attribute is one, or has operands; a group or interleave is not flat then
      unreached : ¬ Reaches L (names_attribute L y) (pattern_of s p)
      unreached (here i) = no_attribute (attribute_made L y made i).0
      unreached (there r o i) =
          flat (pattern_of s p) itself (operand_sharing o made
          (let k = operand_kinds o made in let z = not_less (not_operand k.0) in omega arith)) y (there r o i)
