-- The union of the words of a row's operands, and what a pattern reaches through its operands.
use mathlib.Core.Path.{◌≡◌, refl, sym, ◌∙◌}
use mathlib.Core.Logic.{◌⊎◌, inl, inr, ◌↔◌, ⊎_elim}
use mathlib.Core.Bool.{Bool, true, false, true≢false}
use mathlib.Core.List.{List}
use Prim.Native.Nat.{ℕ, suc, ◌≤◌, ◌<◌}
use native.Mathlib.Omega.{arith}
use native.Mathlib.Decide.{dec_lt, ℕ_discrete}
use lib.Bits.{bit_or}
use lib.ListN.{get_or}
use borrow.Author.Tests.{ne_eqb, le-leb, lt-leb}
use Rattle.schema.specs.Kinds as kind
use Rattle.schema.specs.Views.{Pattern, one_or_more, choice, group, interleave}
use Rattle.schema.proofs.Fields.{PatternKind, is_one_or_more, is_choice, is_group, is_interleave}
use Rattle.tables.proofs.Numbers.{not_less}
use Rattle.sets.specs.Bits.{bit}
use Rattle.sets.proofs.Members.{none_has, or_has, has_or_l, has_or_r}
use Rattle.matching_rules.specs.Items.{Lookups}
use Rattle.matching_rules.specs.Reach.{Operand, repeated, choice_first, choice_second, group_first}
use Rattle.matching_rules.specs.Reach.{group_second, interleave_first, interleave_second, Reaches, here, there}
use Rattle.matching_rules.proofs.RowPatterns.{Makes, makes_empty, makes_not_allowed, makes_text, makes_data}
use Rattle.matching_rules.proofs.RowPatterns.{makes_except, makes_value, makes_list, makes_attribute, makes_ref}
use Rattle.matching_rules.proofs.RowPatterns.{makes_one_or_more, makes_choice, makes_group, makes_interleave}
use Rattle.matching_rules.proofs.RowPatterns.{makes_none}
use Rattle.matching_marks.specs.Tests.{joined_by}
use Rattle.matching_marks.proofs.RowKinds.{operand_kinds}

-- the union by the kind of the row
module _ (k v w : ℕ) where
  pub joined_one : k ≡ kind.one_or_more → joined_by k v w ≡ v
  unfolding joined_by
  joined_one e = rw e

  pub joined_two : kind.choice ≤ k → k < suc kind.interleave → joined_by k v w ≡ bit_or v w
  unfolding joined_by
  joined_two h l =
      rw (ne_eqb k kind.one_or_more (λ e. omega arith), le-leb kind.choice k h, le-leb k kind.interleave (omega arith))

  pub joined_none : (kind.one_or_more ≤ k → ¬ (k < suc kind.interleave)) → joined_by k v w ≡ 0
  unfolding joined_by
  joined_none f = go (dec_lt k kind.one_or_more)
    where
      go : Dec (k < kind.one_or_more) → joined_by k v w ≡ 0
      go (yes h) = rw (ne_eqb k kind.one_or_more (λ e. omega arith), lt-leb kind.choice k (omega arith))
      go (no h) =
          let l = not_less h in
          let m = not_less (f l) in
          rw (
            ne_eqb k kind.one_or_more (λ e. omega arith),
            le-leb kind.choice k (omega arith),
            lt-leb k kind.interleave (omega arith),
          )

-- the operands of a connective
operand_one : {r a : ℕ} → Operand r (one_or_more a) → r ≡ a
operand_one repeated = refl

operand_choice : {r a b : ℕ} → Operand r (choice a b) → (r ≡ a) ⊎ (r ≡ b)
operand_choice choice_first = inl refl
operand_choice choice_second = inr refl

operand_group : {r a b : ℕ} → Operand r (group a b) → (r ≡ a) ⊎ (r ≡ b)
operand_group group_first = inl refl
operand_group group_second = inr refl

operand_interleave : {r a b : ℕ} → Operand r (interleave a b) → (r ≡ a) ⊎ (r ≡ b)
operand_interleave interleave_first = inl refl
operand_interleave interleave_second = inr refl

no_operand_kind : {k : ℕ} → ¬ PatternKind k → kind.one_or_more ≤ k → ¬ (k < suc kind.interleave)
no_operand_kind {k} n h l = go (ℕ_discrete k kind.one_or_more) (ℕ_discrete k kind.choice) (ℕ_discrete k kind.group)
  where
    go : Dec (k ≡ kind.one_or_more) → Dec (k ≡ kind.choice) → Dec (k ≡ kind.group) → ⊥
    go (yes e) c d = n (is_one_or_more e)
    go (no f) (yes e) d = n (is_choice e)
    go (no f) (no g) (yes e) = n (is_group e)
    go (no f) (no g) (no i) = n (is_interleave (omega arith))

module _ (words : List ℕ) (j : ℕ) where
  -- an operand of x has j in its word
  abbrev InOperand : Pattern → Type 0
  InOperand x = (r : ℕ) × Operand r x × (bit (get_or words r 0) j ≡ true)

  -- and so has the word of its row
  abbrev Joined : (k a b : ℕ) → Pattern → Type 0
  Joined k a b x = (bit (joined_by k (get_or words a 0) (get_or words b 0)) j ≡ true) ↔ InOperand x

  module _ (k a b : ℕ) where
    leaf : {x : Pattern} → Makes k a b x → (kind.one_or_more ≤ k → ¬ (k < suc kind.interleave)) → Joined k a b x
    leaf m f = (
      λ h. absurd (none_has j (rw (joined_none k (get_or words a 0) (get_or words b 0) f) at h)),
      λ o. let i = operand_kinds o.1 m in absurd (f i.0 i.1),
    )

    two : {x : Pattern} → kind.choice ≤ k → k < suc kind.interleave → Operand a x
        → Operand b x → ((r : ℕ) → Operand r x → (r ≡ a) ⊎ (r ≡ b)) → Joined k a b x
    two {x} h l first second only = rw (joined_two k (get_or words a 0) (get_or words b 0) h l) (to, from)
      where
        to : bit (bit_or (get_or words a 0) (get_or words b 0)) j ≡ true → InOperand x
        to e = ⊎_elim (λ i. (a, first, i)) (λ i. (b, second, i)) (or_has (get_or words a 0) (get_or words b 0) j e)

        from : InOperand x → bit (bit_or (get_or words a 0) (get_or words b 0)) j ≡ true
        from o =
            ⊎_elim
            (λ e. has_or_l (get_or words a 0) (get_or words b 0) j (rw e at o.2))
            (λ e. has_or_r (get_or words a 0) (get_or words b 0) j (rw e at o.2))
            (only o.0 o.1)

  joined_members : {k a b : ℕ} {x : Pattern} → Makes k a b x → Joined k a b x
  joined_members (makes_empty e) = leaf _ _ _ (makes_empty e) (λ h l. omega arith)
  joined_members (makes_not_allowed e) = leaf _ _ _ (makes_not_allowed e) (λ h l. omega arith)
  joined_members (makes_text e) = leaf _ _ _ (makes_text e) (λ h l. omega arith)
  joined_members (makes_data e f) = leaf _ _ _ (makes_data e f) (λ h l. omega arith)
  joined_members (makes_except e f) = leaf _ _ _ (makes_except e f) (λ h l. omega arith)
  joined_members (makes_value e) = leaf _ _ _ (makes_value e) (λ h l. omega arith)
  joined_members (makes_list e) = leaf _ _ _ (makes_list e) (λ h l. omega arith)
  joined_members (makes_attribute e) = leaf _ _ _ (makes_attribute e) (λ h l. omega arith)
  joined_members (makes_ref e) = leaf _ _ _ (makes_ref e) (λ h l. omega arith)
  joined_members {k} {a} {b} (makes_one_or_more e) =
      rw (joined_one k (get_or words a 0) (get_or words b 0) e)
      (λ h. (a, repeated, h), λ o. rw (operand_one o.1) at o.2)
  joined_members (makes_choice e) =
      two _ _ _ (omega arith) (omega arith) choice_first choice_second (λ r. operand_choice)
  joined_members (makes_group e) = two _ _ _ (omega arith) (omega arith) group_first group_second (λ r. operand_group)
  joined_members (makes_interleave e) =
      two _ _ _ (omega arith) (omega arith) interleave_first interleave_second (λ r. operand_interleave)
  joined_members (makes_none n) = leaf _ _ _ (makes_none n) (no_operand_kind n)

  -- where the words of the operands tell Q
  pub joined_operands : {k a b : ℕ} {x : Pattern} (Q : ℕ → Type 0) → Makes k a b x
      → ((r : ℕ) → Operand r x → (bit (get_or words r 0) j ≡ true) ↔ Q r)
      → (bit (joined_by k (get_or words a 0) (get_or words b 0)) j ≡ true) ↔ ((r : ℕ) × Operand r x × Q r)
  joined_operands Q m f = (
    λ h. let o = (joined_members m).0 h in (o.0, o.1, (f o.0 o.1).0 o.2),
    λ o. (joined_members m).1 (o.0, o.1, (f o.0 o.1).1 o.2),
  )

module _ (L : Lookups) {test : Pattern → Bool} {x : Pattern} where
  -- a pattern that fails the test reaches by an operand, and one without operands by itself
  pub reaches_operand : test x ≡ false → Reaches L test x → (r : ℕ) × Operand r x × Reaches L test (L.pattern r)
  reaches_operand f (here h) = absurd (true≢false (sym h ∙ f))
  reaches_operand f (there r o h) = (r, o, h)

  pub reaches_itself : ((r : ℕ) → ¬ Operand r x) → Reaches L test x → test x ≡ true
  reaches_itself n (here h) = h
  reaches_itself n (there r o h) = absurd (n r o)

pub joined_reaches : (L : Lookups) {test : Pattern → Bool} {k a b : ℕ} {x : Pattern} (words : List ℕ) (j : ℕ)
    → Makes k a b x → test x ≡ false
    → ((r : ℕ) → Operand r x → (bit (get_or words r 0) j ≡ true) ↔ Reaches L test (L.pattern r))
    → (bit (joined_by k (get_or words a 0) (get_or words b 0)) j ≡ true) ↔ Reaches L test x
joined_reaches L {test} words j m n f =
    let o = joined_operands words j (λ r. Reaches L test (L.pattern r)) m f in
    (λ h. let i = o.0 h in there i.0 i.1 i.2, λ h. o.1 (reaches_operand L n h))
