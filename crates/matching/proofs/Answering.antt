-- The words that answer for row p, by its kind: what the code cites where it returns. The law of each kind, over the
-- words of its operands, is from one span lemma of matching_rules.
use Prim.Native.Nat.{ℕ, suc, ◌+◌, ◌-◌, ◌^◌, ◌≤◌, ◌<◌}
use mathlib.Core.Path.{◌≡◌, refl, sym, ap, ◌∙◌, subst}
use mathlib.Core.Bool.{true, false, true≢false}
use mathlib.Core.List.{List}
use mathlib.Core.Logic.{◌≢◌, ◌⊎◌, inl, inr}
use native.Mathlib.Decide.{ℕ_discrete}
use native.Mathlib.Omega.{arith}
use lib.Bits.{bit_and}
use lib.Dec.{leb}
use lib.ListN.{length, get_or}
use borrow.Author.Tests.{leb-true}
use borrow.Rule.Slice.PartMut.{put_mid}
use Rattle.schema.specs.Kinds as kind
use Rattle.schema.specs.Relations.{connective}
use Rattle.schema.specs.Rows.{kind_of, a_of, b_of}
use Rattle.schema.proofs.Fields.{is_data, is_value, is_list}
use Rattle.schema.specs.Views.{Pattern, not_allowed, no_pattern, pattern_by, pattern_of}
use Rattle.relations.specs.Relations.{Or, And, Then}
use Rattle.relations.specs.Words.{WordsRelate, Is, Empty, Gap, Single, Up, front, next}
use Rattle.sets.specs.Bits.{positions, bit}
use Rattle.sets.proofs.Members.{and_has, none_has}
use Rattle.tables.proofs.Booleans.{and_left, and_right, is_false}
use Rattle.matching_rules.proofs.Passing.{restricted}
use Rattle.matching_rules.specs.Reach.{one_string, role_of, Operand, Subpattern, operand, repeated, choice_first}
use Rattle.matching_rules.specs.Reach.{choice_second, group_first, group_second, interleave_first, interleave_second}
use Rattle.matching_rules.proofs.RowPatterns.{Makes, row_makes, makes_empty, makes_not_allowed, makes_text, makes_data}
use Rattle.matching_rules.proofs.RowPatterns.{makes_except, makes_value, makes_list, makes_attribute, makes_ref}
use Rattle.matching_rules.proofs.RowPatterns.{makes_one_or_more, makes_choice, makes_group, makes_interleave}
use Rattle.matching_rules.proofs.RowPatterns.{makes_none}
use Rattle.matching.specs.Setting.{Setting, tables_in, Asked, Covered, Relatable, HoldsRelated}
use Rattle.matching.specs.Parts.{Where, OneIn, Repetition, HoldsLeaf, SharedOut, Operands}
use Rattle.matching.proofs.Shares.{asked_part, operand_covered}
use Rattle.matching.proofs.Conditions.{front_put, next_put}
use Rattle.matching.proofs.Leaves.{related_empty, related_text, related_string}
use Rattle.matching.proofs.Leaves.{related_ref, related_attribute, related_nothing}
use Rattle.matching.proofs.TwoOperands.{related_choice, related_group, related_interleave}
use Rattle.matching.proofs.Repetitions.{related_one_or_more}

-- the kinds that match nothing
nothing_made : {k a b : ℕ} {x : Pattern} → Makes k a b x → k ≢ kind.empty
    → k ≢ kind.text → k ≢ kind.«data» → k ≢ kind.value → k ≢ kind.list → k ≢ kind.ref
    → k ≢ kind.attribute → connective k ≡ false → (x ≡ not_allowed) ⊎ (x ≡ no_pattern)
nothing_made (makes_empty e) n₁ n₃ n₄ n₅ n₆ n₈ n₇ c = absurd (n₁ e)
nothing_made (makes_not_allowed e) n₁ n₃ n₄ n₅ n₆ n₈ n₇ c = inl refl
nothing_made (makes_text e) n₁ n₃ n₄ n₅ n₆ n₈ n₇ c = absurd (n₃ e)
nothing_made (makes_data e f) n₁ n₃ n₄ n₅ n₆ n₈ n₇ c = absurd (n₄ e)
nothing_made (makes_except e f) n₁ n₃ n₄ n₅ n₆ n₈ n₇ c = absurd (n₄ e)
nothing_made (makes_value e) n₁ n₃ n₄ n₅ n₆ n₈ n₇ c = absurd (n₅ e)
nothing_made (makes_list e) n₁ n₃ n₄ n₅ n₆ n₈ n₇ c = absurd (n₆ e)
nothing_made (makes_attribute e) n₁ n₃ n₄ n₅ n₆ n₈ n₇ c = absurd (n₇ e)
nothing_made (makes_ref e) n₁ n₃ n₄ n₅ n₆ n₈ n₇ c = absurd (n₈ e)
nothing_made (makes_one_or_more e) n₁ n₃ n₄ n₅ n₆ n₈ n₇ c = absurd (true≢false (rw e at c))
nothing_made (makes_choice e) n₁ n₃ n₄ n₅ n₆ n₈ n₇ c = absurd (true≢false (rw e at c))
nothing_made (makes_group e) n₁ n₃ n₄ n₅ n₆ n₈ n₇ c = absurd (true≢false (rw e at c))
nothing_made (makes_interleave e) n₁ n₃ n₄ n₅ n₆ n₈ n₇ c = absurd (true≢false (rw e at c))
nothing_made (makes_none n) n₁ n₃ n₄ n₅ n₆ n₈ n₇ c = inr refl

-- the kinds of patterns of one string
string_role : {k a b : ℕ} {x : Pattern} → Makes k a b x → kind.«data» ≤ k → k < suc kind.list → role_of x ≡ one_string
string_role (makes_data e f) l u = refl
string_role (makes_except e f) l u = refl
string_role (makes_value e) l u = refl
string_role (makes_list e) l u = refl
string_role (makes_empty e) l u = absurd (omega arith)
string_role (makes_not_allowed e) l u = absurd (omega arith)
string_role (makes_text e) l u = absurd (omega arith)
string_role (makes_attribute e) l u = absurd (omega arith)
string_role (makes_ref e) l u = absurd (omega arith)
string_role (makes_one_or_more e) l u = absurd (omega arith)
string_role (makes_choice e) l u = absurd (omega arith)
string_role (makes_group e) l u = absurd (omega arith)
string_role (makes_interleave e) l u = absurd (omega arith)
string_role {k} (makes_none n) l u = absurd (go (ℕ_discrete k kind.«data») (ℕ_discrete k kind.value))
  where
    go : Dec (k ≡ kind.«data») → Dec (k ≡ kind.value) → ⊥
    go (yes e) d = n (is_data e)
    go (no f) (yes e) = n (is_value e)
    go (no f) (no g) = n (is_list (omega arith))

module _ (s : List ℕ) (p : ℕ) where
  -- the pattern of a row from its kind
  by_kind : {k : ℕ} → kind_of s p ≡ k → pattern_of s p ≡ pattern_by k (a_of s p) (b_of s p)
  by_kind e = ap (λ (k : ℕ). pattern_by k (a_of s p) (b_of s p)) e

  -- ---- a row without operands, where kind and mark are what was read

  module _ (marks : List ℕ) {w : List ℕ} {m a k κ mark : ℕ}
      (is-kind : κ ≡ kind_of s p) (is-mark : mark ≡ get_or marks p 0) where
    pub answers_empty : κ ≡ kind.empty → Is w (Where (a ≡ 0) (Gap m k)) → HoldsLeaf s marks m a k p w
    unfolding pattern_by
    answers_empty e is c named taken single S asked covered =
        related_empty S m asked covered w (by_kind (sym is-kind ∙ e)) is

    pub answers_text : k < 2 ^ 64 → mark < 2 ^ 64 → κ ≡ kind.text
        → Is w (Where (a ≡ 0) (Gap m (bit_and k (2 ^ 64 - 1 - mark)))) → HoldsLeaf s marks m a k p w
    unfolding pattern_by
    answers_text hk hm e is c named taken single S asked covered =
        related_text S m asked covered w hk (subst (λ (n : ℕ). n < 2 ^ 64) is-mark hm) (by_kind (sym is-kind ∙ e))
        (subst (λ (n : ℕ). Is w (Where (a ≡ 0) (Gap m (bit_and k (2 ^ 64 - 1 - n))))) is-mark is)

    module _ (is : Is w (Where (a ≡ 0) (Single m k mark))) where
      marked : Is w (Where (a ≡ 0) (Single m k (get_or marks p 0)))
      marked = subst (λ (n : ℕ). Is w (Where (a ≡ 0) (Single m k n))) is-mark is

      -- data, value and list
      answers_string : kind.«data» ≤ κ → κ < suc kind.list → HoldsLeaf s marks m a k p w
      answers_string l u c named taken single S asked covered =
          related_string S m asked covered w (string_role (subst
          (λ (n : ℕ). Makes n (a_of s p) (b_of s p) (pattern_of s p)) (sym is-kind) (row_makes s p refl)) l u) marked

      answers_ref : κ ≡ kind.ref → HoldsLeaf s marks m a k p w
      unfolding pattern_by
      answers_ref e c named taken single S asked covered =
          related_ref S m asked covered w (by_kind (sym is-kind ∙ e)) marked

      -- data, value, list and ref take one item
      pub answers_item : (κ ≡ kind.ref) ⊎ ((kind.«data» ≤ κ) × (κ < suc kind.list)) → HoldsLeaf s marks m a k p w
      answers_item (inl e) = answers_ref e
      answers_item (inr (l, u)) = answers_string l u

    pub answers_attribute : κ ≡ kind.attribute → Is w (Where (OneIn a mark) (Gap m k)) → HoldsLeaf s marks m a k p w
    unfolding pattern_by
    answers_attribute e is c named taken single S asked covered =
        related_attribute S m asked covered w (by_kind (sym is-kind ∙ e))
        (subst (λ (n : ℕ). Is w (Where (OneIn a n) (Gap m k))) is-mark is)

    pub answers_nothing : κ ≢ kind.empty → κ ≢ kind.text → κ ≢ kind.«data» → κ ≢ kind.value
        → κ ≢ kind.list → κ ≢ kind.ref → κ ≢ kind.attribute → Is w Empty → HoldsLeaf s marks m a k p w
    answers_nothing n₁ n₃ n₄ n₅ n₆ n₈ n₇ is c named taken single S asked covered =
        related_nothing S m asked covered w
        (nothing_made (subst (λ (n : ℕ). Makes n (a_of s p) (b_of s p) (pattern_of s p)) (sym is-kind)
        (row_makes s p refl)) n₁ n₃ n₄ n₅ n₆ n₈ n₇ (subst (λ (n : ℕ). connective n ≡ false) (sym is-kind) c)) is

  -- ---- a row with operands

  -- an operand is a smaller row
  falls : Setting s → {q : ℕ} {x : Pattern} → pattern_of s p ≡ x → Operand q x → q < p
  falls S {q} e i = (restricted (tables_in S) S.passes).falls p q (subst (Subpattern q) (sym e) (operand i))

  -- what was read of a table for the first operand
  read_at : (table : List ℕ) {q n : ℕ} → q ≡ a_of s p → n ≡ get_or table q 0 → n ≡ get_or table (a_of s p) 0
  read_at table f g = g ∙ ap (λ (r : ℕ). get_or table r 0) f

  module _ {marks named taken single w : List ℕ} {m a k : ℕ} where
    pub answers_one_or_more : {w₁ : List ℕ} {q alone : ℕ} → a < 2 ^ 64
        → kind_of s p ≡ kind.one_or_more → q ≡ a_of s p → alone ≡ get_or single q 0
        → HoldsRelated s marks named taken single m 0 k q w₁ → Is w (Repetition m a k alone (WordsRelate w₁))
        → HoldsRelated s marks named taken single m a k p w
    unfolding pattern_by
    answers_one_or_more {w₁} {q} {alone} ha e f g first is S asked covered =
        let below = operand_covered S covered (by_kind e) repeated in
        related_one_or_more S m asked p (a_of s p) below (by_kind e) ha
        (rw f at (first S (asked_part S asked (λ x h. absurd (none_has x h)) (λ x h. h)) (rw f below)))
        (rw (read_at single f g) at is)

    pub answers_choice : {v : List ℕ} → kind_of s p ≡ kind.choice → Operands s marks named taken single m p a k a k v
        → Is w (Or (WordsRelate (front m v)) (WordsRelate (next m v)))
        → HoldsRelated s marks named taken single m a k p w
    unfolding pattern_by
    answers_choice e both is S asked covered =
        let u₁ = operand_covered S covered (by_kind e) choice_first in
        let u₂ = operand_covered S covered (by_kind e) choice_second in
        related_choice S m asked p (a_of s p) (b_of s p) (by_kind e) (both.first S asked u₁) (both.second S asked u₂) is

    -- q, n and t are what was read: the first operand, and its words
    module _ {v : List ℕ} {q n : ℕ} (ha : a < 2 ^ 64) (hn : n < 2 ^ 64) (f : q ≡ a_of s p)
        (g : n ≡ get_or named q 0) where
      pub answers_group : kind_of s p ≡ kind.group → Operands s marks named taken single m p (bit_and a n) k
          (bit_and a (2 ^ 64 - 1 - n)) k v → Is w (Then (WordsRelate (front m v)) (WordsRelate (next m v)))
          → HoldsRelated s marks named taken single m a k p w
      unfolding pattern_by
      answers_group e both is S asked covered =
          let u₁ = operand_covered S covered (by_kind e) group_first in
          let u₂ = operand_covered S covered (by_kind e) group_second in
          let is-named = read_at named f g in
          let x = both.first S (asked_part S asked (λ x h. (and_has a n x h).0) (λ x h. h)) u₁ in
          let y = both.second S (asked_part S asked (λ x h. (and_has a (2 ^ 64 - 1 - n) x h).0) (λ x h. h)) u₂ in
          related_group S m asked p (a_of s p) (b_of s p) u₁ ha (rw is-named at hn)
          (by_kind e) (rw is-named at x) (rw is-named at y) is

      pub answers_interleave : {t : ℕ} → k < 2 ^ 64 → t < 2 ^ 64 → t ≡ get_or taken q 0 → kind_of s p ≡ kind.interleave
          → Operands s marks named taken single m p (bit_and a n) (bit_and k t) (bit_and a (2 ^ 64 - 1 - n))
          (bit_and k (2 ^ 64 - 1 - t)) v → Is w (And (WordsRelate (front m v)) (WordsRelate (next m v)))
          → HoldsRelated s marks named taken single m a k p w
      unfolding pattern_by
      answers_interleave {t} hk ht r e both is S asked covered =
          let u₁ = operand_covered S covered (by_kind e) interleave_first in
          let u₂ = operand_covered S covered (by_kind e) interleave_second in
          let is-named = read_at named f g in
          let is-taken = read_at taken f r in
          let x = both.first S (asked_part S asked (λ x h. (and_has a n x h).0) (λ x h. (and_has k t x h).0)) u₁ in
          let y = both.second S (asked_part S asked (λ x h. (and_has a (2 ^ 64 - 1 - n) x h).0)
          (λ x h. (and_has k (2 ^ 64 - 1 - t) x h).0)) u₂ in
          related_interleave S m asked p (a_of s p) (b_of s p) u₁ ha (rw is-named at hn) hk (rw is-taken at ht)
          (by_kind e) (rw (is-named, is-taken) at x) (rw (is-named, is-taken) at y) is

  -- ---- what the operands are asked for, from what row p is

  module _ {marks named taken single work : List ℕ} {m a k : ℕ}
      (r : Relatable s marks named taken single m a k p work) where
    shared : {x : Pattern} {a₁ k₁ a₂ k₂ : ℕ} → pattern_of s p ≡ x → Operand (a_of s p) x → Operand (b_of s p) x
        → ((y : ℕ) → bit a₁ y ≡ true → bit a y ≡ true) → ((y : ℕ) → bit k₁ y ≡ true → bit k y ≡ true)
        → ((y : ℕ) → bit a₂ y ≡ true → bit a y ≡ true) → ((y : ℕ) → bit k₂ y ≡ true → bit k y ≡ true)
        → SharedOut s marks named taken single m p a₁ k₁ a₂ k₂ work
    shared e first second f g h i = record {
      setting = r.setting;
      first_less = falls r.setting e first;
      second_less = falls r.setting e second;
      first_asked = asked_part r.setting r.asked f g;
      second_asked = asked_part r.setting r.asked h i;
      first_covered = operand_covered r.setting r.covered e first;
      second_covered = operand_covered r.setting r.covered e second;
      few = r.few;
      room = r.room;
    }

    pub choice_shared : kind_of s p ≡ kind.choice → SharedOut s marks named taken single m p a k a k work
    unfolding pattern_by
    choice_shared e = shared (by_kind e) choice_first choice_second (λ y h. h) (λ y h. h) (λ y h. h) (λ y h. h)

    pub group_shared : (n : ℕ) → kind_of s p ≡ kind.group
        → SharedOut s marks named taken single m p (bit_and a n) k (bit_and a (2 ^ 64 - 1 - n)) k work
    unfolding pattern_by
    group_shared n e =
        shared (by_kind e) group_first group_second (λ y h. (and_has a n y h).0)
        (λ y h. h) (λ y h. (and_has a (2 ^ 64 - 1 - n) y h).0) (λ y h. h)

    pub interleave_shared : (n t : ℕ) → kind_of s p ≡ kind.interleave → SharedOut s marks named taken single m p
        (bit_and a n) (bit_and k t) (bit_and a (2 ^ 64 - 1 - n)) (bit_and k (2 ^ 64 - 1 - t)) work
    unfolding pattern_by
    interleave_shared n t e =
        shared (by_kind e) interleave_first interleave_second (λ y h. (and_has a n y h).0) (λ y h. (and_has k t y h).0)
        (λ y h. (and_has a (2 ^ 64 - 1 - n) y h).0) (λ y h. (and_has k (2 ^ 64 - 1 - t) y h).0)

    -- the operand of a oneOrMore, without attributes; q is what was read
    module _ {q : ℕ} (e : kind_of s p ≡ kind.one_or_more) (f : q ≡ a_of s p) where
      pub repeated_less : q < p
      unfolding pattern_by
      repeated_less = subst (λ (q : ℕ). q < p) (sym f) (falls r.setting (by_kind e) repeated)

      asked_none : Asked r.setting 0 k
      asked_none = asked_part r.setting r.asked (λ y h. absurd (none_has y h)) (λ y h. h)

      covered_operand : Covered r.setting marks named taken single q
      unfolding pattern_by
      covered_operand = rw f (operand_covered r.setting r.covered (by_kind e) repeated)

      pub repeated_relatable : Relatable s marks named taken single m 0 k q work
      repeated_relatable =
          let l = repeated_less in
          let h = r.room in
          record {
            setting = r.setting;
            asked = asked_none;
            covered = covered_operand;
            few = r.few;
            room = omega arith;
          }

      -- its relation goes up
      pub repeated_up : {w : List ℕ} → HoldsRelated s marks named taken single m 0 k q w → Up (WordsRelate w)
      repeated_up first i j h = ((first r.setting asked_none covered_operand).sound i j h).1.0

  -- ---- the operands themselves: the second is related in the part of the words from 64 on, and p₁ and p₂ are what was
  -- read

  module _ {marks named taken single work : List ℕ} {m a₁ k₁ a₂ k₂ : ℕ}
      (r : SharedOut s marks named taken single m p a₁ k₁ a₂ k₂ work) where
    pub first_relatable : {p₁ : ℕ} → p₁ ≡ a_of s p → Relatable s marks named taken single m a₁ k₁ p₁ work
    first_relatable e =
        let l = r.first_less in
        let h = r.room in
        rw e (record {
          setting = r.setting;
          asked = r.first_asked;
          covered = r.first_covered;
          few = r.few;
          room = omega arith;
        })

    pub second_relatable : {p₂ : ℕ} {part : List ℕ} → p₂ ≡ b_of s p
        → length work ≤ positions + length part → Relatable s marks named taken single m a₂ k₂ p₂ part
    second_relatable e f =
        let l = r.second_less in
        let h = r.room in
        rw e (record {
          setting = r.setting;
          asked = r.second_asked;
          covered = r.second_covered;
          few = r.few;
          room = omega arith;
        })

  module _ {marks named taken single : List ℕ} {m a₁ k₁ a₂ k₂ p₁ p₂ : ℕ} where
    pub operands_related : m ≤ positions → (n : ℕ) (v u : List ℕ)
        → positions ≤ length v → m ≤ length u → p₁ ≡ a_of s p → p₂ ≡ b_of s p
        → HoldsRelated s marks named taken single m a₁ k₁ p₁ (front m v) → HoldsRelated s marks named taken
        single m a₂ k₂ p₂ (front m u) → Operands s marks named taken single m p a₁ k₁ a₂ k₂ (put_mid 64 n v u)
    operands_related few n v u hv hu e f first second = record {
      first = rw (front_put few n v u hv) (rw e at first);
      second = rw (next_put few n v u hv hu) (rw f at second);
    }

-- a kind that is none of the four connectives
pub not_connective : {κ k : ℕ} → κ ≡ k → κ ≢ kind.one_or_more → κ ≢ kind.choice
    → κ ≢ kind.group → κ ≢ kind.interleave → connective k ≡ false
not_connective {κ} {k} e n₉ n₁₀ n₁₁ n₁₂ =
    is_false (connective k)
    (λ h. let l = leb-true kind.one_or_more k (and_left (leb kind.one_or_more k) (leb k kind.interleave) h) in
    let u = leb-true k kind.interleave (and_right (leb kind.one_or_more k) (leb k kind.interleave) h) in omega arith)
