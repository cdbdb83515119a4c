-- The pattern of a row beside its kind and fields, in a table that keeps the rule of rows: parts are children, and what
-- a pattern reaches occurs in its row.
use mathlib.Core.Path.{◌≡◌, refl, sym, ◌∙◌, ap, subst}
use mathlib.Core.Logic.{◌≢◌, ◌⊎◌, inl, inr, ⊎_elim}
use mathlib.Core.Bool.{Bool, true, false, cond}
use mathlib.Core.List.{List}
use Prim.Native.Nat.{ℕ, ◌<◌}
use native.Mathlib.Omega.{arith}
use lib.Dec.{eqb}
use borrow.Author.Tests.{eqb-true, eqb-false}
use Rattle.tables.specs.Tables.{Tables}
use Rattle.schema.specs.Kinds as kind
use Rattle.schema.specs.Rows.{rows_of, kind_of, a_of, b_of, shape_of, sort_of, is_pattern, child_a, child_b}
use Rattle.schema.specs.RowRule.{RowsRight}
use Rattle.schema.specs.Relations.{Child, by_a, by_b, Below, child, deeper, connective, Occurs, itself, within}
use Rattle.schema.specs.Views.{Pattern, pattern_by, pattern_of, empty, not_allowed, text, data_all, data_except}
use Rattle.schema.specs.Views.{value, list, attribute, ref, one_or_more, choice, group, interleave, no_pattern}
use Rattle.schema.specs.declared.Field.TheVariants.{APattern}
use Rattle.schema.proofs.Fields.{pattern_a, pattern_b, pattern_or_none, PatternKind, is_empty}
use Rattle.schema.proofs.Fields.{is_not_allowed, is_text, is_data, is_value, is_list, is_attribute_lem}
use Rattle.schema.proofs.Fields.{is_ref, is_one_or_more, is_choice, is_group, is_interleave}
use Rattle.schema.proofs.RowLaws.{right_size, in_table}
use Rattle.schema_places.specs.Paths.{sharing_kind}
use Rattle.schema_places.specs.Places.{holds_whole}
use Rattle.matching_rules.specs.Reach.{Operand, repeated, choice_first, choice_second, group_first, group_second}
use Rattle.matching_rules.specs.Reach.{interleave_first, interleave_second, Subpattern, operand, of_attribute}
use Rattle.matching_rules.specs.Reach.{of_list, of_except, Reaches, here, there, Within, itself, down}
use Rattle.matching_rules.specs.Job.{lookups}

-- kind k and fields a and b make a pattern
pub data Makes (k a b : ℕ) : Pattern → Type 0 where
  makes_empty : k ≡ kind.empty → Makes k a b empty
  makes_not_allowed : k ≡ kind.not_allowed → Makes k a b not_allowed
  makes_text : k ≡ kind.text → Makes k a b text
  makes_data : k ≡ kind.«data» → b ≡ kind.no_row → Makes k a b (data_all a)
  makes_except : k ≡ kind.«data» → b ≢ kind.no_row → Makes k a b (data_except a b)
  makes_value : k ≡ kind.value → Makes k a b (value a b)
  makes_list : k ≡ kind.list → Makes k a b (list a)
  makes_attribute : k ≡ kind.attribute → Makes k a b (attribute a b)
  makes_ref : k ≡ kind.ref → Makes k a b (ref a)
  makes_one_or_more : k ≡ kind.one_or_more → Makes k a b (one_or_more a)
  makes_choice : k ≡ kind.choice → Makes k a b (choice a b)
  makes_group : k ≡ kind.group → Makes k a b (group a b)
  makes_interleave : k ≡ kind.interleave → Makes k a b (interleave a b)
  makes_none : ¬ PatternKind k → Makes k a b no_pattern

either : (P : Pattern → Type 0) (b : Bool) {x y : Pattern} → (b ≡ true → P x) → (b ≡ false → P y) → P (cond b x y)
either P true f g = f refl
either P false f g = g refl

-- a number that is none of the kinds of patterns
module _ (k : ℕ) (e₁ : eqb k kind.empty ≡ false) (e₂ : eqb k kind.not_allowed ≡ false) (e₃ : eqb k kind.text ≡ false)
    (e₄ : eqb k kind.«data» ≡ false) (e₅ : eqb k kind.value ≡ false) (e₆ : eqb k kind.list ≡ false)
    (e₇ : eqb k kind.attribute ≡ false) (e₈ : eqb k kind.ref ≡ false) (e₉ : eqb k kind.one_or_more ≡ false)
    (e₁₀ : eqb k kind.choice ≡ false) (e₁₁ : eqb k kind.group ≡ false) (e₁₂ : eqb k kind.interleave ≡ false) where
  no_kind : ¬ PatternKind k
  no_kind (is_empty e) = eqb-false _ _ e₁ e
  no_kind (is_not_allowed e) = eqb-false _ _ e₂ e
  no_kind (is_text e) = eqb-false _ _ e₃ e
  no_kind (is_data e) = eqb-false _ _ e₄ e
  no_kind (is_value e) = eqb-false _ _ e₅ e
  no_kind (is_list e) = eqb-false _ _ e₆ e
  no_kind (is_attribute_lem e) = eqb-false _ _ e₇ e
  no_kind (is_ref e) = eqb-false _ _ e₈ e
  no_kind (is_one_or_more e) = eqb-false _ _ e₉ e
  no_kind (is_choice e) = eqb-false _ _ e₁₀ e
  no_kind (is_group e) = eqb-false _ _ e₁₁ e
  no_kind (is_interleave e) = eqb-false _ _ e₁₂ e

made : (k a b : ℕ) → Makes k a b (pattern_by k a b)
unfolding pattern_by
made k a b =
    let P = Makes k a b in
    either P (eqb k kind.empty) (λ e. makes_empty (eqb-true _ _ e)) (λ e₁.
    either P (eqb k kind.not_allowed) (λ e. makes_not_allowed (eqb-true _ _ e)) (λ e₂.
    either P (eqb k kind.text) (λ e. makes_text (eqb-true _ _ e)) (λ e₃.
    either P (eqb k kind.«data») (λ e. either P (eqb b kind.no_row) (λ f. makes_data (eqb-true _ _ e) (eqb-true _ _ f))
    (λ f. makes_except (eqb-true _ _ e) (eqb-false _ _ f))) (λ e₄.
    either P (eqb k kind.value) (λ e. makes_value (eqb-true _ _ e)) (λ e₅.
    either P (eqb k kind.list) (λ e. makes_list (eqb-true _ _ e)) (λ e₆.
    either P (eqb k kind.attribute) (λ e. makes_attribute (eqb-true _ _ e)) (λ e₇.
    either P (eqb k kind.ref) (λ e. makes_ref (eqb-true _ _ e)) (λ e₈.
    either P (eqb k kind.one_or_more) (λ e. makes_one_or_more (eqb-true _ _ e)) (λ e₉.
    either P (eqb k kind.choice) (λ e. makes_choice (eqb-true _ _ e)) (λ e₁₀.
    either P (eqb k kind.group) (λ e. makes_group (eqb-true _ _ e)) (λ e₁₁.
    either P (eqb k kind.interleave) (λ e. makes_interleave (eqb-true _ _ e))
    (λ e₁₂. makes_none (no_kind k e₁ e₂ e₃ e₄ e₅ e₆ e₇ e₈ e₉ e₁₀ e₁₁ e₁₂)))))))))))))

pub row_makes : (s : List ℕ) (p : ℕ) {x : Pattern} → pattern_of s p ≡ x → Makes (kind_of s p) (a_of s p) (b_of s p) x
row_makes s p e = subst (Makes (kind_of s p) (a_of s p) (b_of s p)) e (made (kind_of s p) (a_of s p) (b_of s p))

-- the kind and the fields of a row from its pattern
module _ {k a b : ℕ} where
  pub from_except : {t q : ℕ} → Makes k a b (data_except t q) → (k ≡ kind.«data») × (b ≡ q) × (b ≢ kind.no_row)
  from_except (makes_except e f) = (e, refl, f)

  pub from_list : {p : ℕ} → Makes k a b (list p) → (k ≡ kind.list) × (a ≡ p)
  from_list (makes_list e) = (e, refl)

  pub from_one_or_more : {p : ℕ} → Makes k a b (one_or_more p) → (k ≡ kind.one_or_more) × (a ≡ p)
  from_one_or_more (makes_one_or_more e) = (e, refl)

  pub from_not_allowed : Makes k a b not_allowed → k ≡ kind.not_allowed
  from_not_allowed (makes_not_allowed e) = e

  pub from_ref : {d : ℕ} → Makes k a b (ref d) → (k ≡ kind.ref) × (a ≡ d)
  from_ref (makes_ref e) = (e, refl)

  pub from_choice : {p q : ℕ} → Makes k a b (choice p q) → (k ≡ kind.choice) × (a ≡ p) × (b ≡ q)
  from_choice (makes_choice e) = (e, refl, refl)

  pub from_group : {p q : ℕ} → Makes k a b (group p q) → (k ≡ kind.group) × (a ≡ p) × (b ≡ q)
  from_group (makes_group e) = (e, refl, refl)

  pub from_interleave : {p q : ℕ} → Makes k a b (interleave p q) → (k ≡ kind.interleave) × (a ≡ p) × (b ≡ q)
  from_interleave (makes_interleave e) = (e, refl, refl)

-- the operands of a group or interleave at row p
pub record Sides (s : List ℕ) (p p₁ p₂ : ℕ) : Type 0 where
  pub is_sharing : sharing_kind (kind_of s p) ≡ true
  pub not_whole : holds_whole (kind_of s p) ≡ false
  pub first : child_a s p ≡ p₁
  pub second : child_b s p ≡ p₂
  pub first_child : Child s p₁ p
  pub second_child : Child s p₂ p
  pub first_pattern : is_pattern (sort_of s p₁) ≡ true
  pub second_pattern : is_pattern (sort_of s p₂) ≡ true

module _ {strings : ℕ} {s : List ℕ} (right : RowsRight strings s) where
  -- a row of a kind that is given is in the table
  pub has_kind : {p k : ℕ} → kind_of s p ≡ k → k ≢ 0 → p < rows_of s
  has_kind e n = in_table (right_size right) (λ z. n (sym e ∙ z))

  module _ (p : ℕ) where
    -- r is a child of p and a pattern
    abbrev Sub : ℕ → Type 0
    Sub r = Child s r p × (is_pattern (sort_of s r) ≡ true)

    field_a : {k : ℕ} → kind_of s p ≡ k → k ≢ 0 → (shape_of k).a ≡ APattern → Sub (a_of s p)
    field_a {k} e f g = let n = pattern_a strings s right p (has_kind e f) k e g in (by_a n.0 refl, n.1)

    field_b : {k : ℕ} → kind_of s p ≡ k → k ≢ 0 → (shape_of k).b ≡ APattern → Sub (b_of s p)
    field_b {k} e f g = let n = pattern_b strings s right p (has_kind e f) k e g in (by_b n.0 refl, n.1)

    field_except : kind_of s p ≡ kind.«data» → b_of s p ≢ kind.no_row → Sub (b_of s p)
    unfolding shape_of
    field_except e f =
        ⊎_elim (λ z. absurd (f z)) (λ n. (by_b n.0 refl, n.1))
        (pattern_or_none strings s right p (has_kind e (λ z. omega arith)) kind.«data» e refl)

    part_sub : {r : ℕ} {x : Pattern} → Subpattern r x → Makes (kind_of s p) (a_of s p) (b_of s p) x → Sub r
    unfolding shape_of
    part_sub (operand repeated) (makes_one_or_more e) = field_a e (λ z. omega arith) refl
    part_sub (operand choice_first) (makes_choice e) = field_a e (λ z. omega arith) refl
    part_sub (operand choice_second) (makes_choice e) = field_b e (λ z. omega arith) refl
    part_sub (operand group_first) (makes_group e) = field_a e (λ z. omega arith) refl
    part_sub (operand group_second) (makes_group e) = field_b e (λ z. omega arith) refl
    part_sub (operand interleave_first) (makes_interleave e) = field_a e (λ z. omega arith) refl
    part_sub (operand interleave_second) (makes_interleave e) = field_b e (λ z. omega arith) refl
    part_sub of_list (makes_list e) = field_a e (λ z. omega arith) refl
    part_sub of_attribute (makes_attribute e) = field_b e (λ z. omega arith) refl
    part_sub of_except (makes_except e f) = field_except e f

    -- a part of the pattern at row p is a child of p, and a pattern
    pub part_child : {r : ℕ} → Subpattern r (pattern_of s p) → Child s r p
    part_child i = (part_sub i (row_makes s p refl)).0

    pub part_pattern : {r : ℕ} → Subpattern r (pattern_of s p) → is_pattern (sort_of s r) ≡ true
    part_pattern i = (part_sub i (row_makes s p refl)).1

    sides : {k : ℕ} → kind_of s p ≡ k → k ≢ 0 → sharing_kind k ≡ true → holds_whole k ≡ false
        → (shape_of k).a ≡ APattern → (shape_of k).b ≡ APattern → Sides s p (a_of s p) (b_of s p)
    sides {k} e n i w f g =
        let a = pattern_a strings s right p (has_kind e n) k e f in
        let b = pattern_b strings s right p (has_kind e n) k e g in
        record {
          is_sharing = ap sharing_kind e ∙ i;
          not_whole = ap holds_whole e ∙ w;
          first = rw a.0;
          second = rw b.0;
          first_child = by_a a.0 refl;
          second_child = by_b b.0 refl;
          first_pattern = a.1;
          second_pattern = b.1;
        }

    pub group_sides : {p₁ p₂ : ℕ} → pattern_of s p ≡ group p₁ p₂ → Sides s p p₁ p₂
    unfolding shape_of
    group_sides e =
        let m = from_group (row_makes s p e) in
        rw (m.1, m.2) at (sides m.0 (λ z. omega arith) refl refl refl refl)

    pub interleave_sides : {p₁ p₂ : ℕ} → pattern_of s p ≡ interleave p₁ p₂ → Sides s p p₁ p₂
    unfolding shape_of
    interleave_sides e =
        let m = from_interleave (row_makes s p e) in
        rw (m.1, m.2) at (sides m.0 (λ z. omega arith) refl refl refl refl)

    -- the operand of a oneOrMore
    pub repeated_sides : {q : ℕ} → pattern_of s p ≡ one_or_more q
        → (child_a s p ≡ q) × Child s q p × (is_pattern (sort_of s q) ≡ true)
    unfolding shape_of
    repeated_sides e =
        let m = from_one_or_more (row_makes s p e) in
        let a = pattern_a strings s right p (has_kind m.0 (λ z. omega arith)) kind.one_or_more m.0 refl in
        let f : child_a s p ≡ a_of s p = rw a.0 in
        (f ∙ m.1, by_a a.0 m.1, rw m.1 at a.1)

  operand_connective : {k a b r : ℕ} {x : Pattern} → Operand r x → Makes k a b x → connective k ≡ true
  operand_connective repeated (makes_one_or_more e) = rw e
  operand_connective choice_first (makes_choice e) = rw e
  operand_connective choice_second (makes_choice e) = rw e
  operand_connective group_first (makes_group e) = rw e
  operand_connective group_second (makes_group e) = rw e
  operand_connective interleave_first (makes_interleave e) = rw e
  operand_connective interleave_second (makes_interleave e) = rw e

  -- what an operand of p has occurs in p
  pub operand_occurs : {p r x : ℕ} → Operand r (pattern_of s p) → Occurs s x r → Occurs s x p
  operand_occurs {p} i o = within (operand_connective i (row_makes s p refl)) (part_child p (operand i)) o

module _ {strings : ℕ} (J : Tables) (right : RowsRight strings J.schema) where
  reached : {test : Pattern → Bool} {x : Pattern} → Reaches (lookups J) test x → (p : ℕ)
      → pattern_of J.schema p ≡ x → (r : ℕ) × Occurs J.schema r p × (test (pattern_of J.schema r) ≡ true)
  reached {test} (here h) p e = (p, itself, subst (λ (x : Pattern). test x ≡ true) (sym e) h)
  reached (there r i h) p e =
      let o = reached h r refl in
      (o.0, operand_occurs right (subst (Operand r) (sym e) i) o.1, o.2)

  -- a pattern that p reaches is that of a row that occurs in p
  pub reached_row : {test : Pattern → Bool} (p : ℕ) → Reaches (lookups J) test (pattern_of J.schema p)
      → (r : ℕ) × Occurs J.schema r p × (test (pattern_of J.schema r) ≡ true)
  reached_row p h = reached h p refl

  inside : {x y : Pattern} → Within (lookups J) x y → (p : ℕ) → pattern_of J.schema p ≡ x
      → (r : ℕ) × Occurs J.schema r p × (pattern_of J.schema r ≡ y)
  inside itself p e = (p, itself, e)
  inside (down r i h) p e =
      let o = inside h r refl in
      (o.0, operand_occurs right (subst (Operand r) (sym e) i) o.1, o.2)

  -- the same of a pattern within another
  pub inside_row : {y : Pattern} (p : ℕ) → Within (lookups J) (pattern_of J.schema p) y
      → (r : ℕ) × Occurs J.schema r p × (pattern_of J.schema r ≡ y)
  inside_row p h = inside h p refl

-- what is a child of p, or below one, is below p
under : {s : List ℕ} {p q r : ℕ} → Child s q p → (r ≡ q) ⊎ Below s r q → Below s r p
under {s} {p} d (inl e) = child (subst (λ m. Child s m p) (sym e) d)
under d (inr b) = deeper d b

-- what occurs in p is p or below it
pub occurs_below : {s : List ℕ} {r p : ℕ} → Occurs s r p → (r ≡ p) ⊎ Below s r p
occurs_below itself = inl refl
occurs_below (within c d o) = inr (under d (occurs_below o))

pub child_below : {s : List ℕ} {p q r : ℕ} → Child s q p → Occurs s r q → Below s r p
child_below d o = under d (occurs_below o)
