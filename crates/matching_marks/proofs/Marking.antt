-- The rows of a pattern are marked: its operands first, and then its own row. Whatever is stored at a row is right, so
-- that operands need not be disjoint.
use mathlib.Core.Path.{◌≡◌, refl, sym, ◌∙◌, subst}
use mathlib.Core.Logic.{◌⊎◌, inl, inr, ◌≢◌}
use mathlib.Core.Bool.{true, false≢true}
use mathlib.Core.List.{List}
use Prim.Native.Nat.{ℕ, suc, ◌≤◌, ◌<◌}
use native.Mathlib.Omega.{arith}
use native.Mathlib.Decide.{dec_lt, ℕ_discrete}
use lib.Dec.{leb}
use lib.ListN.{length, get_or, set}
use lib.Seq.{get_or-set_same, get_or-set_other}
use borrow.Author.Tests.{le-leb, lt-leb, leb-true}
use Rattle.tables.specs.Tables.{Tables}
use Rattle.tables.proofs.Numbers.{not_less}
use Rattle.schema.specs.Relations.{connective, Child, by_a, by_b, Occurs, itself, within}
use Rattle.schema.specs.RowRule.{RowsRight}
use Rattle.schema.specs.Rows.{kind_of, a_of, b_of, shape_of}
use Rattle.schema.specs.Kinds as kind
use Rattle.schema.specs.Views.{pattern_of}
use Rattle.schema.proofs.Children.{child_less}
use Rattle.matching_rules.specs.Items.{Item}
use Rattle.tables.proofs.Booleans.{and_left, and_right}
use Rattle.matching_rules.specs.Reach.{Operand, operand}
use Rattle.matching_rules.proofs.RowPatterns.{part_child, operand_occurs}
use Rattle.matching_marks.specs.Answers.{first_operand, second_operand}
use Rattle.matching_marks.specs.Marks.{LeafWord, NamedWord, TakenWord, SingleWord}
use Rattle.matching_marks.specs.Marks.{RowMarked, PatternMarked, StayMarked, Marking}

-- the operands of a row by its kind
module _ (s : List ℕ) (p : ℕ) where
  pub first_is : kind.one_or_more ≤ kind_of s p → kind_of s p < suc kind.interleave → first_operand s p ≡ a_of s p
  unfolding first_operand
  first_is h l = rw (le-leb kind.one_or_more (kind_of s p) h, le-leb (kind_of s p) kind.interleave (omega arith))

  pub first_none : (kind.one_or_more ≤ kind_of s p → ¬ (kind_of s p < suc kind.interleave)) → first_operand s p ≡ p
  unfolding first_operand
  first_none f = go (dec_lt (kind_of s p) kind.one_or_more)
    where
      go : Dec (kind_of s p < kind.one_or_more) → first_operand s p ≡ p
      go (yes h) = rw (lt-leb kind.one_or_more (kind_of s p) h)
      go (no h) =
          let l = not_less h in
          let m = not_less (f l) in
          rw (le-leb kind.one_or_more (kind_of s p) l, lt-leb (kind_of s p) kind.interleave (omega arith))

  pub second_is : kind.choice ≤ kind_of s p → kind_of s p < suc kind.interleave → second_operand s p ≡ b_of s p
  unfolding second_operand
  second_is h l = rw (le-leb kind.choice (kind_of s p) h, le-leb (kind_of s p) kind.interleave (omega arith))

  pub second_none : (kind.choice ≤ kind_of s p → ¬ (kind_of s p < suc kind.interleave)) → second_operand s p ≡ p
  unfolding second_operand
  second_none f = go (dec_lt (kind_of s p) kind.choice)
    where
      go : Dec (kind_of s p < kind.choice) → second_operand s p ≡ p
      go (yes h) = rw (lt-leb kind.choice (kind_of s p) h)
      go (no h) =
          let l = not_less h in
          let m = not_less (f l) in
          rw (le-leb kind.choice (kind_of s p) l, lt-leb (kind_of s p) kind.interleave (omega arith))

  -- a oneOrMore has no child by its field b
  no_second : kind_of s p ≡ kind.one_or_more → {r : ℕ} → Child s r p → r ≡ a_of s p
  unfolding shape_of
  no_second z (by_a n e) = sym e
  no_second z (by_b n e) = absurd (false≢true (rw z at n))

  child_operand : connective (kind_of s p) ≡ true → {r : ℕ}
      → Child s r p → (r ≡ first_operand s p) ⊎ (r ≡ second_operand s p)
  child_operand c {r} d = go (ℕ_discrete (kind_of s p) kind.one_or_more) d
    where
      low : kind.one_or_more ≤ kind_of s p
      low =
          leb-true kind.one_or_more (kind_of s p)
          (and_left (leb kind.one_or_more (kind_of s p)) (leb (kind_of s p) kind.interleave) c)

      high : kind_of s p ≤ kind.interleave
      high =
          leb-true (kind_of s p) kind.interleave
          (and_right (leb kind.one_or_more (kind_of s p)) (leb (kind_of s p) kind.interleave) c)

      go : Dec (kind_of s p ≡ kind.one_or_more) → Child s r p → (r ≡ first_operand s p) ⊎ (r ≡ second_operand s p)
      go (yes z) d = inl (no_second z d ∙ sym (first_is low (let h = high in omega arith)))
      go (no z) (by_a n e) = inl (sym e ∙ sym (first_is low (let h = high in omega arith)))
      go (no z) (by_b n e) = inr (sym e ∙ sym (second_is (let h = low in omega arith) (let h = high in omega arith)))

-- what occurs in p is p, or occurs in a child of it
occurs_split : {s : List ℕ} {q p : ℕ} → Occurs s q p
    → (q ≡ p) ⊎ ((r : ℕ) × (connective (kind_of s p) ≡ true) × Child s r p × Occurs s q r)
occurs_split itself = inl refl
occurs_split (within {q = r} c d o) = inr (r, c, d, o)

-- a word that is stored at row n
put_same : (P : ℕ → Type 0) (words : List ℕ) (n v : ℕ) → n < length words → P v → P (get_or (set words n v) n 0)
put_same P words n v h x = rw (get_or-set_same words n v 0 h) x

put_other : (P : ℕ → Type 0) (words : List ℕ) (n r v : ℕ) → r ≢ n → P (get_or words r 0)
    → P (get_or (set words n v) r 0)
put_other P words n r v f x = rw (get_or-set_other words n r v 0 (λ e. f (omega arith))) x

module _ (J : Tables) (e attributes : ℕ) (it : ℕ → Item) (items : ℕ) where
  abbrev s : List ℕ
  s = J.schema

  abbrev Row : (marks named taken single : List ℕ) → ℕ → Type 0
  Row = RowMarked J e attributes it items

  abbrev Pattern : (marks named taken single : List ℕ) → ℕ → Type 0
  Pattern = PatternMarked J e attributes it items

  abbrev Stay : (marks₀ named₀ taken₀ single₀ marks named taken single : List ℕ) → Type 0
  Stay = StayMarked J e attributes it items

  pub stays_same : {marks named taken single : List ℕ} → Stay marks named taken single marks named taken single
  stays_same = record { stays = λ q m. m }

  module _ (marks named taken single : List ℕ) (p u v w x : ℕ) where
    -- right words are stored at row p: it is marked then, and so is every row that was
    pub row_stored : p < length marks → p < length named → p < length taken → p < length single
        → LeafWord J e attributes it items p u → NamedWord J e attributes p v
        → TakenWord J it items p w → SingleWord J e attributes p x
        → Stay marks named taken single (set marks p u) (set named p v) (set taken p w) (set single p x)
        × Row (set marks p u) (set named p v) (set taken p w) (set single p x) p
    row_stored h₁ h₂ h₃ h₄ leaf name take only = (record { stays = λ q m. go q m (ℕ_discrete q p) }, new)
      where
        new : Row (set marks p u) (set named p v) (set taken p w) (set single p x) p
        new = record {
          leaf = put_same (LeafWord J e attributes it items p) marks p u h₁ leaf;
          names = put_same (NamedWord J e attributes p) named p v h₂ name;
          takers = put_same (TakenWord J it items p) taken p w h₃ take;
          singles = put_same (SingleWord J e attributes p) single p x h₄ only;
        }

        go : (q : ℕ) → Row marks named taken single q → Dec (q ≡ p)
            → Row (set marks p u) (set named p v) (set taken p w) (set single p x) q
        go q m (yes z) = subst (Row (set marks p u) (set named p v) (set taken p w) (set single p x)) (sym z) new
        go q m (no z) = record {
          leaf = put_other (LeafWord J e attributes it items q) marks p q u z m.leaf;
          names = put_other (NamedWord J e attributes q) named p q v z m.names;
          takers = put_other (TakenWord J it items q) taken p q w z m.takers;
          singles = put_other (SingleWord J e attributes q) single p q x z m.singles;
        }

  -- the rows in the operands of row p are marked, one operand after the other
  module _ {marks₀ named₀ taken₀ single₀ marks₁ named₁ taken₁ single₁ marks named taken single : List ℕ}
      (p first second : ℕ) where
    pub operands_marked : first ≡ first_operand s p → second ≡ second_operand s p
        → Stay marks₀ named₀ taken₀ single₀ marks₁ named₁ taken₁ single₁
        × (first < p → Pattern marks₁ named₁ taken₁ single₁ first)
        → Stay marks₁ named₁ taken₁ single₁ marks named taken single
        × (second < p → Pattern marks named taken single second)
        → Stay marks₀ named₀ taken₀ single₀ marks named taken single
        × ((q : ℕ) → Occurs s q p → q ≢ p → Row marks named taken single q)
    operands_marked f g one two =
        (record { stays = λ q m. two.0.stays q (one.0.stays q m) }, λ q o n. at q n (occurs_split o))
      where
        below : (q r : ℕ) → Child s r p → Occurs s q r
            → (r ≡ first_operand s p) ⊎ (r ≡ second_operand s p) → Row marks named taken single q
        below q r d o (inl i) =
            let k : r ≡ first = i ∙ sym f in
            two.0.stays q ((one.1 (subst (λ (x : ℕ). x < p) k (child_less d))).rows q (subst (Occurs s q) k o))
        below q r d o (inr i) =
            let k : r ≡ second = i ∙ sym g in
            (two.1 (subst (λ (x : ℕ). x < p) k (child_less d))).rows q (subst (Occurs s q) k o)

        at : (q : ℕ) → q ≢ p → (q ≡ p) ⊎ ((r : ℕ) × (connective (kind_of s p) ≡ true) × Child s r p × Occurs s q r)
            → Row marks named taken single q
        at q n (inl z) = absurd (n z)
        at q n (inr (r, c, d, o)) = below q r d o (child_operand s p c d)

  -- the pattern at row p is marked once its operands are, and then its row
  module _ {marks₀ named₀ taken₀ single₀ marks₁ named₁ taken₁ single₁ marks named taken single : List ℕ}
      {strings : ℕ} (right : RowsRight strings s) (p : ℕ) where
    pub pattern_marked : Stay marks₀ named₀ taken₀ single₀ marks₁ named₁ taken₁ single₁
        × ((q : ℕ) → Occurs s q p → q ≢ p → Row marks₁ named₁ taken₁ single₁ q)
        → (((r : ℕ) → Operand r (pattern_of s p) → Row marks₁ named₁ taken₁ single₁ r)
        → Stay marks₁ named₁ taken₁ single₁ marks named taken single × Row marks named taken single p)
        → Marking J e attributes it items marks₀ named₀ taken₀ single₀ marks named taken single p
    pattern_marked below own = record {
      kept = record { stays = λ q m. done.0.stays q (below.0.stays q m) };
      pattern = record { rows = λ q o. at q o (ℕ_discrete q p) };
    }
      where
        operand_marked : (r : ℕ) → Operand r (pattern_of s p) → Row marks₁ named₁ taken₁ single₁ r
        operand_marked r o =
            let l = child_less (part_child right p (operand o)) in
            below.1 r (operand_occurs right o itself) (λ e. omega arith)

        done : Stay marks₁ named₁ taken₁ single₁ marks named taken single × Row marks named taken single p
        done = own operand_marked

        at : (q : ℕ) → Occurs s q p → Dec (q ≡ p) → Row marks named taken single q
        at q o (yes z) = subst (Row marks named taken single) (sym z) done.1
        at q o (no z) = done.0.stays q (below.1 q o z)
