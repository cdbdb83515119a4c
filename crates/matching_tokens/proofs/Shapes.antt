-- The tree that a row shows, by the row's pattern.
use mathlib.Core.Path.{◌≡◌, refl, sym, ◌∙◌, ap, subst}
use mathlib.Core.Bool.{Bool, true, false, true≢false}
use mathlib.Core.Logic.{◌≢◌}
use mathlib.Core.List.{List}
use Prim.Native.Nat.{ℕ}
use native.Mathlib.Omega.{arith}
use Rattle.tables.specs.Tables.{Tables}
use Rattle.schema.specs.Kinds as kind
use Rattle.schema.specs.Rows.{kind_of}
use Rattle.schema.specs.Views.{Pattern}
use Rattle.schema.specs.Views as pattern
use Rattle.matching_rules.specs.Items.{Lookups}
use Rattle.matching_rules.specs.Job.{lookups}
use Rattle.matching_rules.proofs.RowPatterns.{Makes, makes_empty, makes_not_allowed, makes_text, makes_data}
use Rattle.matching_rules.proofs.RowPatterns.{makes_except, makes_value, makes_list, makes_attribute, makes_ref}
use Rattle.matching_rules.proofs.RowPatterns.{makes_one_or_more, makes_choice, makes_group, makes_interleave}
use Rattle.matching_rules.proofs.RowPatterns.{makes_none, row_makes, from_one_or_more, from_choice, from_group}
use Rattle.matching_tokens.specs.Marked.{Tree, empty, leaf, one_or_more, choice, group, is_data, TakesRight, Shows}
use Rattle.matching_tokens.specs.Marked.{shows_empty, shows_leaf, shows_one_or_more, shows_choice, shows_group}

no_data : {x y : Pattern} → is_data x ≡ true → x ≡ y → is_data y ≡ false → ⊥
no_data d e n = true≢false (sym d ∙ ap is_data e ∙ n)

module _ (L : Lookups) (N : List ℕ → ℕ → Type 0) where
  pub record LeafShown (r : ℕ) (p : Tree) : Type 0 where
    pub takes : List ℕ → Bool
    pub tree : p ≡ leaf r takes
    pub right : TakesRight L N takes (L.pattern r)

  pub record RepeatShown (r a : ℕ) (p : Tree) : Type 0 where
    pub part : Tree
    pub tree : p ≡ one_or_more r part
    pub shows : Shows L N a part

  pub record TwoShown (node : ℕ → Tree → Tree → Tree) (r a b : ℕ) (p : Tree) : Type 0 where
    pub first : Tree
    pub then : Tree
    pub tree : p ≡ node r first then
    pub shows_a : Shows L N a first
    pub shows_b : Shows L N b then

-- a pattern that is no data and no value, and has no parts
pub record Childless (L : Lookups) (r : ℕ) : Type 0 where
  pub no_leaf : is_data (L.pattern r) ≡ false
  pub no_repeat : (a : ℕ) → L.pattern r ≢ pattern.one_or_more a
  pub no_choice : (a b : ℕ) → L.pattern r ≢ pattern.choice a b
  pub no_group : (a b : ℕ) → L.pattern r ≢ pattern.group a b

module _ {L : Lookups} {N : List ℕ → ℕ → Type 0} where
  pub shown_leaf : {r : ℕ} {p : Tree} → Shows L N r p → is_data (L.pattern r) ≡ true → LeafShown L N r p
  shown_leaf (shows_leaf {takes = f} d t) e = record { takes = f; tree = refl; right = t }
  shown_leaf (shows_empty f) e = absurd (no_data e f refl)
  shown_leaf (shows_one_or_more f h s) e = absurd (no_data e f refl)
  shown_leaf (shows_choice f h g s t) e = absurd (no_data e f refl)
  shown_leaf (shows_group f h g s t) e = absurd (no_data e f refl)

  pub shown_empty : {r : ℕ} {p : Tree} → Shows L N r p → Childless L r → p ≡ empty r
  shown_empty (shows_empty f) n = refl
  shown_empty (shows_leaf d t) n = absurd (true≢false (sym d ∙ n.no_leaf))
  shown_empty (shows_one_or_more {a = a} f h s) n = absurd (n.no_repeat a f)
  shown_empty (shows_choice {a = a} {b = b} f h g s t) n = absurd (n.no_choice a b f)
  shown_empty (shows_group {a = a} {b = b} f h g s t) n = absurd (n.no_group a b f)

  moved : {a b : ℕ} (p : Tree) → a ≡ b → Shows L N a p → Shows L N b p
  moved p e s = subst (λ (x : ℕ). Shows L N x p) e s

  pub shown_one_or_more : {r a : ℕ} {p : Tree} → Shows L N r p
      → L.pattern r ≡ pattern.one_or_more a → RepeatShown L N r a p
  shown_one_or_more {a = x} (shows_one_or_more {a = a} {p = q} f h s) e =
      let same : a ≡ x = cc in
      record { part = q; tree = refl; shows = moved q same s }
  shown_one_or_more (shows_leaf d t) e = absurd (no_data d e refl)
  shown_one_or_more (shows_empty f) e = let z : ◌≡◌ {A = ℕ} 0 1 = cc (e, f) in absurd (omega arith)
  shown_one_or_more (shows_choice f h g s t) e = let z : ◌≡◌ {A = ℕ} 0 1 = cc (e, f) in absurd (omega arith)
  shown_one_or_more (shows_group f h g s t) e = let z : ◌≡◌ {A = ℕ} 0 1 = cc (e, f) in absurd (omega arith)

  pub shown_choice : {r a b : ℕ} {p : Tree} → Shows L N r p
      → L.pattern r ≡ pattern.choice a b → TwoShown L N choice r a b p
  shown_choice {a = x} {b = y} (shows_choice {a = a} {b = b} {p = p} {q = q} f h g s t) e =
      let first : a ≡ x = cc in
      let then : b ≡ y = cc in
      record { first = p; then = q; tree = refl; shows_a = moved p first s; shows_b = moved q then t }
  shown_choice (shows_leaf d t) e = absurd (no_data d e refl)
  shown_choice (shows_empty f) e = let z : ◌≡◌ {A = ℕ} 0 1 = cc (e, f) in absurd (omega arith)
  shown_choice (shows_one_or_more f h s) e = let z : ◌≡◌ {A = ℕ} 0 1 = cc (e, f) in absurd (omega arith)
  shown_choice (shows_group f h g s t) e = let z : ◌≡◌ {A = ℕ} 0 1 = cc (e, f) in absurd (omega arith)

  pub shown_group : {r a b : ℕ} {p : Tree} → Shows L N r p
      → L.pattern r ≡ pattern.group a b → TwoShown L N group r a b p
  shown_group {a = x} {b = y} (shows_group {a = a} {b = b} {p = p} {q = q} f h g s t) e =
      let first : a ≡ x = cc in
      let then : b ≡ y = cc in
      record { first = p; then = q; tree = refl; shows_a = moved p first s; shows_b = moved q then t }
  shown_group (shows_leaf d t) e = absurd (no_data d e refl)
  shown_group (shows_empty f) e = let z : ◌≡◌ {A = ℕ} 0 1 = cc (e, f) in absurd (omega arith)
  shown_group (shows_one_or_more f h s) e = let z : ◌≡◌ {A = ℕ} 0 1 = cc (e, f) in absurd (omega arith)
  shown_group (shows_choice f h g s t) e = let z : ◌≡◌ {A = ℕ} 0 1 = cc (e, f) in absurd (omega arith)

-- a row of a kind that is no data, no value and has no parts
no_leaf_made : {k a b : ℕ} {x : Pattern} → Makes k a b x → k ≢ kind.«data» → k ≢ kind.value → is_data x ≡ false
no_leaf_made (makes_empty e) d v = refl
no_leaf_made (makes_not_allowed e) d v = refl
no_leaf_made (makes_text e) d v = refl
no_leaf_made (makes_data e f) d v = absurd (d e)
no_leaf_made (makes_except e f) d v = absurd (d e)
no_leaf_made (makes_value e) d v = absurd (v e)
no_leaf_made (makes_list e) d v = refl
no_leaf_made (makes_attribute e) d v = refl
no_leaf_made (makes_ref e) d v = refl
no_leaf_made (makes_one_or_more e) d v = refl
no_leaf_made (makes_choice e) d v = refl
no_leaf_made (makes_group e) d v = refl
no_leaf_made (makes_interleave e) d v = refl
no_leaf_made (makes_none n) d v = refl

pub childless : (J : Tables) (r : ℕ) → kind_of J.schema r ≢ kind.«data»
    → kind_of J.schema r ≢ kind.value → kind_of J.schema r ≢ kind.one_or_more
    → kind_of J.schema r ≢ kind.choice → kind_of J.schema r ≢ kind.group → Childless (lookups J) r
childless J r d v o c g = record {
  no_leaf = no_leaf_made (row_makes J.schema r refl) d v;
  no_repeat = λ a e. o (from_one_or_more (row_makes J.schema r e)).0;
  no_choice = λ a b e. c (from_choice (row_makes J.schema r e)).0;
  no_group = λ a b e. g (from_group (row_makes J.schema r e)).0;
}
