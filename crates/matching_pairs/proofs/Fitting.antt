-- One definition against the attributes and items of an element.
use Prim.Native.Nat.{ℕ, ◌+◌, ◌*◌, ◌≤◌, ◌<◌}
use mathlib.Core.Path.{◌≡◌, sym, ◌∙◌}
use mathlib.Core.Bool.{Bool, true, false, true≢false, false≢true}
use mathlib.Core.List.{List}
use mathlib.Core.Logic.{◌⊎◌, inr, ⊎_elim, ⊎_map}
use native.Mathlib.Omega.{arith}
use lib.ListN.{length, get_or}
use lib.Dec.{ltb}
use borrow.Author.Tests.{ltb-true}
use Rattle.tables.specs.Tables.{Tables}
use Rattle.tables.specs.Answers.{Decides}
use Rattle.schema.specs.Rows.{rows_of, a_of, b_of, sort_of, shape_of, is_pattern}
use Rattle.schema.specs.RowRule.{max_rows, RowsRight}
use Rattle.schema.proofs.RowLaws.{few_rows, right_size}
use Rattle.schema.proofs.Fields.{both_fields}
use Rattle.schema.proofs.Sorts.{definition_kind}
use Rattle.schema.specs.Definitions.{is_definition}
use Rattle.instance.specs.Nodes as node
use Rattle.instance.specs.Elements as element
use Rattle.schema_classes.specs.Membership.{in_class}
use Rattle.sets.specs.Bits.{positions, bit}
use Rattle.relations.specs.Relations.{Relation}
use Rattle.relations.specs.Words.{Is, front}
use Rattle.sets.proofs.Members.{none_has}
use Rattle.relations.proofs.Words.{front_at}
use Rattle.tables.proofs.Booleans.{and_left}
use Rattle.matching_marks.specs.Given.{item_at, Given, Markable, MarksPattern}
use Rattle.matching.specs.Setting.{Setting, Asked, Covered, Relatable}
use Rattle.matching_pairs.specs.Pairs.{IsPair}
use Rattle.matching_pairs.specs.Rows.{Fits, Shown, Space, PairAsked}

-- a test that reads one pair of a relation from its words
pub word_tells : (n : ℕ) (w : List ℕ) (R : Relation) {v : ℕ} {r : Bool}
    → Is (front (n + 1) w) R → v ≡ get_or w 0 0 → r ≡ bit v n → Decides (R 0 n) r
word_tells n w R {v} {r} is e f = go r f
  where
    at : bit v n ≡ bit (get_or (front (n + 1) w) 0 0) n
    at = rw (front_at (n + 1) w 0 (omega arith), e)

    go : (r : Bool) → r ≡ bit v n → Decides (R 0 n) r
    go true f = is.sound 0 n (sym at ∙ sym f)
    go false f = λ x. false≢true (f ∙ at ∙ is.complete 0 n x)

-- either of two, where the first fails
pub second_tells : (A B : Type 0) (w r : Bool) → ¬ A → w ≡ true → Decides B r → Decides (A ⊎ ((w ≡ true) × B)) r
second_tells A B w true f e x = inr (e, x)
second_tells A B w false f e x = ⊎_elim f (λ y. x y.1)

-- the pattern of a definition is a row of the table
pub content_row : {strings : ℕ} {s : List ℕ} → RowsRight strings s
    → (d : ℕ) → d < rows_of s → is_definition s d ≡ true → b_of s d < rows_of s
unfolding shape_of
content_row {strings} {s} right d h f =
    let e = definition_kind s d f in
    let i = ltb-true (b_of s d) d
    (and_left (ltb (b_of s d) d) (is_pattern (sort_of s (b_of s d))) (rw e at (both_fields strings s right d h).1)) in
    omega arith

-- the same attributes with no items
pub asked_none : {s : List ℕ} (S : Setting s) (a k : ℕ) → Asked S a k → Asked S a 0
asked_none S a k q = record {
  of_attributes = q.of_attributes;
  of_items = λ x h. absurd (none_has x h);
  distinct = q.distinct;
  clean = λ h j e m x. absurd (none_has h x);
}

-- an element and a definition, where the attributes and items stand for the element
module _ {J : Tables} {alone nothing blank pairs items : List ℕ} {e attributes texts : ℕ}
    (g : Given J alone nothing blank pairs items e attributes texts)
    {a k : ℕ} {weak : Bool} (shown : Shown J items e attributes texts a k weak) where
  abbrev s : List ℕ
  s = J.schema

  abbrev t : List ℕ
  t = J.instance

  abbrev pub setting : Setting J.schema
  setting = record {
    strings = J.strings;
    instance = t;
    passes = g.passes;
    element = e;
    attributes = attributes;
    it = item_at J.strings items texts;
    items = length items;
  }

  pub asked : Asked setting a k
  asked = record {
    of_attributes = shown.of_attributes;
    of_items = shown.of_items;
    distinct = shown.distinct;
    clean = shown.clean;
  }

  -- the relation of a pattern whose rows are marked can be asked for
  relatable : {marks named taken single work : List ℕ} {p : ℕ} → p < rows_of s
      → Covered setting marks named taken single p → positions * max_rows ≤ length work
      → Relatable s marks named taken single (length items + 1) a k p work
  relatable row covered room =
      let rows = few_rows (right_size g.passes.rows) in
      let few = g.few_items in
      record { setting = setting; asked = asked; covered = covered; few = omega arith; room = omega arith }

  module _ (d : ℕ) where
    pub no_name : in_class s (node.a_of t e) (node.b_of t e) (a_of s d) ≡ false → ¬ IsPair J e d
    no_name f x = true≢false (sym x.1.named ∙ f)

    -- with the right name the content tells
    pub content_told : element.is_element t e ≡ true → is_definition s d ≡ true
        → in_class s (node.a_of t e) (node.b_of t e) (a_of s d) ≡ true → (r : Bool)
        → Decides (Fits setting (length items) a k weak (b_of s d)) r → Decides (IsPair J e d) r
    content_told i f h true c = (
      i,
      record {
        defined = f;
        ordered = shown.ordered;
        named = h;
        content = (shown.content d f).1 (⊎_map (λ x. x.1) (λ x. (x.0, x.1.1)) c);
      },
    )
    content_told i f h false n = λ x. n (⊎_map (λ y. (omega arith, y)) (λ y. (y.0, (omega arith, y.1)))
        ((shown.content d x.1.defined).0 x.1.content))

-- the same relation without items, with the words as they were left
pub relatable_none : {s marks named taken single work after : List ℕ} {m a k p : ℕ}
    → Relatable s marks named taken single m a k p work → length after ≡ length work
    → Relatable s marks named taken single m a 0 p after
relatable_none {a = a} {k = k} r size =
    let room = r.room in
    record {
      setting = r.setting;
      asked = asked_none r.setting a k r.asked;
      covered = r.covered;
      few = r.few;
      room = omega arith;
    }

-- what an element and a definition are asked with, for the pattern p of the definition
module _ {s t alone nothing blank pairs items : List ℕ} {e attributes texts a k : ℕ} {weak : Bool} {d : ℕ}
    (q : PairAsked s t alone nothing blank pairs items e attributes texts a k weak d) {p : ℕ} (is : p ≡ b_of s d) where
  pattern_row : p < rows_of s
  pattern_row = rw is (content_row q.given.passes.rows d q.row q.defined)

  pub markable : {marks named taken single work : List ℕ} → Space marks named taken single work
      → Markable s t alone nothing blank pairs items e attributes texts p marks named taken single
  markable space =
      let rows = few_rows (right_size q.given.passes.rows) in
      let h₁ = space.for_marks in
      let h₂ = space.for_named in
      let h₃ = space.for_taken in
      let h₄ = space.for_single in
      record {
        strings = q.strings;
        given = q.given;
        row = pattern_row;
        room_marks = omega arith;
        room_named = omega arith;
        room_taken = omega arith;
        room_single = omega arith;
      }

  pub pair_relatable : {marks₀ named₀ taken₀ single₀ marks named taken single work : List ℕ} {n : ℕ} → MarksPattern s
      t alone nothing blank pairs items e attributes texts p marks₀ named₀ taken₀ single₀ marks named taken single
      → n ≡ length items → positions * max_rows ≤ length work → Relatable s marks named taken single (n + 1) a k p work
  pair_relatable m size room =
      rw size (relatable q.given q.shown pattern_row (m.marking q.strings q.given).pattern room)
