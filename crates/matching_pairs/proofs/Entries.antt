-- The entries of one element, and the table from the last row to the first.
use Prim.Native.Nat.{ℕ, ◌+◌, ◌*◌, ◌≤◌, ◌<◌}
use mathlib.Core.Path.{◌≡◌, refl, sym, ◌∙◌, ap}
use mathlib.Core.Bool.{Bool, true, false, cond, true≢false}
use mathlib.Core.List.{List}
use mathlib.Core.Logic.{◌↔◌, ◌≢◌}
use native.Mathlib.Omega.{arith}
use native.Mathlib.Decide.{ℕ_discrete}
use lib.Dec.{eqb}
use lib.ListN.{length, get_or, take, set, length-set}
use lib.Seq.{get_or-take, get_or-set_same, get_or-set_other, length-take-le}
use borrow.Author.Count.{below_more}
use borrow.Author.Tests.{eq-eqb, eqb-true}
use Rattle.tables.specs.Tables.{Tables}
use Rattle.tables.specs.Outputs.{zeros}
use Rattle.tables.proofs.Fill.{get_or_zeros}
use Rattle.strings.specs.Strings.{at_front, instance_strings}
use Rattle.strings.proofs.Table.{ends_of, few_strings}
use Rattle.schema.specs.Rows.{rows_of}
use Rattle.schema.specs.RowRule.{max_rows}
use Rattle.schema.proofs.RowLaws.{few_rows, right_size}
use Rattle.schema.specs.Definitions.{is_definition, Definitions}
use Rattle.instance.specs.Nodes.{element, text, nodes_of, kind_of}
use Rattle.instance.specs.NodeRule.{max_nodes, bad_size}
use Rattle.instance.specs.Width.{max_width}
use Rattle.instance.proofs.Size.{few_nodes}
use Rattle.instance.specs.Elements.{is_element, children_of}
use Rattle.instance.proofs.Elements.{child_later}
use Rattle.sets.specs.Bits.{bit}
use Rattle.sets.proofs.Bits.{bit_pow}
use Rattle.matching_marks.specs.Marks.{attribute_row}
use Rattle.matching_marks.specs.Given.{pair_entry, Given}
use Rattle.sets.specs.Collecting.{Collects}
use Rattle.matching_contents.specs.Contents.{Counted, Begins, of_kind, Itemized, Contents}
use Rattle.matching_contents.proofs.AttributeWord.{value_string, few_counted}
use Rattle.matching_contents.proofs.ItemRuns.{Kind, is_text, is_element_lem, kind_at}
use Rattle.matching_contents.proofs.ItemRuns.{child_at, few_listed, collected_contents}
use Rattle.matching_alone.specs.Alone.{Filled}
use Rattle.matching_pairs.specs.Pairs.{IsPair, TablesPass}
use Rattle.matching_pairs.specs.Rows.{RowKept, RowTold, RowRight, Filling}
use Rattle.matching_pairs.specs.Rows.{Known, is_solid, ElementReady, StandsFor}
use Rattle.matching_pairs.proofs.Showing.{text_item, mixed_shown, simple_shown, string_known}

-- what the words are made from stays, where only the row of e changes
pub given_kept : {J : Tables} {alone nothing blank before after items : List ℕ} {e attributes texts : ℕ}
    → Given J alone nothing blank before items e attributes texts
    → ((x : ℕ) → x < length items → bit texts x ≡ false → get_or items x 0 ≢ e)
    → RowKept before after e → Given J alone nothing blank after items e attributes texts
given_kept {items = items} g apart r = record {
  passes = g.passes;
  few_strings = g.few_strings;
  alone_right = g.alone_right;
  blank_right = g.blank_right;
  few_attributes = g.few_attributes;
  few_items = g.few_items;
  values = g.values;
  strings = g.strings;
  elements = λ k d m b i. let few = few_rows (right_size g.passes.rows) in
      rw (r.kept (get_or items k 0) d (apart k m b) (omega arith)) (g.elements k d m b i);
}

-- the row of e while it is filled
module _ {J : Tables} {definitions before : List ℕ} {e : ℕ} where
  pub row_none : RowTold J definitions before before e 0
  row_none = record {
    others = record { size = refl; kept = λ x d h l. refl };
    told = λ j h. absurd (omega arith);
    rest = λ d h f. refl;
  }

  pub row_more : {now : List ℕ} {n d v : ℕ} → Definitions J.schema definitions (length definitions)
      → n < length definitions → d ≡ get_or definitions n 0 → d < max_rows → e * max_rows + d < length now
      → (v ≡ 1) ↔ IsPair J e d → RowTold J definitions before now e n
      → RowTold J definitions before (set now (e * max_rows + d) v) e (n + 1)
  row_more {now} {n} {d} {v} defs listed is low l p r = record {
    others = record {
      size = length-set now (e * max_rows + d) v ∙ r.others.size;
      kept = λ x c f m.
          get_or-set_other now (e * max_rows + d) (x * max_rows + c) v 0 (λ z. f (omega arith)) ∙ r.others.kept x c f m;
    };
    told =
        below_more (λ (j : ℕ). (pair_entry (set now (e * max_rows + d) v) e (get_or definitions j 0) ≡ 1)
        ↔ IsPair J e (get_or definitions j 0)) n
        (λ j m. let i = defs.rising j n m listed in rw (get_or-set_other now (e * max_rows + d)
        (e * max_rows + get_or definitions j 0) v 0 (λ z. omega arith)) (r.told j m))
        (rw (← is) (rw (get_or-set_same now (e * max_rows + d) v 0 l) p));
    rest =
        λ c m f. get_or-set_other now (e * max_rows + d) (e * max_rows + c) v 0 (λ z. f n (omega arith) (omega arith))
        ∙ r.rest c m (λ j h. f j (omega arith));
  }

  -- a row that is no definition is in no pair
  pub row_right_lem : {after : List ℕ} → rows_of J.schema ≤ max_rows
      → Definitions J.schema definitions (length definitions) → ((d : ℕ) → d < max_rows → pair_entry before e d ≡ 0)
      → RowTold J definitions before after e (length definitions)
      → RowRight J before after e
  row_right_lem {after} few defs empty r =
      record { others = r.others; right = λ d h. go d h (is_definition J.schema d) refl }
    where
      go : (d : ℕ) → d < rows_of J.schema → (b : Bool)
          → is_definition J.schema d ≡ b → (pair_entry after e d ≡ 1) ↔ IsPair J e d
      go d h true f = let i = defs.every d h f in rw i.2 at (r.told i.0 i.1)
      go d h false f =
          let z : pair_entry after e d ≡ 0 = r.rest d (omega arith) (λ j l q.
          true≢false (sym (defs.defined j l) ∙ ap (is_definition J.schema) q ∙ f)) ∙ empty d (omega arith) in
          (λ v. absurd (omega arith), λ p. absurd (true≢false (sym p.1.defined ∙ f)))

module _ {J : Tables} {alone nothing blank pairs : List ℕ} where
  -- before the last row: no entry is asked, and all are 0
  pub filling_start : (n : ℕ) → TablesPass J → Filled J.strings J.schema alone nothing blank
      → pairs ≡ zeros n → Filling J alone nothing blank pairs (nodes_of J.instance)
  filling_start n pass filled z = record {
    pass = pass;
    filled = filled;
    from = record { entries = λ e d h l m. absurd (omega arith) };
    empty = λ e d h l. ap (λ (w : List ℕ). pair_entry w e d) z ∙ get_or_zeros n (e * max_rows + d);
  }

  -- one row more: that of an element, and another
  pub filling_row : {after : List ℕ} {r : ℕ} → Filling J alone nothing blank pairs (r + 1)
      → RowRight J pairs after r → Filling J alone nothing blank after r
  filling_row {after} {r} f w = record {
    pass = f.pass;
    filled = f.filled;
    from = record { entries = λ e d h l m. go e d h l m (ℕ_discrete e r) };
    empty = λ e d h l. w.others.kept e d (λ z. omega arith) l ∙ f.empty e d (omega arith) l;
  }
    where
      go : (e d : ℕ) → r ≤ e → e < nodes_of J.instance → d < rows_of J.schema
          → Dec (e ≡ r) → (pair_entry after e d ≡ 1) ↔ IsPair J e d
      go e d h l m (yes z) = rw z (w.right d m)
      go e d h l m (no z) =
          rw (w.others.kept e d z (let x = few_rows (right_size f.pass.schema.rows) in omega arith))
          (f.from.entries e d (omega arith) l m)

  pub filling_past : {r : ℕ} → is_element J.instance r ≡ false
      → Filling J alone nothing blank pairs (r + 1) → Filling J alone nothing blank pairs r
  filling_past {r} i f = record {
    pass = f.pass;
    filled = f.filled;
    from = record { entries = λ e d h l m. go e d h l m (ℕ_discrete e r) };
    empty = λ e d h l. f.empty e d (omega arith) l;
  }
    where
      go : (e d : ℕ) → r ≤ e → e < nodes_of J.instance → d < rows_of J.schema
          → Dec (e ≡ r) → (pair_entry pairs e d ≡ 1) ↔ IsPair J e d
      go e d h l m (yes z) =
          let x = few_rows (right_size f.pass.schema.rows) in
          let y = f.empty e d (omega arith) (omega arith) in
          (λ q. absurd (omega arith), λ q. absurd (true≢false (sym q.0 ∙ ap (is_element J.instance) z ∙ i)))
      go e d h l m (no z) = f.from.entries e d (omega arith) l m

  module _ {e attributes : ℕ} (f : Filling J alone nothing blank pairs (e + 1)) (h : e < nodes_of J.instance)
      (counted : Counted J.instance e attributes) (few : attributes ≤ max_width) where
    given : (items : List ℕ) (texts : ℕ) → length items ≤ max_width
        → ((k : ℕ) → k < length items → bit texts k ≡ true → get_or items k 0 < instance_strings J.strings)
        → ((k : ℕ) → k < length items → bit texts k ≡ false → (e + 1 ≤ get_or items k 0)
        × (get_or items k 0 < nodes_of J.instance) × (is_element J.instance (get_or items k 0) ≡ true))
        → Given J alone nothing blank pairs items e attributes texts
    given items texts l strings elements = record {
      passes = f.pass.schema;
      few_strings = few_strings (λ k x. ends_of f.pass.strings k (at_front x));
      alone_right = f.filled.entries;
      blank_right = f.filled.blanks;
      few_attributes = few;
      few_items = l;
      values = λ x m. value_string f.pass.nodes e h (attribute_row e x) (counted.attributes x m);
      strings = strings;
      elements = λ k d m b i.
          let r = elements k m b in
          let p = f.from.entries (get_or items k 0) d r.0 r.1 i in
          (λ v. (p.0 v).1, λ v. p.1 (r.2, v));
    }

    -- an element among the items stands at a later row
    mixed_later : {items : List ℕ} {n texts elements : ℕ} → Contents J.instance e items n texts elements
        → (k : ℕ) → k < n → bit texts k ≡ false → (e + 1 ≤ get_or items k 0)
        × (get_or items k 0 < nodes_of J.instance) × (is_element J.instance (get_or items k 0) ≡ true)
    mixed_later {items} {n} {texts} c k m b = go k m b (kind_at c k m)
      where
        go : (k : ℕ) → k < n → bit texts k ≡ false → Kind c k → (e + 1 ≤ get_or items k 0)
            × (get_or items k 0 < nodes_of J.instance) × (is_element J.instance (get_or items k 0) ≡ true)
        go k m b (is_text i j x q) = absurd (true≢false (sym x ∙ b))
        go k m b (is_element_lem i x q) =
            let l = child_later f.pass.nodes e (get_or (children_of J.instance e) k 0) h (child_at c k m) in
            rw q (omega arith, l.1, i)

    pub mixed_given : {items : List ℕ} {n texts elements : ℕ} → Contents J.instance e items n texts elements
        → n ≡ length items → Given J alone nothing blank pairs items e attributes texts
    mixed_given {items} {n} {texts} {elements} c size =
        given items texts (let l = c.few in omega arith)
        (λ k m b. text_item f.pass h c k (rw size m) b) (λ k m b. mixed_later c k (rw size m) b)

    pub simple_given : (one : List ℕ) → length one ≡ 1 → get_or one 0 0 < instance_strings J.strings
        → Given J alone nothing blank pairs one e attributes 1
    simple_given one size l =
        given one 1 (omega arith) (λ k m b. let z : k ≡ 0 = omega arith in rw z l)
        (λ k m b. let z : k ≡ 0 = omega arith in absurd (true≢false (sym (bit_pow 0 k ∙ eq-eqb k 0 z) ∙ b)))

-- the first items as a list of their own
pub contents_taken : {t items : List ℕ} {e n texts elements : ℕ}
    → Contents t e items n texts elements → Contents t e (take n items) n texts elements
contents_taken {items = items} {n = n} c = record {
  count = c.count;
  few = c.few;
  each = λ k h. get_or-take n items k 0 h ∙ c.each k h;
  texts_at = c.texts_at;
  elements_at = c.elements_at;
}

-- what stands for the content of an element
module _ (blank items : List ℕ) {n texts elements : ℕ} where
  pub mixed_stands : {content : List ℕ} {k : ℕ} → n ≤ max_width → n ≤ length items
      → content ≡ take n items → elements ≢ 0 → Collects (is_solid blank content texts) (length content) k
      → StandsFor blank items items n texts elements n texts k false
  mixed_stands {content} {k} few l q f solid =
      record { few = few; ready = λ J alone nothing pairs e attributes a known. ready known }
    where
      ready : {J : Tables} {alone nothing pairs : List ℕ} {e attributes a : ℕ}
          → Known J alone nothing blank pairs items e attributes a n texts elements
          → ElementReady J alone nothing blank pairs (take n items) e attributes texts a k false
      ready known =
          let size : n ≡ length (take n items) = sym (length-take-le n items l) in
          let c = contents_taken known.contents in
          record {
            given = mixed_given known.filling known.in_table known.counted known.few c size;
            apart = λ x m b. let l =
                (mixed_later known.filling known.in_table known.counted known.few c x (rw size m) b).0 in
                λ z. omega arith;
            empty = λ d m. known.filling.empty _ d (omega arith) m;
            shown = mixed_shown known.filling.pass known.in_table known.counted known.few
                known.all blank c size f known.filling.filled.blanks (rw (q, ← size) at solid);
          }

  pub simple_stands : {v : ℕ} {weak : Bool} → 1 ≤ length items → elements ≡ 0
      → v ≡ cond (eqb n 0) 0 (get_or items 0 0) → weak ≡ eqb (get_or blank v 0) 1
      → StandsFor blank items (set items 0 v) n texts elements 1 1 1 weak
  simple_stands {v} {weak} l z q w =
      record { few = omega arith; ready = λ J alone nothing pairs e attributes a known. ready known }
    where
      size : length (take 1 (set items 0 v)) ≡ 1
      size = length-take-le 1 (set items 0 v) (rw (length-set items 0 v) l)

      first : get_or (take 1 (set items 0 v)) 0 0 ≡ v
      first = get_or-take 1 (set items 0 v) 0 0 (omega arith) ∙ get_or-set_same items 0 v 0 l

      ready : {J : Tables} {alone nothing pairs : List ℕ} {e attributes a : ℕ}
          → Known J alone nothing blank pairs items e attributes a n texts elements
          → ElementReady J alone nothing blank pairs (take 1 (set items 0 v)) e attributes 1 a 1 weak
      ready known =
          let low = string_known known.filling.pass known.in_table
          known.counted known.few known.all known.contents z q in
          record {
            given = simple_given known.filling known.in_table known.counted
                known.few (take 1 (set items 0 v)) size (rw first low);
            apart = λ x m b. let one = size in
                let z : x ≡ 0 = omega arith in
                absurd (true≢false (sym (bit_pow 0 x ∙ eq-eqb x 0 z) ∙ b));
            empty = λ d m. known.filling.empty _ d (omega arith) m;
            shown = simple_shown known.filling.pass known.in_table known.counted known.few known.all
                blank known.contents z q known.filling.filled.blanks (take 1 (set items 0 v)) size first weak w;
          }

pub nodes_few : {J : Tables} → TablesPass J → nodes_of J.instance ≤ max_nodes
nodes_few pass = few_nodes (λ r f. pass.nodes r (bad_size f))

-- an element of tables that pass has few attributes and few children
module _ {J : Tables} {alone nothing blank pairs : List ℕ} {e : ℕ} (f : Filling J alone nothing blank pairs (e + 1))
    (h : e < nodes_of J.instance) (i : is_element J.instance e ≡ true) where
  pub few_attributes : {attributes : ℕ} → Counted J.instance e attributes → attributes ≤ max_width
  few_attributes counted =
      few_counted f.pass.nodes e h counted (eqb-true (kind_of J.instance e) element i) (f.pass.narrow e)

  pub few_items : {before rows : List ℕ} {n : ℕ} → Begins before rows (children_of J.instance e) n → n ≤ max_width
  few_items c = few_listed h (eqb-true (kind_of J.instance e) element i) (f.pass.narrow e) c

  -- what the functions of `contents` tell of it
  pub know : {before rows items : List ℕ} {attributes a n texts elements : ℕ}
      → Counted J.instance e attributes → Collects (λ k. true) attributes a → max_width ≤ length before
      → Begins before rows (children_of J.instance e) n → Itemized J.instance rows items n
      → Collects (of_kind J.instance rows text) n texts → Collects (of_kind J.instance rows element) n elements
      → Known J alone nothing blank pairs items e attributes a n texts elements
  know counted all room c items texts elements = record {
    filling = f;
    in_table = h;
    counted = counted;
    few = few_attributes counted;
    all = all;
    contents = collected_contents (few_items c) room c items texts elements;
  }
