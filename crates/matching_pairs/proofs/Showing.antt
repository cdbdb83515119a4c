-- The attributes and items that stand for an element: with an element among its children all but whitespace, and
-- otherwise one string.
use Prim.Native.Nat.{ℕ, zero, suc, ◌≤◌, ◌<◌}
use mathlib.Core.Path.{◌≡◌, refl, sym, ◌∙◌, ap, subst}
use mathlib.Core.Bool.{Bool, true, false, not, cond, ◌&&◌, true≢false, false≢true}
use mathlib.Core.List.{List, [], ◌∷◌, map}
use mathlib.Core.Logic.{◌↔◌, ◌⊎◌, inl, inr, ⊎_elim, ◌≢◌}
use native.Mathlib.Omega.{arith}
use native.Mathlib.Decide.{dec_lt}
use lib.Dec.{eqb, ltb}
use lib.ListN.{length, get_or, length-map, get_or-map}
use borrow.Author.Tests.{lt-ltb, le-ltb, ltb-true, eq-eqb, eqb-true, ne_eqb}
use Rattle.tables.specs.Tables.{Tables}
use Rattle.tables.proofs.Numbers.{not_less}
use Rattle.strings.specs.Strings.{text_of, at_front, instance_strings}
use Rattle.strings.proofs.Table.{ends_of, some_string}
use Rattle.datatypes.specs.Whitespace.{whitespace}
use Rattle.schema.specs.Rows.{rows_of}
use Rattle.instance.specs.Nodes.{nodes_of, a_of}
use Rattle.instance.specs.Width.{max_width}
use Rattle.instance.specs.Elements.{is_element, children_of}
use Rattle.instance.proofs.Elements.{text_string}
use Rattle.sets.specs.Bits.{bit}
use Rattle.sets.proofs.Bits.{bit_none, bit_pow, bit_empty}
use Rattle.matching_rules.specs.Items.{Item, string, Attributes, Lookups}
use Rattle.matching_rules.specs.Items as item
use Rattle.matching_rules.specs.Rules.{WeakMatch, Match, NotMatchBy}
use Rattle.matching_rules.specs.Job.{item_of, lookups}
use Rattle.tables.proofs.Booleans.{and_left, and_right}
use Rattle.matching_rules.proofs.Children.{first_empty, children_ok}
use Rattle.matching_rules.proofs.Inversion.{One}
use Rattle.matching_rules.proofs.OneElement.{no_element, strings_clean, stripped_clean}
use Rattle.matching_rules.proofs.OneElement.{weak_empty, weak_string, weak_span}
use Rattle.matching_rules.proofs.Passing.{restricted}
use Rattle.matching_rules.specs.Spans.{run, Span}
use Rattle.matching_rules.proofs.Runs.{kept}
use Rattle.matching_rules.proofs.Sequences.{has_element}
use Rattle.matching_rules.proofs.Spans.{span_whole}
use Rattle.matching_rules.proofs.Stripping.{not_whitespace}
use Rattle.matching_alone.specs.Alone.{Blank}
use Rattle.matching_marks.specs.Marks.{attributes_in}
use Rattle.matching_marks.specs.Given.{item_at}
use Rattle.sets.specs.Collecting.{Collects}
use Rattle.matching_contents.specs.Contents.{Counted, Contents}
use Rattle.matching_contents.proofs.AttributeWord.{attributes_same, attributes_distinct}
use Rattle.matching_contents.proofs.ItemRuns.{run_members, Kind, is_text, is_element_lem, kind_at, run_contents}
use Rattle.matching_pairs.specs.Pairs.{TablesPass}
use Rattle.matching_pairs.specs.Rows.{Shown, is_solid}

flag_same : {x : ℕ} (w : Bool) → (x ≡ 1) ↔ (w ≡ true) → eqb x 1 ≡ w
flag_same {x} true f = eq-eqb x 1 (f.1 refl)
flag_same {x} false f = ne_eqb x 1 (λ e. false≢true (f.0 e))

-- a word collects positions before its count
pub collects_low : {test : ℕ → Bool} {n w : ℕ} → Collects test n w
    → (x : ℕ) → bit w x ≡ true → (x < n) × (test x ≡ true)
collects_low {test} {n} c x h =
    let i = sym (c.members x) ∙ h in
    (ltb-true x n (and_left (ltb x n) (test x) i), and_right (ltb x n) (test x) i)

-- which lists of children have an element
module _ (J : Tables) where
  strings_at : (l : List ℕ) → has_element (map (item_of J) l) ≡ false
      → (k : ℕ) → k < length l → is_element J.instance (get_or l k 0) ≡ false
  strings_at [] h k m = absurd (omega arith)
  strings_at (r ∷ l) h k m = go (is_element J.instance r) refl h k m (strings_at l)
    where
      go : (b : Bool) → is_element J.instance r ≡ b
          → has_element (cond b (item.element r) (string (text_of J.strings (a_of J.instance r))) ∷ map (item_of J) l)
          ≡ false → (k : ℕ) → k < length (r ∷ l)
          → (has_element (map (item_of J) l) ≡ false → (k : ℕ) → k < length l
          → is_element J.instance (get_or l k 0) ≡ false) → is_element J.instance (get_or (r ∷ l) k 0) ≡ false
      go true e h k m ih = absurd (true≢false h)
      go false e h zero m ih = e
      go false e h (suc k) m ih = ih h k (omega arith)

  at_strings : (l : List ℕ) → ((k : ℕ) → k < length l → is_element J.instance (get_or l k 0) ≡ false)
      → has_element (map (item_of J) l) ≡ false
  at_strings [] f = refl
  at_strings (r ∷ l) f = rw (f 0 (omega arith)) (at_strings l (λ k h. f (suc k) (omega arith)))

module _ {J : Tables} (pass : TablesPass J) {e : ℕ} (h : e < nodes_of J.instance) where
  abbrev t₁ : List ℕ
  t₁ = J.instance

  abbrev L : Lookups
  L = lookups J

  abbrev N : List ℕ → ℕ → Type 0
  N = NotMatchBy L (rows_of J.schema)

  module _ {items : List ℕ} {n texts elements : ℕ} (c : Contents J.instance e items n texts elements) where
    pub has_element_lem : elements ≢ 0 → has_element (L.children e) ≡ true
    has_element_lem f = go (has_element (L.children e)) refl
      where
        none : has_element (L.children e) ≡ false → (k : ℕ) → bit elements k ≡ false
        none q k = c.elements_at k ∙ at (dec_lt k n)
          where
            at : Dec (k < n) → (ltb k n && is_element J.instance (get_or (children_of J.instance e) k 0)) ≡ false
            at (yes m) = rw (lt-ltb k n m) (strings_at J (children_of J.instance e) q k (rw (← c.count) m))
            at (no g) = rw (le-ltb k n (not_less g))

        go : (b : Bool) → has_element (L.children e) ≡ b → b ≡ true
        go true q = refl
        go false q = absurd (f ((bit_empty elements).0 (none q)))

    pub no_elements : elements ≡ 0 → has_element (L.children e) ≡ false
    no_elements z =
        at_strings J (children_of J.instance e) (λ k m. let i : k < n = rw c.count m in let q : bit elements k
        ≡ false = ap (λ (w : ℕ). bit w k) z ∙ bit_none k in rw (lt-ltb k n i) at (sym (c.elements_at k) ∙ q))

    -- a text among the items is a string of the table
    pub text_item : (k : ℕ) → k < n → bit texts k ≡ true → get_or items k 0 < instance_strings J.strings
    text_item k m b = go (kind_at c k m)
      where
        go : Kind c k → get_or items k 0 < instance_strings J.strings
        go (is_text i f j q) = rw q (text_string pass.nodes (get_or (children_of J.instance e) k 0) i).1
        go (is_element_lem i f q) = absurd (true≢false (sym b ∙ f))

    module _ (blank : List ℕ) (right : Blank J.strings blank) where
      solid_told : (k : ℕ) → k < n → is_solid blank items texts k ≡ not_whitespace L (item_at J.strings items texts k)
      solid_told k m = go (bit texts k) refl
        where
          go : (b : Bool) → bit texts k ≡ b
              → is_solid blank items texts k ≡ not_whitespace L (item_at J.strings items texts k)
          go true b =
              rw b (ap not (flag_same (whitespace (text_of J.strings (get_or items k 0)))
              (right (get_or items k 0) (text_item k m b))))
          go false b = rw b refl

      solid_at : {w : ℕ} → Collects (is_solid blank items texts) n w → (k : ℕ)
          → bit w k ≡ (ltb k n && not_whitespace L (item_at J.strings items texts k))
      solid_at w k = w.members k ∙ go (dec_lt k n)
        where
          go : Dec (k < n) → (ltb k n && is_solid blank items texts k)
              ≡ (ltb k n && not_whitespace L (item_at J.strings items texts k))
          go (yes m) = ap (λ (b : Bool). ltb k n && b) (solid_told k m)
          go (no f) = rw (le-ltb k n (not_less f))

  module _ {attributes a : ℕ} (counted : Counted J.instance e attributes)
      (few : attributes ≤ max_width) (all : Collects (λ k. true) attributes a) where
    same : attributes_in e a ≡ L.attributes e
    same = attributes_same pass.nodes e h counted few all

    -- with an element among the children: all items but whitespace
    pub mixed_shown : {items : List ℕ} {n texts elements w : ℕ} (blank : List ℕ)
        → Contents J.instance e items n texts elements → n ≡ length items → elements ≢ 0
        → Blank J.strings blank → Collects (is_solid blank items texts) n w
        → Shown J items e attributes texts a w false
    mixed_shown {items} {n} {texts} {elements} {w} blank c size f right solid = record {
      of_attributes = λ x b. (collects_low all x b).0;
      of_items = λ x b. rw (← size) (collects_low solid x b).0;
      distinct = attributes_distinct pass.nodes e h counted a same;
      clean = stripped_clean L (item_at J.strings items texts) (bit w) (λ k b. and_right (ltb k n)
          (not_whitespace L (item_at J.strings items texts k)) (sym (solid_at c blank right solid k) ∙ b));
      ordered = children_ok J pass.strings pass.nodes e;
      content = λ d i. (
        λ m. inl (subst (λ (A : Attributes). Span L N A (item_at J.strings items texts)
            (bit w) (L.content d) 0 (length items)) (sym same) ((told d i).0 m)),
        ⊎_elim (λ m. (told d i).1 (subst (λ (A : Attributes). Span L N A (item_at J.strings items texts)
            (bit w) (L.content d) 0 (length items)) same m)) (λ m. absurd (false≢true m.0)),
      );
    }
      where
        told : (d : ℕ) → L.is_definition d ≡ true
            → WeakMatch L N (L.attributes e) (L.children e) (L.pattern (L.content d))
            ↔ Span L N (L.attributes e) (item_at J.strings items texts) (bit w) (L.content d) 0 (length items)
        told d i =
            weak_span L N (L.attributes e) (L.content d) ((restricted J pass.schema).contents d i)
            (children_ok J pass.strings pass.nodes e) (has_element_lem c f)
            (item_at J.strings items texts) (bit w) (length items)
            (rw size at (run_contents c J.strings J.schema (not_whitespace L) w (solid_at c blank right solid)))

    -- a string that stands for the content: it alone, or where it is whitespace nothing
    abbrev Stands : ℕ → Type 0
    Stands v = (p : ℕ) → WeakMatch L N (L.attributes e) (L.children e) (L.pattern p)
        ↔ (Match L N (L.attributes e) (string (text_of J.strings v) ∷ []) (L.pattern p)
        ⊎ ((whitespace (text_of J.strings v) ≡ true) × Match L N (L.attributes e) [] (L.pattern p)))

    stands_empty : L.children e ≡ [] → Stands 0
    stands_empty q p = rw (q, first_empty pass.strings) (to, from)
      where
        to : WeakMatch L N (L.attributes e) [] (L.pattern p) → Match L N (L.attributes e) (string [] ∷ [])
            (L.pattern p) ⊎ ((whitespace [] ≡ true) × Match L N (L.attributes e) [] (L.pattern p))
        to m = ⊎_elim (λ d. inr (refl, d)) (λ d. inl d) ((weak_empty L N (L.attributes e) (L.pattern p)).0 m)

        from : Match L N (L.attributes e) (string [] ∷ []) (L.pattern p) ⊎ ((whitespace [] ≡ true)
            × Match L N (L.attributes e) [] (L.pattern p)) → WeakMatch L N (L.attributes e) [] (L.pattern p)
        from (inl d) = (weak_empty L N (L.attributes e) (L.pattern p)).1 (inr d)
        from (inr d) = (weak_empty L N (L.attributes e) (L.pattern p)).1 (inl d.1)

    stands_string : (v : ℕ) → L.children e ≡ string (text_of J.strings v) ∷ [] → Stands v
    stands_string v q p = rw q (weak_string L N (L.attributes e) (L.pattern p) (text_of J.strings v))

    only_stands : {items : List ℕ} {n texts elements v : ℕ} → Contents J.instance e items n texts elements
        → elements ≡ 0 → v ≡ cond (eqb n 0) 0 (get_or items 0 0) → Stands v × (v < instance_strings J.strings)
    only_stands {items} {n} {texts} {elements} {v} c z q =
        go (no_element (children_ok J pass.strings pass.nodes e) (no_elements c z))
      where
        size : n ≡ length (L.children e)
        size = c.count ∙ sym (length-map (children_of J.instance e) (item_of J))

        one : (x : List ℕ) → L.children e ≡ string x ∷ [] → v ≡ get_or items 0 0
            → 0 < n → Kind c 0 → Stands v × (v < instance_strings J.strings)
        one x r j m (is_text i f b k) =
            let first : string x ≡ string (text_of J.strings (get_or items 0 0)) =
            ap (λ (l : List Item). get_or l 0 (item_of J 0)) (sym r)
            ∙ get_or-map (item_of J) (children_of J.instance e) 0 0 ∙ rw (f, k) in (
              stands_string v
                  (r ∙ ap (λ (y : Item). y ∷ []) (first ∙ ap (λ (w : ℕ). string (text_of J.strings w)) (sym j))),
              rw j (text_item c 0 m b),
            )
        one x r j m (is_element_lem i f k) =
            absurd (true≢false (sym i
            ∙ strings_at J (children_of J.instance e) (no_elements c z) 0 (rw (← c.count) m)))

        go : (L.children e ≡ []) ⊎ One (λ x. Unit {0}) (L.children e) → Stands v × (v < instance_strings J.strings)
        go (inl r) =
            let m : n ≡ 0 = size ∙ ap length r in
            let u : v ≡ 0 = q ∙ rw m refl in
            let f = some_string (λ k x. ends_of pass.strings k (at_front x)) in
            (rw u (stands_empty r), omega arith)
        go (inr o) =
            let m : n ≡ 1 = size ∙ ap length o.1 in
            one o.0 o.1 (q ∙ rw m refl) (omega arith) (kind_at c 0 (omega arith))

    -- with no element: one string
    pub simple_shown : {items : List ℕ} {n texts elements v : ℕ} (blank : List ℕ) → Contents J.instance
        e items n texts elements → elements ≡ 0 → v ≡ cond (eqb n 0) 0 (get_or items 0 0) → Blank J.strings blank
        → (one : List ℕ) → length one ≡ 1 → get_or one 0 0 ≡ v → (weak : Bool)
        → weak ≡ eqb (get_or blank v 0) 1 → Shown J one e attributes 1 a 1 weak
    unfolding kept
    simple_shown {v = v} blank c z q right one size first weak w = record {
      of_attributes = λ x b. (collects_low all x b).0;
      of_items = λ x b. let i = eqb-true x 0 (sym (bit_pow 0 x) ∙ b) in omega arith;
      distinct = attributes_distinct pass.nodes e h counted a same;
      clean = strings_clean L it (bit 1) (λ k y b m. no_string k y (eqb-true k 0 (sym (bit_pow 0 k) ∙ b)) m);
      ordered = children_ok J pass.strings pass.nodes e;
      content = λ d i.
          let p = L.content d in (
            λ m. ⊎_elim (λ x. inl ((whole p).1 x)) (λ x. inr (blank_told ∙ x.0, (none p).1 x.1)) ((stands p).0 m),
            ⊎_elim (λ x. (stands p).1 (inl ((whole p).0 x)))
                (λ x. (stands p).1 (inr (sym blank_told ∙ x.0, (none p).0 x.1))),
          );
    }
      where
        it : ℕ → Item
        it = item_at J.strings one 1

        stands : Stands v
        stands = (only_stands c z q).0

        it_first : it 0 ≡ string (text_of J.strings v)
        it_first = rw (bit_pow 0 0) (ap (λ (x : ℕ). string (text_of J.strings x)) first)

        no_string : (k y : ℕ) → k ≡ 0 → ¬ (it k ≡ item.element y)
        no_string k y i m =
            let r : string (text_of J.strings v) ≡ item.element y = sym it_first ∙ ap it (sym i) ∙ m in
            let x : ◌≡◌ {A = ℕ} 0 1 = cc in
            absurd (omega arith)

        blank_told : weak ≡ whitespace (text_of J.strings v)
        blank_told = w ∙ flag_same (whitespace (text_of J.strings v)) (right v (only_stands c z q).1)

        run_whole : run it (bit 1) 0 (length one) ≡ string (text_of J.strings v) ∷ []
        run_whole =
            run_members (λ y. true) (string (text_of J.strings v))
            (string (text_of J.strings v) ∷ []) it (bit 1) (length one) (omega arith)
            (λ k i. let r : k ≡ 0 = omega arith in rw r it_first)
            (λ k i. let r : k ≡ 0 = omega arith in bit_pow 0 k ∙ eq-eqb k 0 r)
            (λ k i. bit_pow 0 k ∙ ne_eqb k 0 (λ r. omega arith))

        run_none : run it (bit 0) 0 (length one) ≡ []
        run_none =
            run_members (λ y. true) (string []) [] it (bit 0) (length one) (omega arith)
            (λ k i. absurd (omega arith)) (λ k i. absurd (omega arith)) (λ k i. bit_none k)

        whole : (p : ℕ) → Span L N (attributes_in e a) it (bit 1) p 0 (length one)
            ↔ Match L N (L.attributes e) (string (text_of J.strings v) ∷ []) (L.pattern p)
        whole p = rw same (span_whole L N (L.attributes e) it (bit 1) p (length one) run_whole)

        none : (p : ℕ)
            → Span L N (attributes_in e a) it (bit 0) p 0 (length one) ↔ Match L N (L.attributes e) [] (L.pattern p)
        none p = rw same (span_whole L N (L.attributes e) it (bit 0) p (length one) run_none)

    pub string_known : {items : List ℕ} {n texts elements v : ℕ} → Contents J.instance e items n texts elements
        → elements ≡ 0 → v ≡ cond (eqb n 0) 0 (get_or items 0 0) → v < instance_strings J.strings
    string_known c z q = (only_stands c z q).1
