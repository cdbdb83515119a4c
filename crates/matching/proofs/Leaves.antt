-- The relation of a row without operands, from the words of its marks.
use Prim.Native.Nat.{ℕ, ◌-◌, ◌^◌, ◌≤◌, ◌<◌}
use mathlib.Core.Path.{◌≡◌, refl, sym, ap, ◌∙◌, subst}
use mathlib.Core.Bool.{Bool, true, false, not, ◌&&◌, false≢true}
use mathlib.Core.List.{List, [], ◌∷◌}
use mathlib.Core.Logic.{◌⊎◌, inl, inr, ◌↔◌}
use native.Mathlib.Omega.{arith}
use lib.Bits.{bit_and}
use lib.Dec.{eqb}
use lib.ListN.{get_or}
use borrow.Author.Tests.{eqb-true, eq-eqb, not-true, not-false}
use Rattle.schema.specs.Rows.{rows_of}
use Rattle.schema.specs.Views.{empty, not_allowed, text, attribute, ref, no_pattern, pattern_of}
use Rattle.sets.specs.Bits.{bit}
use Rattle.relations.specs.Relations.{Relation}
use Rattle.relations.specs.Words.{Is, Empty, Gap, Single}
use Rattle.relations.proofs.Words.{is_map}
use Rattle.sets.proofs.Bits.{bit_without}
use Rattle.matching_rules.specs.Items.{Item, element, string, Attributes, no_attributes, Lookups}
use Rattle.matching_rules.specs.Rules.{Match, NotMatchBy}
use Rattle.matching_rules.specs.Job.{lookups}
use Rattle.tables.proofs.Booleans.{and_left, and_right, is_false}
use Rattle.matching_rules.proofs.Booleans.{sole_member}
use Rattle.matching_rules.proofs.Inversion.{One}
use Rattle.matching_rules.proofs.Sequences.{has_element}
use Rattle.matching_rules.specs.Spans.{run, Span}
use Rattle.matching_rules.proofs.Positions.{run_empty, run_single, run_strings}
use Rattle.matching_rules.specs.Reach.{one_string, role_of, item_by, takes_any}
use Rattle.matching_rules.proofs.Spans.{ItemsOnly, OnePaired, span_empty, span_text, span_string}
use Rattle.matching_rules.proofs.Spans.{span_ref, span_attribute, span_not_allowed, span_no_pattern}
use Rattle.matching_marks.specs.Marks.{attribute_row, attributes_in, IsString, IsPaired, Takes, TakesAttribute}
use Rattle.matching.specs.Setting.{Setting, tables_in, Asked, Related, Covered}
use Rattle.matching.specs.Parts.{Where, OneIn}
use Rattle.matching.proofs.Shares.{number_of, in_row, row_in, no_attributes_lem, attributes_none, row_covered}

-- an item that is as asked, alone
abbrev OneItem : (Item → Type 0) → List Item → Type 0
OneItem T m = (y : Item) × (m ≡ y ∷ []) × T y

module _ (L : Lookups) where
  one_string_lem : (P : List ℕ → Type 0) (m : List Item) → One P m ↔ OneItem (IsString L P) m
  one_string_lem P m = (λ o. (string o.0, o.1, o.2), λ o. back o.0 o.1 o.2)
    where
      back : (y : Item) → m ≡ y ∷ [] → IsString L P y → One P m
      back (element e) q h = absurd h
      back (string s) q h = (s, q, h)

  one_paired : (d : ℕ) (m : List Item) → OnePaired L (NotMatchBy L L.rows) d m ↔ OneItem (IsPaired L d) m
  one_paired d m = (λ o. (element o.0, o.1, o.2), λ o. back o.0 o.1 o.2)
    where
      back : (y : Item) → m ≡ y ∷ [] → IsPaired L d y → OnePaired L (NotMatchBy L L.rows) d m
      back (element e) q h = (e, q, h)
      back (string s) q h = absurd h

  -- a string is no element, and what is no element is a string
  not_element : (y : Item) → IsString L (λ s. Unit {0}) y → (e : ℕ) → ¬ (y ≡ element e)
  not_element y h e q = subst (IsString L (λ s. Unit {0})) q h

  is_string : (y : Item) → ((e : ℕ) → ¬ (y ≡ element e)) → IsString L (λ s. Unit {0}) y
  is_string (element e) f = f e refl
  is_string (string s) f = tt

module _ {s marks named taken single : List ℕ} (S : Setting s) (m : ℕ) {a k p : ℕ}
    (asked : Asked S a k) (covered : Covered S marks named taken single p) (w : List ℕ) where
  abbrev L : Lookups
  L = lookups (tables_in S)

  abbrev N : List ℕ → ℕ → Type 0
  N = NotMatchBy L (rows_of s)

  abbrev A : Attributes
  A = attributes_in S.element a

  abbrev K : ℕ → Bool
  K = bit k

  abbrev mark : ℕ
  mark = get_or marks p 0

  -- the items of k from i to j
  abbrev items : ℕ → ℕ → List Item
  items i j = run S.it K i (j - i)

  -- the pairs i, j whose items are as asked
  abbrev Between : (List Item → Type 0) → Relation
  Between Wanted i j = (i ≤ j) × (j < m) × Wanted (items i j)

  no_item_lem : (i j : ℕ) → Gap m k i j ↔ Between (λ l. l ≡ []) i j
  no_item_lem i j =
      (λ g. (g.0, g.1, (run_empty S.it K g.0).1 g.2), λ b. (b.0, b.1, (run_empty S.it K b.0).0 b.2))

  -- no attributes, and items as asked
  without_attributes : (Wanted : List Item → Type 0) {R : Relation}
      → ((i j : ℕ) → Span L N A S.it K p i j ↔ ItemsOnly A S.it K Wanted i j)
      → ((i j : ℕ) → R i j ↔ Between Wanted i j) → Is w (Where (a ≡ 0) R) → Is w (Related S m a k p)
  without_attributes Wanted {R} span same is = is_map is (λ i j. (to i j, from i j))
    where
      to : (i j : ℕ) → Where (a ≡ 0) R i j → Related S m a k p i j
      to i j r =
          let b = (same i j).0 r.1 in (
            b.1,
            (span i j).1 (record {
              ordered = b.0;
              free = ap (attributes_in S.element) r.0 ∙ no_attributes_lem S.element;
              items = b.2;
            }),
          )

      from : (i j : ℕ) → Related S m a k p i j → Where (a ≡ 0) R i j
      from i j r =
          let o = (span i j).0 r.1 in
          (attributes_none S.element a o.free, (same i j).1 (o.ordered, r.0, o.items))

  pub related_empty : pattern_of s p ≡ empty → Is w (Where (a ≡ 0) (Gap m k)) → Is w (Related S m a k p)
  related_empty e = without_attributes (λ l. l ≡ []) (λ i j. span_empty L N A S.it K p i j e) no_item_lem

  -- text: an item of k that is no string is a stop
  pub related_text : k < 2 ^ 64 → mark < 2 ^ 64 → pattern_of s p ≡ text
      → Is w (Where (a ≡ 0) (Gap m (bit_and k (2 ^ 64 - 1 - mark)))) → Is w (Related S m a k p)
  related_text hk hm e =
      without_attributes (λ l. has_element l ≡ false)
      (λ i j. span_text L N A S.it K p i j e) (λ i j. (to i j, from i j))
    where
      string_at : (x : ℕ) → K x ≡ true → (bit mark x ≡ true) ↔ IsString L (λ s. Unit {0}) (S.it x)
      string_at x h = rw e at ((row_covered S covered).leaf.leaves x (asked.of_items x h) (ap takes_any e))

      stop : (x : ℕ) → bit (bit_and k (2 ^ 64 - 1 - mark)) x ≡ K x && not (bit mark x)
      stop x = bit_without 64 k mark x hk hm

      to : (i j : ℕ) → Gap m (bit_and k (2 ^ 64 - 1 - mark)) i j → Between (λ l. has_element l ≡ false) i j
      to i j g = (g.0, g.1, (run_strings S.it K g.0).1 strings)
        where
          strings : (x u : ℕ) → i ≤ x → x < j → K x ≡ true → ¬ (S.it x ≡ element u)
          strings x u l m h =
              let b : not (bit mark x) ≡ false = rw h at (sym (stop x) ∙ g.2 x l m) in
              not_element L (S.it x) ((string_at x h).0 (not-false (bit mark x) b)) u

      from : (i j : ℕ) → Between (λ l. has_element l ≡ false) i j → Gap m (bit_and k (2 ^ 64 - 1 - mark)) i j
      from i j b = (b.0, b.1, clear)
        where
          clear : (x : ℕ) → i ≤ x → x < j → bit (bit_and k (2 ^ 64 - 1 - mark)) x ≡ false
          clear x l m =
              is_false (bit (bit_and k (2 ^ 64 - 1 - mark)) x) (λ t.
              let u = sym (stop x) ∙ t in
              let h = and_left (K x) (not (bit mark x)) u in
              let f = not-true (bit mark x) (and_right (K x) (not (bit mark x)) u) in
              false≢true (sym f
              ∙ (string_at x h).1 (is_string L (S.it x) (λ v. (run_strings S.it K b.0).0 b.2 x v l m h))))

  -- one item, as asked
  one_item : (Wanted : List Item → Type 0) (T : Item → Type 0) → ((l : List Item) → Wanted l ↔ OneItem T l)
      → ((x : ℕ) → K x ≡ true → (bit mark x ≡ true) ↔ T (S.it x))
      → ((i j : ℕ) → Span L N A S.it K p i j ↔ ItemsOnly A S.it K Wanted i j)
      → Is w (Where (a ≡ 0) (Single m k mark)) → Is w (Related S m a k p)
  one_item Wanted T one marks span = without_attributes Wanted span (λ i j. (to i j, from i j))
    where
      to : (i j : ℕ) → Single m k mark i j → Between Wanted i j
      to i j g =
          let u = g.from in
          let v = g.to in
          let l : i ≤ j = omega arith in
          let q = (run_single S.it K (S.it g.place) l).1 (record {
            at = record { place = g.place; after = u; before = v; member = g.member; item = refl };
            alone = g.only;
          }) in
          (l, g.end, (one (items i j)).1 (S.it g.place, q, (marks g.place g.member).0 g.mark))

      from : (i j : ℕ) → Between Wanted i j → Single m k mark i j
      from i j b =
          let o = (one (items i j)).0 b.2 in
          let r = (run_single S.it K o.0 b.0).0 o.1 in
          let x = r.at in
          record {
            end = b.1;
            place = x.place;
            from = x.after;
            to = x.before;
            member = x.member;
            mark = (marks x.place x.member).1 (subst T (sym x.item) o.2);
            only = r.alone;
          }

  takes_at : takes_any (pattern_of s p) ≡ true → (x : ℕ) → K x ≡ true
      → (bit mark x ≡ true) ↔ Takes L (pattern_of s p) (S.it x)
  takes_at any x h = (row_covered S covered).leaf.leaves x (asked.of_items x h) any

  pub related_string : role_of (pattern_of s p) ≡ one_string
      → Is w (Where (a ≡ 0) (Single m k mark)) → Is w (Related S m a k p)
  related_string e =
      let P : List ℕ → Type 0 = (λ v. Match L N no_attributes (string v ∷ []) (pattern_of s p)) in
      one_item (One P) (IsString L P) (one_string_lem L P)
      (λ x h. rw e at (takes_at (ap item_by e) x h)) (λ i j. span_string L N A S.it K p i j e)

  pub related_ref : {d : ℕ} → pattern_of s p ≡ ref d → Is w (Where (a ≡ 0) (Single m k mark)) → Is w (Related S m a k p)
  related_ref {d} e =
      one_item (OnePaired L N d) (IsPaired L d) (one_paired L d)
      (λ x h. rw e at (takes_at (ap takes_any e) x h)) (λ i j. span_ref L N A S.it K p i j asked.clean e)

  -- one attribute, which the pattern takes, and no item
  pub related_attribute : {nc q : ℕ} → pattern_of s p ≡ attribute nc q
      → Is w (Where (OneIn a mark) (Gap m k)) → Is w (Related S m a k p)
  related_attribute {nc} {q} e is = is_map is (λ i j. (to i j, from i j))
    where
      taken_at : (x : ℕ) → bit a x ≡ true → (bit mark x ≡ true) ↔ TakesAttribute L nc q (attribute_row S.element x)
      taken_at x h = (row_covered S covered).leaf.attribute_leaves nc q x e (asked.of_attributes x h)

      to : (i j : ℕ) → Where (OneIn a mark) (Gap m k) i j → Related S m a k p i j
      to i j r =
          let x = r.0.0 in
          let o = r.0.1 in
          let t = (taken_at x o.member).0 r.0.2 in
          let b = (no_item_lem i j).0 r.1 in
          let only_row : (y : ℕ) → A y ≡ true → attribute_row S.element x ≡ y = (λ y h. let z = in_row S.element
          a y h in ap (attribute_row S.element) (sym (o.only (number_of S.element y) z.1)) ∙ z.0) in (
            b.1,
            (span_attribute L N A S.it K p i j e).1 (
              b.0,
              record {
                row = attribute_row S.element x;
                set = sole_member A (attribute_row S.element x) (row_in S.element a x ∙ o.member) only_row;
                sequence = b.2;
                named = t.named;
                valued = t.valued;
              },
            ),
          )

      from : (i j : ℕ) → Related S m a k p i j → Where (OneIn a mark) (Gap m k) i j
      from i j r =
          let b = (span_attribute L N A S.it K p i j e).0 r.1 in
          let m = b.1 in
          let at : (y : ℕ) → A y ≡ eqb m.row y = (λ y. ap (λ (B : Attributes). B y) m.set) in
          let z = in_row S.element a m.row (at m.row ∙ eq-eqb m.row m.row refl) in
          let x = number_of S.element m.row in
          let other : (y : ℕ) → bit a y ≡ true → y ≡ x = (λ y h. let f = eqb-true m.row
          (attribute_row S.element y) (sym (at (attribute_row S.element y)) ∙ row_in S.element a y ∙ h) in
          let g = z.0 in omega arith) in (
            (
              x,
              record { member = z.1; only = other },
              (taken_at x z.1).1
                  (subst (TakesAttribute L nc q) (sym z.0) (record { named = m.named; valued = m.valued })),
            ),
            (no_item_lem i j).1 (b.0, r.0, m.sequence),
          )

  -- no match at all
  pub related_nothing : (pattern_of s p ≡ not_allowed) ⊎ (pattern_of s p ≡ no_pattern)
      → Is w Empty → Is w (Related S m a k p)
  related_nothing (inl e) is = is_map is (λ i j. (λ z. absurd z, λ r. span_not_allowed L N A S.it K p i j e r.1))
  related_nothing (inr e) is = is_map is (λ i j. (λ z. absurd z, λ r. span_no_pattern L N A S.it K p i j e r.1))
