-- The model decides spans: it is the rules of 9.3, kind by kind, where the schema is restricted.
use Prim.Native.Nat.{ℕ, zero, suc, ◌-◌, ◌≤◌, ◌<◌}
use mathlib.Core.Path.{◌≡◌, refl, sym, ◌∙◌, subst}
use mathlib.Core.Bool.{Bool, true, false, not, ◌&&◌, ◌||◌, true≢false, false≢true}
use mathlib.Core.List.{List, [], ◌∷◌, map}
use mathlib.Core.Logic.Iff
use mathlib.Core.Logic.{◌↔◌}
use native.Mathlib.Omega.{arith}
use lib.Dec.{eqb, ltb}
use lib.ListN.{length, get_or}
use borrow.Author.Tests.{eqb-true, lt-ltb, ltb-true}
use Rattle.tables.proofs.Numbers.{not_less}
use Rattle.schema.specs.Views.{Pattern}
use Rattle.schema.specs.Views as pattern
use Rattle.relations.specs.Relations.{Plus, Then}
use Rattle.matching_rules.specs.Items.{Item, element, string, Attributes, no_attributes, only, Lookups}
use Rattle.matching_rules.specs.Rules.{Match, WeakMatch, NotMatchBy}
use Rattle.tables.proofs.Booleans.{and_left, and_right}
use Rattle.matching_rules.proofs.Booleans.{◌∩◌, ◌∖◌}
use Rattle.matching_rules.proofs.Groups.{Tells, span_group, span_interleave}
use Rattle.matching_rules.specs.Spans.{Paired, CleanAt, Distinct, run, Span}
use Rattle.matching_rules.proofs.Inversion.{One, AttributeMatch}
use Rattle.matching_rules.proofs.Occurrences.{clean_part}
use Rattle.matching_rules.proofs.OneElement.{strings_clean, weak_string}
use Rattle.matching_rules.proofs.Positions.{among_run}
use Rattle.matching_rules.specs.Reach.{Subpattern, operand, of_attribute, of_list, of_except, repeated}
use Rattle.matching_rules.specs.Reach.{choice_first, choice_second, group_first, group_second}
use Rattle.matching_rules.specs.Reach.{interleave_first, interleave_second, Reaches, names_attribute, takes}
use Rattle.matching_rules.proofs.Repeats.{distinct_part, span_one_or_more, span_one_or_more_attributes}
use Rattle.matching_rules.specs.Restricted.{Restricted}
use Rattle.matching_rules.proofs.Sequences.{has_element, first}
use Rattle.matching_rules.proofs.Spans.{ItemsOnly, span_whole, span_nowhere, span_not_allowed}
use Rattle.matching_rules.proofs.Spans.{span_no_pattern, span_empty, span_text, items_only}
use Rattle.matching_rules.proofs.Spans.{OnePaired, span_ref, span_attribute, span_choice}
use Rattle.matching_rules.proofs.Strata.{not_match}
use Rattle.cases.proofs.Tests.{some_below, some_below_lem, below_some}
use Rattle.cases.proofs.ReachTests.{test_reach, reach_test_lem}
use Rattle.cases.proofs.ClosureTests.{plus_test, test_plus, plus_test_lem}
use Rattle.cases.proofs.Model.{no_item, one_item, on_string, on_element, all, Test, string_test}
use Rattle.cases.proofs.Model.{nothing_test, tokens_test, free_test, each_test, weak_string_test}
use Rattle.cases.proofs.Model.{attribute_test, repeat_test, names, takers, group_test, kind_test, span_test}
use Rattle.cases.proofs.ModelParts.{both_decide, either_decides, not_decides, guarded_decides}
use Rattle.cases.proofs.ModelParts.{no_item_lem, is_false_iff, one_string_lem, one_element, run_strings}
use Rattle.cases.proofs.ModelParts.{Bound, free_set, free_decided, each_set, only_set}

module _ (L : Lookups) (R : Restricted L) (N : ℕ) (equal : ℕ → List ℕ → List ℕ → Bool) (pair : ℕ → ℕ → Bool)
    (equals : (t : ℕ) (s₁ s₂ : List ℕ) → (equal t s₁ s₂ ≡ true) ↔ L.Equal t s₁ s₂) where
  abbrev pub Not : List ℕ → ℕ → Type 0
  Not = NotMatchBy L L.rows

  abbrev pub SpanOf : (ℕ → Item) → Attributes → (ℕ → Bool) → ℕ → ℕ → ℕ → Type 0
  SpanOf it A K p i j = Span L Not A it K p i j

  -- what the model asks of items and attributes
  pub record Fits (it : ℕ → Item) (A : Attributes) (K : ℕ → Bool) : Type 0 where
    pub bound : Bound N A
    pub distinct : Distinct L A
    pub clean : CleanAt L it K
    pub known : (k e d : ℕ) → it k ≡ element e → (pair e d ≡ true) ↔ Paired L Not e d

  -- and what it answers, for rows before n
  abbrev pub Decided : ℕ → Test → Type 0
  Decided n rec =
      (it : ℕ → Item) (A : Attributes) (K : ℕ → Bool) (p i j : ℕ) → p < n
      → Fits it A K → (rec it A K p i j ≡ true) ↔ SpanOf it A K p i j

  -- strings alone
  fits_strings : (s : ℕ → List ℕ) (A : Attributes) → Bound N A → Distinct L A → Fits (λ k. string (s k)) A all
  fits_strings s A b d = record {
    bound = b;
    distinct = d;
    clean = strings_clean L (λ k. string (s k)) all (λ k e h x. clash x);
    known = λ k e d x. absurd (clash x);
  }
    where
      clash : {y : List ℕ} {e : ℕ} → string y ≡ element e → ⊥
      clash x = let z : ◌≡◌ {A = ℕ} 0 1 = cc in omega arith

  fits_part : {it : ℕ → Item} {A B : Attributes} {K J : ℕ → Bool} → Fits it A K
      → ((x : ℕ) → B x ≡ true → A x ≡ true) → ((k : ℕ) → J k ≡ true → K k ≡ true) → Fits it B J
  fits_part {it} {A} {B} {K} {J} f b k =
      record {
        bound = λ x h. f.bound x (b x h);
        distinct = distinct_part L A B b f.distinct;
        clean = clean_part L it K J k f.clean;
        known = f.known;
      }

  fits_none : {it : ℕ → Item} {A : Attributes} {K : ℕ → Bool} → Fits it A K → Fits it no_attributes K
  fits_none f = fits_part f (λ x h. absurd (false≢true h)) (λ k h. h)

  no_attributes_lem : Bound N no_attributes
  no_attributes_lem x h = absurd (false≢true h)

  no_twins : Distinct L no_attributes
  no_twins x y h = absurd (false≢true h)

  module _ {n : ℕ} {rec : Test} (decided : Decided n rec) where
    pub string_decided : (A : Attributes) → Bound N A → Distinct L A → (q : ℕ) (s : List ℕ)
        → q < n → (string_test rec A q s ≡ true) ↔ Match L Not A (string s ∷ []) (L.pattern q)
    unfolding run
    string_decided A b d q s l =
        Iff.trans (decided (λ k. string s) A all q 0 1 l (fits_strings (λ k. s) A b d))
        (span_whole L Not A (λ k. string s) all q 1 refl)

    pub nothing_decided : (A : Attributes) → Bound N A → Distinct L A → (q : ℕ)
        → q < n → (nothing_test rec A q ≡ true) ↔ Match L Not A [] (L.pattern q)
    nothing_decided A b d q l =
        Iff.trans (decided (λ k. string []) A all q 0 0 l (fits_strings (λ k. []) A b d))
        (span_nowhere L Not A (λ k. string []) all q 0)

    tokens_decided : (q : ℕ) (l : List (List ℕ)) → q < n
        → (tokens_test rec q l ≡ true) ↔ Match L Not no_attributes (map string l) (L.pattern q)
    tokens_decided q l h =
        Iff.trans (decided (λ k. string (get_or l k [])) no_attributes all q 0 (length l)
        h (fits_strings (λ k. get_or l k []) no_attributes no_attributes_lem no_twins))
        (span_whole L Not no_attributes (λ k. string (get_or l k [])) all q (length l) (run_strings l))

    weak_string_decided : (q : ℕ) (s : List ℕ) → q < n
        → (weak_string_test L rec q s ≡ true) ↔ WeakMatch L Not no_attributes (string s ∷ []) (L.pattern q)
    weak_string_decided q s l =
        Iff.trans
        (either_decides (string_test rec no_attributes q s) (L.whitespace s && nothing_test rec no_attributes q)
        (string_decided no_attributes no_attributes_lem no_twins q s l)
        (both_decide (L.whitespace s) (nothing_test rec no_attributes q)
        Iff.rfl (nothing_decided no_attributes no_attributes_lem no_twins q l)))
        (Iff.symm (weak_string L Not no_attributes (L.pattern q) s))

    module _ (it : ℕ → Item) (A : Attributes) (K : ℕ → Bool) (fits : Fits it A K) (p i j : ℕ) (ordered : i ≤ j) where
      abbrev items : List Item
      items = run it K i (j - i)

      -- a kind that takes items and no attribute
      items_decided : (t : Bool) (Asked : List Item → Type 0) → (t ≡ true) ↔ Asked items
          → ((free_test N A && t) ≡ true) ↔ ItemsOnly A it K Asked i j
      items_decided t Asked f =
          let d = both_decide (free_test N A) t (free_decided N A fits.bound) f in (
            λ e. let x = d.0 e in record { ordered = ordered; free = x.0; items = x.1 },
            λ s. d.1 (s.free, s.items),
          )

      -- (attribute)
      attribute_decided : (nc q : ℕ) → q < n
          → ((some_below (attribute_test L N rec A nc q) N && no_item items) ≡ true)
          ↔ ((i ≤ j) × AttributeMatch L Not A items nc (L.pattern q))
      attribute_decided nc q l = (to, from)
        where
          at : (x : ℕ)
              → (attribute_test L N rec A nc q x ≡ true) ↔ ((A x ≡ true) × (((y : ℕ) → A y ≡ true → eqb x y ≡ true)
              × ((L.in_class nc x ≡ true) × WeakMatch L Not no_attributes (string (L.value x) ∷ []) (L.pattern q))))
          at x =
              guarded_decides (A x)
              (each_test N A (eqb x) && (L.in_class nc x && weak_string_test L rec q (L.value x))) Iff.rfl
              (both_decide (each_test N A (eqb x)) (L.in_class nc x && weak_string_test L rec q (L.value x))
              (each_set N A fits.bound (eqb x))
              (both_decide (L.in_class nc x) (weak_string_test L rec q (L.value x))
              Iff.rfl (weak_string_decided q (L.value x) l)))

          to : (some_below (attribute_test L N rec A nc q) N && no_item items) ≡ true
              → (i ≤ j) × AttributeMatch L Not A items nc (L.pattern q)
          to e =
              let x = below_some (attribute_test L N rec A nc q) N
              (and_left (some_below (attribute_test L N rec A nc q) N) (no_item items) e) in
              let h = (at x.0).0 x.2 in (
                ordered,
                record {
                  row = x.0;
                  set = (only_set N A fits.bound x.0).0 (h.0, h.1.0);
                  sequence = (no_item_lem items).0
                      (and_right (some_below (attribute_test L N rec A nc q) N) (no_item items) e);
                  named = h.1.1.0;
                  valued = h.1.1.1;
                },
              )

          from : (i ≤ j) × AttributeMatch L Not A items nc (L.pattern q)
              → (some_below (attribute_test L N rec A nc q) N && no_item items) ≡ true
          from s =
              let m = s.1 in
              let o = (only_set N A fits.bound m.row).1 m.set in
              (both_decide (some_below (attribute_test L N rec A nc q) N) (no_item items) Iff.rfl
              (no_item_lem items)).1 (
                some_below_lem (attribute_test L N rec A nc q) N m.row (fits.bound m.row o.0)
                    ((at m.row).1 (o.0, (o.1, (m.named, m.valued)))),
                m.sequence,
              )

      -- (oneOrMore 1) and (oneOrMore 2)
      plus_decided : (q : ℕ) → q < n
          → (plus_test (rec it no_attributes K q) j i j ≡ true) ↔ Plus (SpanOf it no_attributes K q) i j
      plus_decided q l = (
        test_plus (rec it no_attributes K q) (λ i j. (decided it no_attributes K q i j l (fits_none fits)).0) j i j,
        plus_test_lem (rec it no_attributes K q) (λ i j. (decided it no_attributes K q i j l (fits_none fits)).1)
            (λ i j s. s.0) j (omega arith),
      )

      single_decided : (q : ℕ) → q < n → (each_test N A (λ x. rec it (only x) K q i i) ≡ true)
          ↔ ((x : ℕ) → A x ≡ true → Match L Not (only x) [] (L.pattern q))
      single_decided q l =
          Iff.trans (each_set N A fits.bound (λ x. rec it (only x) K q i i))
          (λ f x h. (one x h).0 (f x h), λ f x h. (one x h).1 (f x h))
        where
          member : (x y : ℕ) → A x ≡ true → eqb x y ≡ true → A y ≡ true
          member x y h e = subst (λ (z : ℕ). A z ≡ true) (eqb-true x y e) h

          one : (x : ℕ) → A x ≡ true → (rec it (only x) K q i i ≡ true) ↔ Match L Not (only x) [] (L.pattern q)
          one x h =
              Iff.trans (decided it (only x) K q i i l (fits_part fits (λ y e. member x y h e) (λ k h. h)))
              (span_nowhere L Not (only x) it K q i)

      repeat_decided : (q : ℕ) → q < n → L.pattern p ≡ pattern.one_or_more q
          → (repeat_test N rec it A K q i j ≡ true) ↔ SpanOf it A K p i j
      repeat_decided q l e = go (some_below A N) refl
        where
          go : (b : Bool) → some_below A N ≡ b
              → (elim b [
                | true ↦ each_test N A (λ x. rec it (only x) K q i i)
                    && (no_item items || plus_test (rec it no_attributes K q) j i j)
                | false ↦ plus_test (rec it no_attributes K q) j i j
              ] ≡ true) ↔ SpanOf it A K p i j
          go true f =
              let x = below_some A N f in
              let w = span_one_or_more_attributes L Not it K q R A N
              x.0 fits.bound x.2 fits.distinct p i j e in
              let d = both_decide (each_test N A (λ x. rec it (only x) K q i i))
              (no_item items || plus_test (rec it no_attributes K q) j i j) (single_decided q l)
              (either_decides (no_item items) (plus_test (rec it no_attributes K q) j i j)
              (no_item_lem items) (plus_decided q l)) in (
                λ h. let g = d.0 h in w.1 (record { ordered = ordered; single = g.0; items = g.1 }),
                λ s. let g = w.0 s in d.1 (g.single, g.items),
              )
          go false f =
              let z = free_set N A fits.bound f in
              let w = span_one_or_more L Not it K q p i j e in (
                λ h. subst (λ (B : Attributes). SpanOf it B K p i j) (sym z) (w.1 ((plus_decided q l).0 h)),
                λ s. (plus_decided q l).1 (w.0 (subst (λ (B : Attributes). SpanOf it B K p i j) z s)),
              )

      -- the sides of a group or interleave
      module _ (p₁ p₂ : ℕ) (l₁ : p₁ < n) (l₂ : p₂ < n) where
        abbrev side : ℕ → Bool
        side = names L n p₁

        abbrev taker : ℕ → Bool
        taker = takers L n it p₁

        names_tell : Tells side A (λ x. Reaches L (names_attribute L x) (L.pattern p₁))
        names_tell x h =
            (test_reach L (names_attribute L x) n p₁, reach_test_lem L (names_attribute L x) R n p₁ l₁ refl)

        takers_tell : Tells taker K (λ k. Reaches L (takes L (it k)) (L.pattern p₁))
        takers_tell k h = (test_reach L (takes L (it k)) n p₁, reach_test_lem L (takes L (it k)) R n p₁ l₁ refl)

        fits_first : {J : ℕ → Bool} → ((k : ℕ) → J k ≡ true → K k ≡ true) → Fits it (A ∩ side) J
        fits_first f = fits_part fits (λ x. and_left (A x) (side x)) f

        fits_second : {J : ℕ → Bool} → ((k : ℕ) → J k ≡ true → K k ≡ true) → Fits it (A ∖ side) J
        fits_second f = fits_part fits (λ x. and_left (A x) (not (side x))) f

        group_decided : L.pattern p ≡ pattern.group p₁ p₂
            → (some_below (group_test L rec n it A K p₁ p₂ i j) (suc j) ≡ true) ↔ SpanOf it A K p i j
        group_decided e = Iff.trans (to, from) (Iff.symm (span_group L Not R A it K p p₁ p₂ side names_tell i j e))
          where
            at : (h : ℕ) → (group_test L rec n it A K p₁ p₂ i j h ≡ true)
                ↔ (SpanOf it (A ∩ side) K p₁ i h × SpanOf it (A ∖ side) K p₂ h j)
            at h =
                guarded_decides (rec it (A ∩ side) K p₁ i h) (rec it (A ∖ side) K p₂ h j) (decided it (A ∩ side)
                K p₁ i h l₁ (fits_first (λ k m. m))) (decided it (A ∖ side) K p₂ h j l₂ (fits_second (λ k m. m)))

            to : some_below (group_test L rec n it A K p₁ p₂ i j) (suc j) ≡ true
                → Then (SpanOf it (A ∩ side) K p₁) (SpanOf it (A ∖ side) K p₂) i j
            to f =
                let x = below_some (group_test L rec n it A K p₁ p₂ i j) (suc j) f in
                let y = (at x.0).0 x.2 in
                (x.0, y.0, y.1)

            from : Then (SpanOf it (A ∩ side) K p₁) (SpanOf it (A ∖ side) K p₂) i j
                → some_below (group_test L rec n it A K p₁ p₂ i j) (suc j) ≡ true
            from s =
                let b = s.2.0 in
                some_below_lem (group_test L rec n it A K p₁ p₂ i j) (suc j) s.0 (omega arith) ((at s.0).1 (s.1, s.2))

        interleave_decided : L.pattern p ≡ pattern.interleave p₁ p₂
            → (elim (rec it (A ∩ side) (K ∩ taker) p₁ i j) [
              | true ↦ rec it (A ∖ side) (K ∖ taker) p₂ i j
              | false ↦ false
            ] ≡ true) ↔ SpanOf it A K p i j
        interleave_decided e =
            Iff.trans
            (guarded_decides (rec it (A ∩ side) (K ∩ taker) p₁ i j) (rec it (A ∖ side) (K ∖ taker) p₂ i j)
            (decided it (A ∩ side) (K ∩ taker) p₁ i j l₁ (fits_first (λ k. and_left (K k) (taker k))))
            (decided it (A ∖ side) (K ∖ taker) p₂ i j l₂ (fits_second (λ k. and_left (K k) (not (taker k))))))
            (Iff.symm (span_interleave L Not R A it K p p₁ p₂ side names_tell taker takers_tell fits.clean i j e))

      -- an element of the items stands at a position
      element_known : (e d : ℕ) → items ≡ element e ∷ [] → (pair e d ≡ true) ↔ Paired L Not e d
      element_known e d m =
          let a = among_run it K {y = element e} i (j - i) (rw m (first refl)) in
          fits.known a.place e d a.item

      part : {x : Pattern} (q : ℕ) → L.pattern p ≡ x → Subpattern q x → p < suc n → q < n
      part q e o l = let f = R.falls p q (subst (Subpattern q) (sym e) o) in omega arith

      kind_decided : p < suc n → (x : Pattern) → L.pattern p ≡ x
          → (kind_test L N equal pair rec n it A K i j x ≡ true) ↔ SpanOf it A K p i j
      kind_decided l pattern.empty e =
          Iff.trans (items_decided (no_item items) (λ m. m ≡ []) (no_item_lem items))
          (Iff.symm (span_empty L Not A it K p i j e))
      kind_decided l pattern.not_allowed e =
          (λ h. absurd (false≢true h), λ s. absurd (span_not_allowed L Not A it K p i j e s))
      kind_decided l pattern.text e =
          Iff.trans (items_decided (not (has_element items)) (λ m. has_element m ≡ false)
          (is_false_iff (has_element items))) (Iff.symm (span_text L Not A it K p i j e))
      kind_decided l (pattern.data_all t) e =
          Iff.trans (items_decided (one_item (on_string (λ s. true)) items) (One (λ s. Unit {0}))
          (one_string_lem (λ s. true) (λ s. Unit {0}) (λ s. (λ h. tt, λ h. refl)) items))
          (Iff.symm (items_only L Not A it K p i j (pattern.data_all t) (One (λ s. Unit {0})) Iff.rfl e))
      kind_decided l (pattern.data_except t q) e =
          Iff.trans
          (items_decided (one_item (on_string (λ s. not (string_test rec no_attributes q s))) items)
          (One (λ s. Not s q))
          (one_string_lem (λ s. not (string_test rec no_attributes q s)) (λ s. Not s q) excepted items))
          (Iff.symm (items_only L Not A it K p i j (pattern.data_except t q) (One (λ s. Not s q)) Iff.rfl e))
        where
          excepted : (s : List ℕ) → (not (string_test rec no_attributes q s) ≡ true) ↔ Not s q
          excepted s =
              Iff.trans (not_decides (string_test rec no_attributes q s)
              (string_decided no_attributes no_attributes_lem no_twins q s (part q e of_except l)))
              (Iff.symm (not_match R p t q e s))
      kind_decided l (pattern.value t k) e =
          Iff.trans
          (items_decided (one_item (on_string (λ s. equal t s (L.text k))) items)
          (One (λ s. L.Equal t s (L.text k))) (one_string_lem (λ s. equal t s (L.text k))
          (λ s. L.Equal t s (L.text k)) (λ s. equals t s (L.text k)) items))
          (Iff.symm (items_only L Not A it K p i j (pattern.value t k) (One (λ s. L.Equal t s (L.text k))) Iff.rfl e))
      kind_decided l (pattern.list q) e =
          Iff.trans
          (items_decided (one_item (on_string (λ s. tokens_test rec q (L.split s))) items)
          (One Tokens) (one_string_lem (λ s. tokens_test rec q (L.split s)) Tokens
          (λ s. tokens_decided q (L.split s) (part q e of_list l)) items))
          (Iff.symm (items_only L Not A it K p i j (pattern.list q) (One Tokens) Iff.rfl e))
        where
          Tokens : List ℕ → Type 0
          Tokens s = Match L Not no_attributes (map string (L.split s)) (L.pattern q)
      kind_decided l (pattern.attribute nc q) e =
          Iff.trans (attribute_decided nc q (part q e of_attribute l)) (Iff.symm (span_attribute L Not A it K p i j e))
      kind_decided l (pattern.ref d) e =
          Iff.trans
          (items_decided (one_item (on_element (λ x. pair x d)) items) (OnePaired L Not d)
          (one_element (λ x. pair x d) (λ x. Paired L Not x d) items (λ x. element_known x d)))
          (Iff.symm (span_ref L Not A it K p i j fits.clean e))
      kind_decided l (pattern.one_or_more q) e = repeat_decided q (part q e (operand repeated) l) e
      kind_decided l (pattern.choice p₁ p₂) e =
          Iff.trans
          (either_decides (rec it A K p₁ i j) (rec it A K p₂ i j)
          (decided it A K p₁ i j (part p₁ e (operand choice_first) l) fits)
          (decided it A K p₂ i j (part p₂ e (operand choice_second) l) fits))
          (Iff.symm (span_choice L Not A it K p i j e))
      kind_decided l (pattern.group p₁ p₂) e =
          group_decided p₁ p₂ (part p₁ e (operand group_first) l) (part p₂ e (operand group_second) l) e
      kind_decided l (pattern.interleave p₁ p₂) e =
          interleave_decided p₁ p₂ (part p₁ e (operand interleave_first) l) (part p₂ e (operand interleave_second) l) e
      kind_decided l pattern.no_pattern e =
          (λ h. absurd (false≢true h), λ s. absurd (span_no_pattern L Not A it K p i j e s))

  pub span_decided : (n : ℕ) → Decided n (span_test L N equal pair n)
  unfolding span_test
  span_decided zero it A K p i j l f = absurd (omega arith)
  span_decided (suc n) it A K p i j l f =
      go (ltb j i) refl (λ o. kind_decided (span_decided n) it A K f p i j o l (L.pattern p) refl)
    where
      go : (b : Bool) → ltb j i ≡ b
          → (i ≤ j → (kind_test L N equal pair (span_test L N equal pair n) n it A K i j (L.pattern p) ≡ true)
          ↔ SpanOf it A K p i j)
          → (elim b [
            | true ↦ false
            | false ↦ kind_test L N equal pair (span_test L N equal pair n) n it A K i j (L.pattern p)
          ] ≡ true) ↔ SpanOf it A K p i j
      go true e rest = (λ h. absurd (false≢true h), λ s. let a = ltb-true j i e in let b = s.0 in absurd (omega arith))
      go false e rest = rest (not_less (λ h. true≢false (sym (lt-ltb j i h) ∙ e)))
