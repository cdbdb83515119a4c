-- The children of an element as items at positions, and the runs over them.
use Prim.Native.Nat.{ℕ, zero, suc, ◌+◌, ◌-◌, ◌≤◌, ◌<◌}
use mathlib.Core.Path.{◌≡◌, refl, sym, ◌∙◌, ap, ap₂}
use mathlib.Core.Bool.{Bool, true, false, ◌&&◌}
use mathlib.Core.List.{List, [], ◌∷◌, ◌++◌, map, append-nil, Memᴰ}
use mathlib.Core.Logic.{◌⊎◌, inl, inr}
use native.Mathlib.Omega.{arith}
use native.Mathlib.Decide.{dec_lt}
use lib.Dec.{eqb, ltb}
use lib.ListN.{length, get_or, length-map, get_or-map}
use borrow.Author.Tests.{lt-ltb, le-ltb, eqb-true}
use Rattle.tables.specs.Tables.{StringTable, tables_of}
use Rattle.tables.proofs.Numbers.{not_less}
use Rattle.instance.specs.Nodes.{element, text, nodes_of, kind_of, a_of, is_child}
use Rattle.instance.specs.Width.{max_width, WidthFault}
use Rattle.instance.specs.Elements.{is_element, children_of}
use Rattle.instance.proofs.RowLists.{listed_row, few_children, child_kinds}
use Rattle.sets.specs.Bits.{bit}
use Rattle.sets.specs.Collecting.{Collects}
use Rattle.matching_rules.specs.Items.{Item}
use Rattle.matching_rules.specs.Job.{item_of, lookups}
use Rattle.matching_rules.specs.Spans.{run}
use Rattle.matching_rules.proofs.Runs.{kept, run_add, run_list}
use Rattle.matching_marks.specs.Given.{item_at}
use Rattle.matching_contents.specs.Contents.{Begins, item_word, of_kind, Itemized, Contents}

-- a run by what stands at its positions
run_same : {A : Type 0} (it other : ℕ → A) (K J : ℕ → Bool) (i n : ℕ) → ((k : ℕ) → i ≤ k → k < i + n → K k ≡ J k)
    → ((k : ℕ) → i ≤ k → k < i + n → it k ≡ other k) → run it K i n ≡ run other J i n
unfolding run
run_same it other K J i zero f g = refl
run_same it other K J i (suc n) f g =
    rw (
      f i (omega arith) (omega arith),
      g i (omega arith) (omega arith),
      run_same it other K J (suc i) n (λ k h l. f k (omega arith) (omega arith))
          (λ k h l. g k (omega arith) (omega arith)),
    )

run_nothing : {A : Type 0} (it : ℕ → A) (K : ℕ → Bool) (i n : ℕ) → ((k : ℕ) → i ≤ k → K k ≡ false) → run it K i n ≡ []
unfolding run
run_nothing it K i zero f = refl
run_nothing it K i (suc n) f = rw (f i (omega arith)) (run_nothing it K (suc i) n (λ k h. f k (omega arith)))

-- the run over positions that hold the members of a list, by a test on the members
pub run_members : {A : Type 0} (P : A → Bool) (d : A) (l : List A) (it : ℕ → A) (K : ℕ → Bool) (m : ℕ)
    → length l ≤ m → ((k : ℕ) → k < length l → it k ≡ get_or l k d)
    → ((k : ℕ) → k < length l → K k ≡ P (get_or l k d)) → ((k : ℕ) → length l ≤ k → K k ≡ false)
    → run it K 0 m ≡ kept P l
run_members P d l it K m h f g z =
    let e : m ≡ length l + (m - length l) = omega arith in
    ap (run it K 0) e
    ∙ run_add it K 0 (length l) (m - length l)
    ∙ ap₂ ◌++◌ (run_same it (λ k. get_or l k d) K (λ k. P (get_or l k d)) 0 (length l) (λ k i j. g k (omega arith))
    (λ k i j. f k (omega arith))) (run_nothing it K (0 + length l) (m - length l) (λ k i. z k (omega arith)))
    ∙ append-nil (run (λ k. get_or l k d) (λ k. P (get_or l k d)) 0 (length l))
    ∙ run_list P d l

member_at : (l : List ℕ) (k : ℕ) → k < length l → Memᴰ (get_or l k 0) l
member_at [] k h = absurd (omega arith)
member_at (x ∷ l) zero h = Memᴰ.head refl
member_at (x ∷ l) (suc k) h = Memᴰ.tail (member_at l k (omega arith))

-- an element that is not too wide has few children
pub few_listed : {t before rows : List ℕ} {e n : ℕ} → e < nodes_of t → kind_of t e ≡ element
    → ¬ WidthFault t e → Begins before rows (children_of t e) n → n ≤ max_width
few_listed h k narrow c = rw c.count (few_children h k narrow)

-- what was collected
pub collected_contents : {t before rows items : List ℕ} {e n texts elements : ℕ} → n ≤ max_width
    → max_width ≤ length before → Begins before rows (children_of t e) n → Itemized t rows items n
    → Collects (of_kind t rows text) n texts → Collects (of_kind t rows element) n elements
    → Contents t e items n texts elements
collected_contents {t} {before} {rows} {items} {e} {n} {texts} {elements} few room c i ts es = record {
  count = c.count;
  few = few;
  each = λ j m. i.each j m (omega (arith, c.size)) ∙ ap (item_word t) (same j m);
  texts_at = λ j. ts.members j ∙ kinds text j (dec_lt j n);
  elements_at = λ j. es.members j ∙ kinds element j (dec_lt j n);
}
  where
    same : (j : ℕ) → j < n → get_or rows j 0 ≡ get_or (children_of t e) j 0
    same j m = c.each j m (omega (arith, few, room))

    kinds : (kind j : ℕ) → Dec (j < n)
        → (ltb j n && of_kind t rows kind j) ≡ (ltb j n && eqb (kind_of t (get_or (children_of t e) j 0)) kind)
    kinds kind j (yes m) = rw (same j m)
    kinds kind j (no f) = rw (le-ltb j n (not_less f))

module _ {t : List ℕ} {e : ℕ} {items : List ℕ} {n texts elements : ℕ} (c : Contents t e items n texts elements) where
  abbrev row : ℕ → ℕ
  row k = get_or (children_of t e) k 0

  pub child_at : (k : ℕ) → k < n → is_child t e (row k) ≡ true
  child_at k h = (listed_row (is_child t e) (member_at (children_of t e) k (rw (← c.count) h))).1

  -- a child is a text or an element, and the words tell which
  pub data Kind (k : ℕ) : Type 0 where
    is_text : kind_of t (row k) ≡ text → is_element t (row k) ≡ false
        → bit texts k ≡ true → get_or items k 0 ≡ a_of t (row k) → Kind k
    is_element_lem : is_element t (row k) ≡ true → bit texts k ≡ false → get_or items k 0 ≡ row k → Kind k

  pub kind_at : (k : ℕ) → k < n → Kind k
  kind_at k h = go (child_kinds t e (row k) (child_at k h))
    where
      go : (is_element t (row k) ≡ true) ⊎ (kind_of t (row k) ≡ text) → Kind k
      go (inl i) =
          let z = eqb-true (kind_of t (row k)) element i in
          let f : eqb (kind_of t (row k)) text ≡ false = rw z refl in
          is_element_lem i (c.texts_at k ∙ rw (lt-ltb k n h, f)) (c.each k h ∙ rw f)
      go (inr j) = is_text j (rw j refl) (c.texts_at k ∙ rw (lt-ltb k n h, j)) (c.each k h ∙ rw j)

  module _ (T : StringTable) (s : List ℕ) where
    pub item_at_lem : (k : ℕ) → k < n → item_at T items texts k ≡ item_of (tables_of T s t) (row k)
    item_at_lem k h = go (kind_at k h)
      where
        go : Kind k → item_at T items texts k ≡ item_of (tables_of T s t) (row k)
        go (is_text j f b i) = rw (b, f, i)
        go (is_element_lem i b j) = rw (b, i, j)

    -- the items that pass a test
    pub run_contents : (P : Item → Bool) (w : ℕ) → ((k : ℕ) → bit w k ≡ (ltb k n && P (item_at T items texts k)))
        → run (item_at T items texts) (bit w) 0 n ≡ kept P ((lookups (tables_of T s t)).children e)
    run_contents P w f =
        run_members P (item_of (tables_of T s t) 0) (map (item_of (tables_of T s t)) (children_of t e))
        (item_at T items texts) (bit w) n (omega (arith, size)) at tested past
      where
        size : length (map (item_of (tables_of T s t)) (children_of t e)) ≡ n
        size = length-map (children_of t e) (item_of (tables_of T s t)) ∙ sym c.count

        at : (k : ℕ) → k < length (map (item_of (tables_of T s t)) (children_of t e)) → item_at T items texts k
            ≡ get_or (map (item_of (tables_of T s t)) (children_of t e)) k (item_of (tables_of T s t) 0)
        at k h = item_at_lem k (rw size at h) ∙ sym (get_or-map (item_of (tables_of T s t)) (children_of t e) k 0)

        tested : (k : ℕ) → k < length (map (item_of (tables_of T s t)) (children_of t e))
            → bit w k ≡ P (get_or (map (item_of (tables_of T s t)) (children_of t e)) k (item_of (tables_of T s t) 0))
        tested k h = f k ∙ rw (lt-ltb k n (rw size at h)) (ap P (at k h))

        past : (k : ℕ) → length (map (item_of (tables_of T s t)) (children_of t e)) ≤ k → bit w k ≡ false
        past k h = f k ∙ rw (le-ltb k n (rw size at h))
