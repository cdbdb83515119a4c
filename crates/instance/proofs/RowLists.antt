-- The list of the rows that pass a test: its members, their order, its length; the children of an element, of which no
-- two texts are neighbours.
use mathlib.Core.Path.{◌≡◌, refl, sym, ◌∙◌, ap}
use mathlib.Core.Logic.{◌⊎◌, inl, inr}
use mathlib.Core.Bool.{Bool, true, false, cond, ◌||◌, true≢false}
use mathlib.Core.List.{List, [], ◌∷◌, ◌++◌, append-nil, Memᴰ}
use Prim.Native.Nat.{ℕ, zero, suc, ◌+◌, ◌≤◌, ◌<◌}
use native.Mathlib.Omega.{arith}
use native.Mathlib.Decide.{dec_lt, ℕ_discrete}
use lib.Dec.{eqb}
use lib.ListN.{length, length-append}
use borrow.Author.Tests.{eqb-true}
use Rattle.tables.proofs.Numbers.{not_less}
use Rattle.instance.specs.Nodes.{element, text, nodes_of, kind_of, parent_of, is_child, is_attribute}
use Rattle.instance.specs.NodeRule.{bad_node, text_after_text, NodesRight}
use Rattle.instance.specs.Elements.{rows_where, is_element, attributes_of, children_of}
use Rattle.instance.specs.Width.{max_width, how_many, WidthFault, many_attributes, many_children}
use Rattle.instance.proofs.Order.{and_parts, child_parent}
use Rattle.instance.proofs.Elements.{has_kind}

-- no row from a up to b passes the test
abbrev pub Without : (ℕ → Bool) → ℕ → ℕ → Type 0
Without test a b = (x : ℕ) → a ≤ x → x < b → test x ≡ false

-- a list of the rows from a up to b that pass a test, in order
pub data Selects (test : ℕ → Bool) (b : ℕ) : ℕ → List ℕ → Type 0 where
  no_more : {a : ℕ} → Without test a b → Selects test b a []
  next : {a x : ℕ} {l : List ℕ} → a ≤ x → x < b → Without test a x
      → test x ≡ true → Selects test b (suc x) l → Selects test b a (x ∷ l)

module _ (test : ℕ → Bool) where
  selects_none : (a b : ℕ) → b ≤ a → Selects test b a []
  selects_none a b f = no_more (λ x h l. absurd (none x h l))
    where
      none : (x : ℕ) → a ≤ x → x < b → ⊥
      none x h l = omega arith

  without_more : {a b : ℕ} → Without test a b → test b ≡ false → Without test a (suc b)
  without_more {a} {b} f e x h l = go (ℕ_discrete x b)
    where
      go : Dec (x ≡ b) → test x ≡ false
      go (yes z) = rw z e
      go (no z) = f x h (omega arith)

  selects_past : {b a : ℕ} {l : List ℕ} → test b ≡ false → Selects test b a l → Selects test (suc b) a l
  selects_past e (no_more f) = no_more (without_more f e)
  selects_past e (next h l f p s) = next h (omega arith) f p (selects_past e s)

  selects_one : {b a : ℕ} {l : List ℕ} → a ≤ b → test b ≡ true
      → Selects test b a l → Selects test (suc b) a (l ++ (b ∷ []))
  selects_one {b = b} m e (no_more f) = next m (omega arith) f e (selects_none (suc b) (suc b) (omega arith))
  selects_one m e (next h l f p s) = next h (omega arith) f p (selects_one l e s)

  -- the rows before n
  pub selects_rows : (n : ℕ) → Selects test n 0 (rows_where test n)
  unfolding rows_where
  selects_rows zero = selects_none 0 0 (omega arith)
  selects_rows (suc n) = go (test n) refl (selects_rows n)
    where
      go : (b : Bool) → test n ≡ b → Selects test n 0 (rows_where test n)
          → Selects test (suc n) 0 (rows_where test n ++ cond b (n ∷ []) [])
      go true e before = selects_one (omega arith) e before
      go false e before = rw append-nil (selects_past e before)

  -- the members are the rows that pass
  selected : {b a : ℕ} {l : List ℕ} {x : ℕ} → Selects test b a l → Memᴰ x l → (a ≤ x) × (x < b) × (test x ≡ true)
  selected {b = b} (no_more {a = a} _) m = elim m [ ]
  selected (next h l f p s) (Memᴰ.head e) = rw e (h, l, p)
  selected (next h l f p s) (Memᴰ.tail m) = let i = selected s m in (omega arith, i.1, i.2)

  select : {b a : ℕ} {l : List ℕ} {x : ℕ} → Selects test b a l → a ≤ x → x < b → test x ≡ true → Memᴰ x l
  select {x = x} (no_more f) m n e = absurd (true≢false (sym e ∙ f x m n))
  select {b = b} {a = a} {x = x} (next {x = y} {l = l} h k f p s) m n e =
      go (dec_lt x y) (ℕ_discrete x y) (λ i. select s i n e)
    where
      go : Dec (x < y) → Dec (x ≡ y) → (suc y ≤ x → Memᴰ x l) → Memᴰ x (y ∷ l)
      go (yes i) d ih = absurd (true≢false (sym e ∙ f x m i))
      go (no i) (yes z) ih = Memᴰ.head z
      go (no i) (no z) ih = Memᴰ.tail (ih (omega arith))

  pub row_listed : {x n : ℕ} → x < n → test x ≡ true → Memᴰ x (rows_where test n)
  row_listed {n = n} h e = select (selects_rows n) (omega arith) h e

  pub listed_row : {x n : ℕ} → Memᴰ x (rows_where test n) → (x < n) × (test x ≡ true)
  listed_row {n = n} m = let i = selected (selects_rows n) m in (i.1, i.2)

  pub length_rows : (n : ℕ) → length (rows_where test n) ≡ how_many test n
  unfolding rows_where how_many
  length_rows zero = refl
  length_rows (suc n) = length-append (rows_where test n) (cond (test n) (n ∷ []) []) ∙ go (test n) (length_rows n)
    where
      go : (b : Bool) → length (rows_where test n) ≡ how_many test n
          → length (rows_where test n) + length (cond b (n ∷ []) []) ≡ how_many test n + cond b 1 0
      go true e = ap (λ (k : ℕ). k + 1) e
      go false e = ap (λ (k : ℕ). k + 0) e

-- no element that keeps the limits of code 10 has more than max_width attributes or children
module _ {t : List ℕ} {e : ℕ} (h : e < nodes_of t) (k : kind_of t e ≡ element) (narrow : ¬ WidthFault t e) where
  pub few_attributes : length (attributes_of t e) ≤ max_width
  few_attributes = rw (length_rows (is_attribute t e) (nodes_of t)) (not_less (λ l. narrow (many_attributes h k l)))

  pub few_children : length (children_of t e) ≤ max_width
  few_children = rw (length_rows (is_child t e) (nodes_of t)) (not_less (λ l. narrow (many_children h k l)))

-- rows of elements and texts, of which no two texts are neighbours
pub data Alternate (t : List ℕ) : List ℕ → Type 0 where
  without_row : Alternate t []
  element_row : {r : ℕ} {l : List ℕ} → is_element t r ≡ true → Alternate t l → Alternate t (r ∷ l)
  last_text : {r : ℕ} → kind_of t r ≡ text → Alternate t (r ∷ [])
  text_row : {r q : ℕ} {l : List ℕ} → kind_of t r ≡ text → is_element t q ≡ true → Alternate t l
      → Alternate t (r ∷ q ∷ l)

pub child_kinds : (t : List ℕ) (e r : ℕ) → is_child t e r ≡ true → (is_element t r ≡ true) ⊎ (kind_of t r ≡ text)
child_kinds t e r c =
    go (eqb (kind_of t r) element)
    (and_parts (eqb (parent_of t r) e) (eqb (kind_of t r) element || eqb (kind_of t r) text) c).1
  where
    go : (b : Bool) → (b || eqb (kind_of t r) text) ≡ true → (b ≡ true) ⊎ (kind_of t r ≡ text)
    go true f = inl refl
    go false f = inr (eqb-true _ _ f)

module _ {strings : ℕ} {t : List ℕ} (right : NodesRight strings t) (e : ℕ) where
  -- after a text comes no text
  after_text : (q r : ℕ) → q < r → kind_of t q ≡ text → parent_of t q ≡ e
      → Without (is_child t e) (suc q) r → is_child t e r ≡ true → is_element t r ≡ true
  after_text q r h k p f c = go (child_kinds t e r c)
    where
      own : parent_of t r ≡ e
      own = child_parent t e r c

      go : (is_element t r ≡ true) ⊎ (kind_of t r ≡ text) → is_element t r ≡ true
      go (inl i) = i
      go (inr j) =
          absurd (right r (bad_node (has_kind right j (λ z. omega arith))
          (text_after_text q h j k (p ∙ sym own) (λ x m n. rw own (f x m n)))))

  after_element : {r : ℕ} {l : List ℕ} → is_element t r ≡ true → Alternate t (r ∷ l) → Alternate t l
  after_element i (element_row j a) = a
  after_element i (last_text k) = without_row
  after_element {r} i (text_row k j a) = absurd (omega (arith, eqb-true (kind_of t r) element i))

  alternates : {b a : ℕ} {l : List ℕ} → Selects (is_child t e) b a l → Alternate t l
  alternates (no_more f) = without_row
  alternates {b = b} (next {x = x} {l = l} h k f c s) = go (child_kinds t e x c) s (alternates s)
    where
      go : {l : List ℕ} → (is_element t x ≡ true) ⊎ (kind_of t x ≡ text)
          → Selects (is_child t e) b (suc x) l → Alternate t l → Alternate t (x ∷ l)
      go (inl i) s a = element_row i a
      go (inr j) (no_more g) a = last_text j
      go (inr j) (next {x = y} m n g d s) a =
          let i = after_text x y m j (child_parent t e x c) g d in
          text_row j i (after_element i a)

  pub children_alternate : Alternate t (children_of t e)
  children_alternate = alternates (selects_rows (is_child t e) (nodes_of t))
