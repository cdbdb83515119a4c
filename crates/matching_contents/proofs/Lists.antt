-- Words as the rows of children are gathered in them and become items; attributes as they are counted.
use Prim.Native.Nat.{ℕ, zero, suc, ◌+◌, ◌≤◌, ◌<◌}
use mathlib.Core.Path.{◌≡◌, refl, sym, ◌∙◌, ap}
use mathlib.Core.Bool.{Bool, true, false, cond, not}
use mathlib.Core.List.{List, [], ◌∷◌, ◌++◌, append-nil}
use mathlib.Core.Logic.{inl, inr}
use native.Mathlib.Omega.{arith}
use native.Mathlib.Numerals.{add-one}
use borrow.Author.Count.{below_more}
use borrow.Author.Tests.{not-true, not-false}
use lib.ListN.{length, get_or, set, length-set, length-append, get_or-append}
use lib.Seq.{get_or-set_same, get_or-set_other, get_or-append_seam}
use Rattle.instance.specs.Nodes.{nodes_of, parent_of, is_child, is_attribute}
use Rattle.instance.specs.Elements.{rows_where, children_of}
use Rattle.instance.specs.Width.{max_width}
use Rattle.instance.proofs.Elements.{child_later}
use Rattle.tables.proofs.Booleans.{is_false}
use Rattle.matching_marks.specs.Marks.{attribute_row}
use Rattle.matching_contents.specs.Contents.{Counted, RightRow, Begins, item_word, Itemized}
use Rattle.matching_contents.proofs.Subtree.{children_to}

rows_none : (test : ℕ → Bool) (n : ℕ) → ((x : ℕ) → x < n → test x ≡ false) → rows_where test n ≡ []
unfolding rows_where
rows_none test zero f = refl
rows_none test (suc n) f = rw (f n (omega arith), rows_none test n (λ x h. f x (omega arith)))

-- ---- the rows of children, as they are gathered

begins_none : (words : List ℕ) → Begins words words [] 0
begins_none words = record { size = refl; count = refl; each = λ k h. absurd (omega arith); rest = λ k h. refl }

-- one more row, where it is listed
begins_more : {before words l : List ℕ} {n : ℕ} (r : ℕ) (b : Bool) → Begins before words l n
    → Begins before (cond b (set words n r) words) (l ++ cond b (r ∷ []) []) (n + cond b 1 0)
begins_more {before} {words} {l} {n} r true h =
    let c = h.count in
    let s = h.size in
    let e : length (l ++ (r ∷ [])) ≡ length l + 1 = length-append l (r ∷ []) in
    record {
      size = length-set words n r ∙ s;
      count = omega arith;
      each = below_more (λ (k : ℕ). k < length before → get_or (set words n r) k 0 ≡ get_or (l ++ (r ∷ [])) k 0) n
          (λ k m i. get_or-set_other words n k r 0 (λ z. omega arith) ∙ h.each k m i
          ∙ sym (get_or-append l (r ∷ []) 0 k (omega arith)))
          (λ i. get_or-set_same words n r 0 (omega arith) ∙ sym (get_or-append_seam l r [] 0)
          ∙ ap (λ (k : ℕ). get_or (l ++ (r ∷ [])) k 0) (sym c));
      rest = λ k m. get_or-set_other words n k r 0 (λ z. omega arith) ∙ h.rest k (omega arith);
    }
begins_more {n = n} r false h =
    let z : n + 0 ≡ n = omega arith in
    rw (append-nil, z) h

module _ (t : List ℕ) (e : ℕ) where
  -- no row up to e is a child of e
  pub children_none : (words : List ℕ) → RightRow t e → Begins words words (rows_where (is_child t e) (e + 1)) 0
  children_none words g =
      let z = rows_none (is_child t e) (e + 1)
      (λ x h. is_false (is_child t e x) (λ b. omega (arith, (child_later g.right e x g.row b).0))) in
      rw z (begins_none words)

  pub children_more : {before words after : List ℕ} {n m : ℕ} (r : ℕ) → m ≡ n + cond (is_child t e r) 1 0
      → after ≡ cond (is_child t e r) (set words n r) words → Begins before words (rows_where (is_child t e) r) n
      → Begins before after (rows_where (is_child t e) (r + 1)) m
  unfolding rows_where
  children_more r q p h = rw (p, q, add-one r) (begins_more r (is_child t e r) h)

  -- all children are listed where the parent of the next row comes before e
  pub children_all : {before words : List ℕ} {n : ℕ} (r : ℕ) → RightRow t e → e < r → r < nodes_of t
      → parent_of t r < e → Begins before words (rows_where (is_child t e) r) n
      → Begins before words (children_of t e) n
  children_all r g after within out h = rw (children_to g.right after within out) h

-- ---- rows that become items

pub itemized_none : (t before : List ℕ) → Itemized t before before 0
itemized_none t before = record { size = refl; each = λ k h. absurd (omega arith); rest = λ k h. refl }

pub itemized_more : (t : List ℕ) {before words after : List ℕ} {k v : ℕ} → after ≡ set words k v
    → v ≡ item_word t (get_or words k 0) → Itemized t before words k → Itemized t before after (k + 1)
itemized_more t {before} {words} {after} {k} {v} p q h = record {
  size = ap length p ∙ length-set words k v ∙ h.size;
  each = below_more (λ (j : ℕ). j < length before → get_or after j 0 ≡ item_word t (get_or before j 0)) k
      (λ j m i. ap (λ (l : List ℕ). get_or l j 0) p ∙ get_or-set_other words k j v 0 (λ z. omega arith) ∙ h.each j m i)
      (λ i. ap (λ (l : List ℕ). get_or l k 0) p ∙ get_or-set_same words k v 0 (let s = h.size in omega arith)
      ∙ q ∙ ap (item_word t) (h.rest k (omega arith)));
  rest = λ j m. ap (λ (l : List ℕ). get_or l j 0) p
      ∙ get_or-set_other words k j v 0 (λ z. omega arith) ∙ h.rest j (omega arith);
}

-- ---- the attributes of e, as they are counted

module _ (t : List ℕ) (e n : ℕ) where
  abbrev pub AttributesTo : Type 0
  AttributesTo = (x : ℕ) → x < n → is_attribute t e (attribute_row e x) ≡ true

  next_row : e + 1 + n ≡ attribute_row e n
  next_row = omega arith

  pub counted_more : {b : Bool} → b ≡ is_attribute t e (e + 1 + n) → not b ≡ false
      → AttributesTo → (x : ℕ) → x < n + 1 → is_attribute t e (attribute_row e x) ≡ true
  counted_more {b} p q f =
      below_more (λ (x : ℕ). is_attribute t e (attribute_row e x) ≡ true)
      n f (ap (is_attribute t e) (sym next_row) ∙ sym p ∙ not-false b q)

  pub counted_last : {b : Bool} → b ≡ is_attribute t e (e + 1 + n)
      → not b ≡ true → n ≤ max_width → AttributesTo → Counted t e n
  counted_last {b} p q h f = record {
    attributes = f;
    few = omega arith;
    last = inl (ap (is_attribute t e) (sym next_row) ∙ sym p ∙ not-true b q);
  }

  pub counted_many : n ≡ suc max_width → AttributesTo → Counted t e n
  counted_many h f = record { attributes = f; few = omega arith; last = inr h }
