-- Marks in a table: what a store changes, and what it keeps.
use mathlib.Core.Path.{◌≡◌, refl, sym, ◌∙◌, ap, subst}
use mathlib.Core.Bool.{Bool, true, false}
use mathlib.Core.Logic.{◌≢◌}
use mathlib.Core.List.{List, []}
use Prim.Native.Nat.{ℕ, ◌<◌, ◌≤◌}
use native.Mathlib.Omega.{arith}
use lib.ListN.{length, set, length-replicate}
use lib.Seq.{get_or-set_same, get_or-set_other}
use lib.Dec.{eqb}
use Rattle.tables.specs.Outputs.{zeros}
use Rattle.tables.proofs.Fill.{get_or_zeros}
use Rattle.matching_rules.specs.Items.{Lookups}
use Rattle.matching_tokens.specs.Marked.{Tree, empty, leaf, one_or_more, choice, group, row_of, Shows}
use Rattle.matching_tokens.specs.Marked.{shows_empty, shows_leaf, shows_one_or_more, shows_choice}
use Rattle.matching_tokens.specs.Marked.{shows_group, In, in_root, in_part, in_choice_1, in_choice_2}
use Rattle.matching_tokens.specs.Marked.{in_group_1, in_group_2, nullable, Read, second, again, done}
use Rattle.matching_tokens.specs.MarkTable.{mark, marked, Slot, HoldsMarks}

mark_told : (b : Bool) → eqb (mark b) 1 ≡ b
mark_told true = refl
mark_told false = refl

pub marked_own : (marks : List ℕ) (r : ℕ) (b : Bool) → r < length marks → marked (set marks r (mark b)) r ≡ b
marked_own marks r b h = rw (get_or-set_same marks r (mark b) 0 h) (mark_told b)

pub marked_other : (marks : List ℕ) (r i v : ℕ) → i ≢ r → marked (set marks r v) i ≡ marked marks i
marked_other marks r i v h = rw (get_or-set_other marks r i v 0 h)

own_row : {r i : ℕ} → r ≡ i → i ≤ r
own_row e = omega arith

lower_row : {r a i : ℕ} → i ≤ a → a < r → i ≤ r
lower_row f g = omega arith

module _ {L : Lookups} {N : List ℕ → ℕ → Type 0} where
  pub row_shown : {r : ℕ} {p : Tree} → Shows L N r p → row_of p ≡ r
  row_shown (shows_empty e) = refl
  row_shown (shows_leaf d t) = refl
  row_shown (shows_one_or_more e h s) = refl
  row_shown (shows_choice e h g s t) = refl
  row_shown (shows_group e h g s t) = refl

  -- a row of a tree is at most the tree's own
  pub in_below : {r i : ℕ} {p : Tree} → Shows L N r p → In i p → i ≤ r
  in_below (shows_empty e) (in_root f) = own_row f
  in_below (shows_leaf d t) (in_root f) = own_row f
  in_below (shows_one_or_more e h s) (in_root f) = own_row f
  in_below (shows_one_or_more e h s) (in_part j) = lower_row (in_below s j) h
  in_below (shows_choice e h g s t) (in_root f) = own_row f
  in_below (shows_choice e h g s t) (in_choice_1 j) = lower_row (in_below s j) h
  in_below (shows_choice e h g s t) (in_choice_2 j) = lower_row (in_below t j) g
  in_below (shows_group e h g s t) (in_root f) = own_row f
  in_below (shows_group e h g s t) (in_group_1 j) = lower_row (in_below s j) h
  in_below (shows_group e h g s t) (in_group_2 j) = lower_row (in_below t j) g

pub holds_slot : (marks : List ℕ) (p : Tree) (h : List Read) → HoldsMarks marks p h → Slot marks p h
holds_slot marks (empty r) h c = c
holds_slot marks (leaf r takes) h c = c
holds_slot marks (one_or_more r p) h c = c.0
holds_slot marks (choice r p q) h c = c.0
holds_slot marks (group r p q) h c = c.0

-- the mark of a part, where its row shows the tree
pub holds_own : {L : Lookups} {N : List ℕ → ℕ → Type 0} {r : ℕ} (marks : List ℕ) (p : Tree) (h : List Read)
    → Shows L N r p → HoldsMarks marks p h → marked marks r ≡ done p h
holds_own marks p h s c = subst (λ (x : ℕ). marked marks x ≡ done p h) (row_shown s) (holds_slot marks p h c).told

module _ (before after : List ℕ) (size : length after ≡ length before) where
  slot_kept : (p : Tree) (h : List Read)
      → marked after (row_of p) ≡ marked before (row_of p) → Slot before p h → Slot after p h
  slot_kept p h e s = record { room = subst (λ (n : ℕ). row_of p < n) (sym size) s.room; told = e ∙ s.told }

  -- a table with the same marks at a tree's rows holds the same
  pub holds_kept : (p : Tree) (h : List Read) → ((i : ℕ) → In i p → marked after i ≡ marked before i)
      → HoldsMarks before p h → HoldsMarks after p h
  holds_kept (empty r) h same c = slot_kept (empty r) h (same r (in_root refl)) c
  holds_kept (leaf r takes) h same c = slot_kept (leaf r takes) h (same r (in_root refl)) c
  holds_kept (one_or_more r p) h same c = (
    slot_kept (one_or_more r p) h (same r (in_root refl)) c.0,
    holds_kept p (again (done p) h) (λ i j. same i (in_part j)) c.1,
  )
  holds_kept (choice r p q) h same c = (
    slot_kept (choice r p q) h (same r (in_root refl)) c.0,
    holds_kept p h (λ i j. same i (in_choice_1 j)) c.1,
    holds_kept q h (λ i j. same i (in_choice_2 j)) c.2,
  )
  holds_kept (group r p q) h same c = (
    slot_kept (group r p q) h (same r (in_root refl)) c.0,
    holds_kept p h (λ i j. same i (in_group_1 j)) c.1,
    holds_kept q (second (nullable p) (done p) h) (λ i j. same i (in_group_2 j)) c.2,
  )

-- nothing is completed before the first token
done_none : (p : Tree) → done p [] ≡ false
unfolding done
done_none (empty r) = refl
done_none (leaf r takes) = refl
done_none (one_or_more r p) = done_none p
done_none (choice r p q) = simp (done_none p, done_none q)
done_none (group r p q) = simp (done_none p, done_none q)

module _ (n : ℕ) where
  slot_none : (p : Tree) → row_of p < n → Slot (zeros n) p []
  slot_none p h = record {
    room = rw (length-replicate {A = ℕ} n 0) h;
    told = ap (λ (x : ℕ). eqb x 1) (get_or_zeros n (row_of p)) ∙ sym (done_none p);
  }

  -- and a table of zeros says so
  pub holds_none : {L : Lookups} {N : List ℕ → ℕ → Type 0} {r : ℕ} {p : Tree}
      → Shows L N r p → r < n → HoldsMarks (zeros n) p []
  holds_none {p = p} (shows_empty e) h = slot_none p h
  holds_none {p = p} (shows_leaf d t) h = slot_none p h
  holds_none {p = p} (shows_one_or_more e f s) h = (slot_none p h, holds_none s (omega arith))
  holds_none {p = p} (shows_choice e f g s t) h =
      (slot_none p h, holds_none s (omega arith), holds_none t (omega arith))
  holds_none {p = p} (shows_group e f g s t) h = (slot_none p h, holds_none s (omega arith), holds_none t (omega arith))
