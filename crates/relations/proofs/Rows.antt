-- One word of the empty relation, and of a union, a meet and a composition.
use mathlib.Core.Path.{◌≡◌, sym, ap, ◌∙◌}
use mathlib.Core.List.{List}
use mathlib.Core.Logic.{inl, inr, ⊎_elim}
use Prim.Native.Nat.{ℕ, ◌+◌, ◌-◌, ◌<◌}
use native.Mathlib.Omega.{arith}
use lib.Bits.{bit_and, bit_or}
use lib.ListN.{get_or, take, drop}
use Rattle.sets.specs.Bits.{positions, bit}
use Rattle.relations.specs.Relations.{Or, And, Then}
use Rattle.relations.specs.Words.{WordsRelate, Image, front, next, Empty}
use Rattle.sets.proofs.Members.{none_has, or_has, has_or_l, has_or_r, and_has, has_and}
use Rattle.relations.proofs.Words.{front_below, front_at, next_at, Row}

pub empty_row : (i : ℕ) → Row Empty i 0
empty_row i = record { sound = λ j e. none_has j e; complete = λ j n. absurd n }

-- ---- union, meet, composition of the first relation with the next

module _ (m : ℕ) (w : List ℕ) {i a b : ℕ} (l : i < m) (x : a ≡ get_or w i 0) (y : b ≡ get_or w (positions + i) 0) where
  in_front : (j : ℕ) → bit a j ≡ bit (get_or (front m w) i 0) j
  in_front j = ap (λ (v : ℕ). bit v j) (x ∙ sym (front_at m w i l))

  in_next : (j : ℕ) → bit b j ≡ bit (get_or (next m w) i 0) j
  in_next j = ap (λ (v : ℕ). bit v j) (y ∙ sym (next_at m w i l))

  pub or_row : Row (Or (WordsRelate (front m w)) (WordsRelate (next m w))) i (bit_or a b)
  or_row = record {
    sound = λ j e. ⊎_elim (λ t. inl (sym (in_front j) ∙ t)) (λ t. inr (sym (in_next j) ∙ t)) (or_has a b j e);
    complete = λ j r. ⊎_elim (λ t. has_or_l a b j (in_front j ∙ t)) (λ t. has_or_r a b j (in_next j ∙ t)) r;
  }

  pub and_row : Row (And (WordsRelate (front m w)) (WordsRelate (next m w))) i (bit_and a b)
  and_row = record {
    sound = λ j e. let t = and_has a b j e in (sym (in_front j) ∙ t.0, sym (in_next j) ∙ t.1);
    complete = λ j r. has_and a b j (in_front j ∙ r.0) (in_next j ∙ r.1);
  }

-- v is gathered from the words from 64 to end, which are as they were
pub then_row : (m : ℕ) (w₀ w : List ℕ) {i a v end : ℕ} → i < m → a ≡ get_or w₀ i 0
    → drop positions w ≡ drop positions w₀
    → end ≡ positions + m → Image a (take (end - positions) (drop positions w)) v
    → Row (Then (WordsRelate (front m w₀)) (WordsRelate (next m w₀))) i v
then_row m w₀ w {i} {a} {v} {end} l x same e im = record {
  sound = λ j r. let t = all.sound j r in (t.0, sym (at t.0) ∙ t.1, t.2);
  complete = λ j r. all.complete r.0 j (at r.0 ∙ r.1) r.2;
}
  where
    at : (h : ℕ) → bit a h ≡ bit (get_or (front m w₀) i 0) h
    at h = ap (λ (n : ℕ). bit n h) (x ∙ sym (front_at m w₀ i l))

    size : end - positions ≡ m
    size = omega arith

    all : Image a (next m w₀) v
    all = rw (size, same) at im

-- where they hold, the first position is one of the m
pub or_low : (m : ℕ) (w : List ℕ) (i j : ℕ) → Or (WordsRelate (front m w)) (WordsRelate (next m w)) i j → i < m
or_low m w i j r = ⊎_elim (front_below m w i j) (front_below m (drop positions w) i j) r

pub and_low : (m : ℕ) (w : List ℕ) (i j : ℕ) → And (WordsRelate (front m w)) (WordsRelate (next m w)) i j → i < m
and_low m w i j r = front_below m w i j r.0

pub then_low : (m : ℕ) (w : List ℕ) (i j : ℕ) → Then (WordsRelate (front m w)) (WordsRelate (next m w)) i j → i < m
then_low m w i j r = front_below m w i r.0 r.1
