-- One word of the closure of a relation that goes up, when the words after it are closed.
use mathlib.Core.Path.{◌≡◌, refl, sym, subst, ap, ◌∙◌}
use mathlib.Core.Bool.{true}
use mathlib.Core.List.{List}
use mathlib.Core.Logic.{⊎_elim}
use Prim.Native.Nat.{ℕ, ◌+◌, ◌<◌}
use native.Mathlib.Nat.{eq-or-lt_of_le}
use native.Mathlib.Omega.{arith}
use lib.Bits.{bit_or}
use lib.ListN.{get_or}
use Rattle.sets.specs.Bits.{bit}
use Rattle.relations.specs.Relations.{Plus, once, more}
use Rattle.relations.specs.Words.{WordsRelate, Image, front, Up}
use Rattle.sets.proofs.Members.{or_has, has_or_l, has_or_r}
use Rattle.relations.proofs.Words.{front_below, front_at, Row, WrittenWords}

pub plus_low : (m : ℕ) (w : List ℕ) (i j : ℕ) → Plus (WordsRelate (front m w)) i j → i < m
plus_low m w i j (once a) = front_below m w i j a
plus_low m w i j (more {h = h} a p) = front_below m w i h a

module _ {m : ℕ} {w₀ w : List ℕ} {i s v : ℕ} (up : Up (WordsRelate (front m w₀)))
    (k : ℕ) (g : WrittenWords m (Plus (WordsRelate (front m w₀))) w₀ w i)
    (e : i ≡ k + 1) (x : s ≡ get_or w k 0) (im : Image s (front m w) v) where
  low : k < m
  low = omega (arith, g.within)

  -- word k is as it was
  was : (j : ℕ) → bit s j ≡ bit (get_or (front m w₀) k 0) j
  was j = ap (λ (n : ℕ). bit n j) (x ∙ g.before k (omega arith) ∙ sym (front_at m w₀ k low))

  here : (j : ℕ) → bit (get_or (front m w) k 0) j ≡ bit (get_or (front m w₀) k 0) j
  here j = ap (λ (n : ℕ). bit n j) (front_at m w k low ∙ g.before k (omega arith) ∙ sym (front_at m w₀ k low))

  -- the words after it are closed
  after : (h j : ℕ) → k < h → WordsRelate (front m w) h j → Plus (WordsRelate (front m w₀)) h j
  after h j l b =
      let n = front_below m w h j b in
      (g.rows h (omega (arith, e, l)) n).sound j (sym (ap (λ (n : ℕ). bit n j) (front_at m w h n)) ∙ b)

  step : (h j : ℕ) → bit s h ≡ true → WordsRelate (front m w) h j → Plus (WordsRelate (front m w₀)) k j
  step h j a b = let r : WordsRelate (front m w₀) k h = sym (was h) ∙ a in
      more r (⊎_elim (λ (q : k ≡ h). once (subst (λ (n : ℕ). WordsRelate (front m w₀) n j)
      q (sym (here j) ∙ subst (λ (n : ℕ). WordsRelate (front m w) n j) (sym q) b)))
      (λ (l : k < h). after h j l b) (eq-or-lt_of_le (up k h r)))

  reached : (n j : ℕ) → n ≡ k → Plus (WordsRelate (front m w₀)) n j → bit (bit_or s v) j ≡ true
  reached n j q (once a) = has_or_l s v j (was j ∙ subst (λ (x : ℕ). WordsRelate (front m w₀) x j) q a)
  reached n j q (more {h = h} a p) = ⊎_elim (λ (z : n ≡ h). reached h j (sym z ∙ q) p) on (eq-or-lt_of_le (up n h a))
    where
      on : n < h → bit (bit_or s v) j ≡ true
      on l = let b = plus_low m w₀ h j p in
          has_or_r s v j (im.complete h j (was h ∙ subst (λ (x : ℕ). WordsRelate (front m w₀) x h) q a)
          (ap (λ (n : ℕ). bit n j) (front_at m w h b) ∙ (g.rows h (omega (arith, e, l, q)) b).complete j p))

  pub plus_row : Row (Plus (WordsRelate (front m w₀))) k (bit_or s v)
  plus_row = record {
    sound = λ j t. ⊎_elim (λ a. once (sym (was j) ∙ a))
        (λ a. let r = im.sound j a in step r.0 j r.1 r.2) (or_has s v j t);
    complete = λ j p. reached k j refl p;
  }
