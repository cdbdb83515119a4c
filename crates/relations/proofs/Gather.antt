-- The loop over the members of s, least first, that gathers the words at them.
use mathlib.Core.Path.{◌≡◌, sym, subst, ap, ◌∙◌}
use mathlib.Core.Bool.{true}
use mathlib.Core.List.{List}
use mathlib.Core.Logic.{◌⊎◌, inl, inr, ⊎_elim}
use Prim.Native.Nat.{ℕ, ◌-◌, ◌^◌, ◌<◌}
use native.Mathlib.Omega.{arith}
use lib.Bits.{bit_and, bit_or}
use lib.ListN.{get_or}
use Rattle.sets.specs.Bits.{bit, LeastMember, FirstOf}
use Rattle.relations.specs.Words.{WordsRelate, Image}
use Rattle.sets.proofs.Members.{none_has, or_has, has_or_l, has_or_r}
use Rattle.sets.proofs.Least.{first_least, rest_lt, rest_has, has_rest}

-- the members of s that are not in rest are gathered
pub record Gathered (s : ℕ) (ws : List ℕ) (out rest : ℕ) : Type 0 where
  pub fits : rest < 2 ^ 64
  pub within : (h : ℕ) → bit rest h ≡ true → bit s h ≡ true
  pub sound : (j : ℕ) → bit out j ≡ true → (h : ℕ) × (bit s h ≡ true) × WordsRelate ws h j
  pub complete : (h j : ℕ) → bit s h ≡ true → WordsRelate ws h j → (bit rest h ≡ true) ⊎ (bit out j ≡ true)

pub gather_none : {s : ℕ} (ws : List ℕ) → s < 2 ^ 64 → Gathered s ws 0 s
gather_none ws f =
    record { fits = f; within = λ h e. e; sound = λ j e. absurd (none_has j e); complete = λ h j e x. inl e }

pub gather_more : {s : ℕ} {ws : List ℕ} {out rest first word : ℕ} → Gathered s ws out rest → 0 < rest
    → FirstOf rest first → word ≡ get_or ws first 0 → Gathered s ws (bit_or out word) (bit_and rest (rest - 1))
gather_more {s} {ws} {out} {rest} {first} {word} g p f w = record {
  fits = omega (arith, rest_lt rest p, g.fits);
  within = λ h e. g.within h (rest_has rest h e);
  sound = λ j e. ⊎_elim (g.sound j)
      (λ x. (first, g.within first least.member, subst (λ (v : ℕ). bit v j ≡ true) w x)) (or_has out word j e);
  complete = λ h j e x. ⊎_elim (λ r. still h j x (has_rest rest least h p g.fits r))
      (λ o. inr (has_or_l out word j o)) (g.complete h j e x);
}
  where
    least : LeastMember rest first
    least = first_least f p

    still : (h j : ℕ) → WordsRelate ws h j → (h ≡ first) ⊎ (bit (bit_and rest (rest - 1)) h ≡ true)
        → (bit (bit_and rest (rest - 1)) h ≡ true) ⊎ (bit (bit_or out word) j ≡ true)
    still h j x (inl q) =
        inr (has_or_r out word j (ap (λ (v : ℕ). bit v j) (w ∙ ap (λ (n : ℕ). get_or ws n 0) (sym q)) ∙ x))
    still h j x (inr r) = inl r

pub gathered : {s : ℕ} {ws : List ℕ} {out rest : ℕ} → Gathered s ws out rest → rest ≡ 0 → Image s ws out
gathered g z = record {
  sound = g.sound;
  complete = λ h j e x.
      ⊎_elim (λ r. absurd (none_has h (subst (λ (v : ℕ). bit v h ≡ true) z r))) (λ o. o) (g.complete h j e x);
}
