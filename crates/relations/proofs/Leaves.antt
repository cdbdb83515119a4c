-- One word of the gaps and of the singles, from those of the position after it.
use mathlib.Core.Path.{◌≡◌, refl, sym, subst, ap, ◌∙◌}
use mathlib.Core.Bool.{Bool, true, false, cond, true≢false, false≢true}
use mathlib.Core.Logic.{⊎_elim}
use Prim.Native.Nat.{ℕ, ◌+◌, ◌^◌, ◌≤◌, ◌<◌}
use native.Mathlib.Nat.{eq-or-lt_of_le}
use native.Mathlib.Omega.{arith}
use lib.Bits.{bit_or}
use borrow.Author.Tests.{eqb-true, eq-eqb}
use Rattle.sets.specs.Bits.{bit}
use Rattle.relations.specs.Words.{Gap, Single}
use Rattle.sets.proofs.Bits.{bit_pow}
use Rattle.sets.proofs.Members.{none_has, or_has, has_or_l, has_or_r}
use Rattle.relations.proofs.Words.{Row}

-- 2 ^ i has the one member i
itself : (i j : ℕ) → bit (2 ^ i) j ≡ true → i ≡ j
itself i j e = sym (eqb-true j i (sym (bit_pow i j) ∙ e))

has_itself : (i j : ℕ) → i ≡ j → bit (2 ^ i) j ≡ true
has_itself i j q = bit_pow i j ∙ eq-eqb j i (sym q)

-- what holds at i and after i holds from i on
from_on : (P : ℕ → Type 0) {i : ℕ} (k : ℕ) → i ≤ k → P i → (i + 1 ≤ k → P k) → P k
from_on P {i} k h p q = ⊎_elim (λ (e : i ≡ k). subst P e p) (λ (l : i < k). q (omega arith)) (eq-or-lt_of_le h)

-- ---- gaps

pub gap_low : (m stop i j : ℕ) → Gap m stop i j → i < m
gap_low m stop i j g = omega (arith, g.0, g.1)

pub gap_end : (m stop : ℕ) → Row (Gap m stop) m 0
gap_end m stop =
    record { sound = λ j e. absurd (none_has j e); complete = λ j g. absurd (omega (arith, gap_low m stop m j g)) }

module _ (m stop i : ℕ) where
  gap_here : (j : ℕ) → i < m → i ≡ j → Gap m stop i j
  gap_here j l q = (omega arith, omega arith, λ k h n. absurd (omega arith))

  gap_back : (j : ℕ) → bit stop i ≡ false → Gap m stop (i + 1) j → Gap m stop i j
  gap_back j e g = (omega (arith, g.0), g.1, λ k h n. from_on (λ x. bit stop x ≡ false) k h e (λ p. g.2 k p n))

  gap_on : (j : ℕ) → i < j → Gap m stop i j → Gap m stop (i + 1) j
  gap_on j l g = (omega arith, g.1, λ k h n. g.2 k (omega arith) n)

  pub gap_row : {n after v : ℕ} → Row (Gap m stop) n after → n ≡ i + 1 → i < m
      → v ≡ cond (bit stop i) (2 ^ i) (bit_or after (2 ^ i)) → Row (Gap m stop) i v
  gap_row {n} {after} r q l x = subst (Row (Gap m stop) i) (sym x) (go (bit stop i) refl)
    where
      row : Row (Gap m stop) (i + 1) after
      row = subst (λ (x : ℕ). Row (Gap m stop) x after) q r

      go : (b : Bool) → bit stop i ≡ b → Row (Gap m stop) i (cond b (2 ^ i) (bit_or after (2 ^ i)))
      go true e = record {
        sound = λ j t. gap_here j l (itself i j t);
        complete = λ j g.
            ⊎_elim (has_itself i j) (λ q. absurd (true≢false (sym e ∙ g.2 i (omega arith) q))) (eq-or-lt_of_le g.0);
      }
      go false e = record {
        sound = λ j t.
            ⊎_elim (λ a. gap_back j e (row.sound j a)) (λ a. gap_here j l (itself i j a)) (or_has after (2 ^ i) j t);
        complete = λ j g. ⊎_elim (λ q. has_or_r after (2 ^ i) j (has_itself i j q))
            (λ q. has_or_l after (2 ^ i) j (row.complete j (gap_on j q g))) (eq-or-lt_of_le g.0);
      }

-- ---- singles

pub single_low : (m all marked i j : ℕ) → Single m all marked i j → i < m
single_low m all marked i j s = omega (arith, s.end, s.from, s.to)

pub single_end : (m all marked : ℕ) → Row (Single m all marked) m 0
single_end m all marked = record {
  sound = λ j e. absurd (none_has j e);
  complete = λ j s. absurd (omega (arith, single_low m all marked m j s));
}

module _ (m all marked i : ℕ) where
  -- i is the one
  single_here : (j : ℕ) → bit all i ≡ true → bit marked i ≡ true → Gap m all (i + 1) j → Single m all marked i j
  single_here j e f g = record {
    end = g.1;
    place = i;
    from = omega arith;
    to = omega (arith, g.0);
    member = e;
    mark = f;
    only = λ k h l t. from_on (λ n. n ≡ i) k h refl (λ p. absurd (false≢true (sym (g.2 k p l) ∙ t)));
  }

  place_here : (j : ℕ) → bit all i ≡ true → (s : Single m all marked i j) → i ≡ s.place
  place_here j e s = s.only i (omega arith) (omega (arith, s.from, s.to)) e

  gap_after : (j : ℕ) → bit all i ≡ true → Single m all marked i j → Gap m all (i + 1) j
  gap_after j e s = (omega (arith, s.from, s.to), s.end, λ k h l. free k h l (bit all k) refl)
    where
      free : (k : ℕ) → i + 1 ≤ k → k < j → (b : Bool) → bit all k ≡ b → bit all k ≡ false
      free k h l true t = absurd (omega (arith, place_here j e s, s.only k (omega (arith, h)) l t))
      free k h l false t = t

  -- i is none of all
  single_back : (j : ℕ) → bit all i ≡ false → Single m all marked (i + 1) j → Single m all marked i j
  single_back j e s = record {
    end = s.end;
    place = s.place;
    from = omega (arith, s.from);
    to = s.to;
    member = s.member;
    mark = s.mark;
    only = λ k h l.
        from_on (λ n. bit all n ≡ true → n ≡ s.place) k h (λ t. absurd (false≢true (sym e ∙ t))) (λ p. s.only k p l);
  }

  single_on : (j : ℕ) → bit all i ≡ false → Single m all marked i j → Single m all marked (i + 1) j
  single_on j e s = record {
    end = s.end;
    place = s.place;
    from = ⊎_elim (λ q. absurd (false≢true (sym e ∙ ap (bit all) q ∙ s.member)))
        (λ q. omega (arith, q)) (eq-or-lt_of_le s.from);
    to = s.to;
    member = s.member;
    mark = s.mark;
    only = λ k h. s.only k (omega arith);
  }

  pub single_row : {n gap single v : ℕ} → Row (Gap m all) n gap → Row (Single m all marked) n single
      → n ≡ i + 1 → v ≡ cond (bit all i) (cond (bit marked i) gap 0) single → Row (Single m all marked) i v
  single_row {n} {gap} {single} g s q x =
      subst (Row (Single m all marked) i) (sym x) (go (bit all i) refl (bit marked i) refl)
    where
      gap_after_i : Row (Gap m all) (i + 1) gap
      gap_after_i = subst (λ (x : ℕ). Row (Gap m all) x gap) q g

      single_after_i : Row (Single m all marked) (i + 1) single
      single_after_i = subst (λ (x : ℕ). Row (Single m all marked) x single) q s

      go : (a : Bool) → bit all i ≡ a → (b : Bool) → bit marked i ≡ b
          → Row (Single m all marked) i (cond a (cond b gap 0) single)
      go true e true f = record {
        sound = λ j t. single_here j e f (gap_after_i.sound j t);
        complete = λ j s. gap_after_i.complete j (gap_after j e s);
      }
      go true e false f = record {
        sound = λ j t. absurd (none_has j t);
        complete = λ j s. absurd (false≢true (sym f ∙ ap (bit marked) (place_here j e s) ∙ s.mark));
      }
      go false e b f = record {
        sound = λ j t. single_back j e (single_after_i.sound j t);
        complete = λ j s. single_after_i.complete j (single_on j e s);
      }
