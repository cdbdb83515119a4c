-- Tests of one or more steps of a relation on positions that never goes back.
use Prim.Native.Nat.{ℕ, zero, suc, ◌-◌, ◌<◌, ◌≤◌}
use mathlib.Core.Path.{◌≡◌, refl, subst}
use mathlib.Core.Bool.{Bool, true, false}
use native.Mathlib.Decide.{dec_lt}
use native.Mathlib.Omega.{arith}
use lib.Dec.{ltb}
use borrow.Author.Tests.{lt-ltb}
use Rattle.relations.specs.Relations.{Relation, Plus, once, more}
use Rattle.cases.proofs.Tests.{some_below, some_below_lem, below_some, guarded, unguarded}

module _ (R : ℕ → ℕ → Bool) where
  abbrev step_test : (ℕ → ℕ → Bool) → ℕ → ℕ → ℕ → Bool
  step_test rest i j h = elim (ltb i h) [ true ↦ elim (R i h) [ true ↦ rest h j | false ↦ false ] | false ↦ false ]

  -- from i to j in at most n + 1 steps, each but the last to a further position before j
  unfoldable pub plus_test : ℕ → ℕ → ℕ → Bool
  plus_test zero i j = R i j
  plus_test (suc n) i j = elim (R i j) [ true ↦ true | false ↦ some_below (step_test (plus_test n) i j) j ]

  module _ {S : Relation} (sound : (i j : ℕ) → R i j ≡ true → S i j) where
    pub test_plus : (n i j : ℕ) → plus_test n i j ≡ true → Plus S i j
    unfolding plus_test
    test_plus zero i j h = once (sound i j h)
    test_plus (suc n) i j h = go (R i j) refl h (λ k. test_plus n k j)
      where
        go : (b : Bool) → R i j ≡ b → elim b [ true ↦ true | false ↦ some_below (step_test (plus_test n) i j) j ] ≡ true
            → ((k : ℕ) → plus_test n k j ≡ true → Plus S k j) → Plus S i j
        go true f h rest = once (sound i j f)
        go false f h rest =
            let k = below_some (step_test (plus_test n) i j) j h in
            let l = unguarded (ltb i k.0)
            (elim (R i k.0) as (λ b. Bool) [ true ↦ plus_test n k.0 j | false ↦ false ]) k.2 in
            let r = unguarded (R i k.0) (plus_test n k.0 j) l.1 in
            more (sound i k.0 r.0) (rest k.0 r.1)

  module _ {S : Relation} (complete : (i j : ℕ) → S i j → R i j ≡ true) (onward : (i j : ℕ) → S i j → i ≤ j) where
    plus_onward : {i j : ℕ} → Plus S i j → i ≤ j
    plus_onward {i} {j} (once s) = onward i j s
    plus_onward {i} (more {h = h} s t) = let a = onward i h s in let b = plus_onward t in omega arith

    last_step : (n i j : ℕ) → R i j ≡ true → plus_test n i j ≡ true
    unfolding plus_test
    last_step zero i j h = h
    last_step (suc n) i j h = rw (h, plus_test)

    pub plus_test_lem : (n : ℕ) {i j : ℕ} → j - i ≤ n → Plus S i j → plus_test n i j ≡ true
    unfolding plus_test
    plus_test_lem n {i} {j} l (once s) = last_step n i j (complete i j s)
    plus_test_lem n {i} {j} l (more {h = h} s t) =
        go n l (dec_lt i h) (dec_lt h j) (λ n l. plus_test_lem n {i = h} {j = j} l t)
      where
        a : i ≤ h
        a = onward i h s

        b : h ≤ j
        b = plus_onward t

        further : (n : ℕ) → i < h → h < j → plus_test n h j ≡ true → plus_test (suc n) i j ≡ true
        further n p q r = side (R i j)
          where
            side : (c : Bool) → elim c [ true ↦ true | false ↦ some_below (step_test (plus_test n) i j) j ] ≡ true
            side true = refl
            side false =
                some_below_lem (step_test (plus_test n) i j) j h q
                (guarded (ltb i h) (lt-ltb i h p) (guarded (R i h) (complete i h s) r))

        go : (n : ℕ) → j - i ≤ n → Dec (i < h) → Dec (h < j)
            → ((n : ℕ) → j - h ≤ n → plus_test n h j ≡ true) → plus_test n i j ≡ true
        go n l (no p) d rest =
            let e : h ≡ i = omega (arith, a, b) in
            subst (λ (k : ℕ). plus_test n k j ≡ true) e (rest n (omega (arith, a, b)))
        go n l (yes p) (no q) rest =
            let e : h ≡ j = omega (arith, a, b) in
            last_step n i j (subst (λ (k : ℕ). R i k ≡ true) e (complete i h s))
        go zero l (yes p) (yes q) rest = absurd (omega (arith, a, b))
        go (suc n) l (yes p) (yes q) rest = further n p q (rest n (omega (arith, a, b)))
