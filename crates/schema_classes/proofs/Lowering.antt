-- The least number with a property, by those of its parts.
use Prim.Native.Nat.{ℕ, ◌≤◌, ◌<◌}
use mathlib.Core.Path.{◌≡◌, refl, sym, ◌∙◌, subst}
use mathlib.Core.Logic.{◌⊎◌, inl, inr, ⊎_elim}
use native.Mathlib.Omega.{arith}
use Rattle.schema_classes.specs.Search.{no_number, Lowered}
use Rattle.schema_classes.proofs.Smallest.{Union}

module _ {from best : ℕ} where
  pub lowered_none : {P : ℕ → Type 0} → ((v : ℕ) → ¬ P v) → Lowered P from best best
  lowered_none n = record {
    fits = λ v p. absurd (n v p);
    lower = λ v h p. absurd (n v p);
    most = omega arith;
    is = inl refl;
  }

  pub lowered_same : {P Q : ℕ → Type 0} {r : ℕ} → ((v : ℕ) → P v → Q v) → ((v : ℕ) → Q v → P v)
      → Lowered P from best r → Lowered Q from best r
  lowered_same {r = r} f g a = record {
    fits = λ v q. a.fits v (g v q);
    lower = λ v h q. a.lower v h (g v q);
    most = a.most;
    is = ⊎_elim (λ e. inl e) (λ x. inr (x.0, f r x.1)) a.is;
  }

  -- the best of a first part is lowered by a second
  pub lowered_both : {P P₁ P₂ : ℕ → Type 0} {x r : ℕ} → Union P P₁ P₂ → Lowered P₁ from best x → Lowered P₂ from x r
      → Lowered P from best r
  lowered_both {P} {P₁} {P₂} {x} {r} both a b = record {
    fits = λ v p. ⊎_elim (a.fits v) (b.fits v) (both.split v p);
    lower = λ v h p.
        ⊎_elim (λ q. let i = a.lower v h q in omega (arith, b.most)) (b.lower v h) (both.split v p);
    most = omega (arith, a.most, b.most);
    is = ⊎_elim (λ e. ⊎_elim (λ f. inl (e ∙ f)) (λ y. inr (kept e y)) a.is)
        (λ y. inr (y.0, both.second r y.1)) b.is;
  }
    where
      kept : r ≡ x → (from ≤ x) × P₁ x → (from ≤ r) × P r
      kept e (h, p) = (omega arith, both.first r (subst P₁ (sym e) p))

  pub lowered_either : {P Q : ℕ → Type 0} {x r : ℕ} → Lowered P from best x → Lowered Q from x r
      → Lowered (λ v. P v ⊎ Q v) from best r
  lowered_either = lowered_both (record { first = λ v. inl; second = λ v. inr; split = λ v p. p })

  -- one number
  module _ {x : ℕ} (small : x < no_number) where
    pub too_low : x < from → Lowered (λ v. x ≡ v) from best best
    too_low h = record {
      fits = λ v e. omega arith;
      lower = λ v i e. absurd (omega arith);
      most = omega arith;
      is = inl refl;
    }

    pub too_high : best ≤ x → Lowered (λ v. x ≡ v) from best best
    too_high h = record { fits = λ v e. omega arith; lower = λ v i e. omega arith; most = omega arith; is = inl refl }

    pub near : from ≤ x → x < best → Lowered (λ v. x ≡ v) from best x
    near h i = record {
      fits = λ v e. omega arith;
      lower = λ v j e. omega arith;
      most = omega arith;
      is = inr (h, refl);
    }
