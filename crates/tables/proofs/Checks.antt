-- What is learnt from a check, and how the answer of a search is shown: the places passed are clear. Of two checks in
-- a row the first one's fault is the first of the whole (`found_first`), and the second one's rule holds at the same
-- places as the whole (`finds_same`).
use Prim.Native.Nat.{ℕ, ◌<◌}
use mathlib.Core.Path.{◌≡◌, subst, subst⁻¹}
use Rattle.std.specs.Prelude.{Result, Ok, Err, IsErrAnd}
use Rattle.std.proofs.lemmas.Result.{err_from_is_err_and}
use Rattle.tables.specs.Answers.{Clear}
use Rattle.tables.specs.Checks.{Finds}

module _ (P : ℕ → Type 0) where
  -- P fails before n and can hold only there
  pub finds_none : {n : ℕ} → Clear P n → ((i : ℕ) → P i → i < n) → Finds P (Ok tt)
  finds_none clear only i p = clear i (only i p) p

  pub found_none : {c : Result Unit ℕ} {x : Unit} → Finds P c → c ≡ Ok x → (i : ℕ) → ¬ P i
  found_none f e = subst (Finds P) e f

  pub found_at : {c : Result Unit ℕ} {place : ℕ} → Finds P c → c ≡ Err place → P place × Clear P place
  found_at f e = subst (Finds P) e f

  -- at the exit of a `?`, the first place where Q holds is the first where P does
  pub found_first : {Q : ℕ → Type 0} {c : Result Unit ℕ} {place : ℕ} (w : Result Unit ℕ) → Finds Q c → c ≡ Err place
      → IsErrAnd w (λ y. y ≡ place) → (Q place → Clear Q place → P place × Clear P place) → Finds P w
  found_first {Q} {c} {place} w f e l h =
      let p = err_from_is_err_and w l in
      subst⁻¹ (Finds P) p.1 (subst⁻¹ (λ y. P y × Clear P y) p.2 (h (subst (Finds Q) e f).0 (subst (Finds Q) e f).1))

-- predicates that hold at the same places
pub finds_same : {P Q : ℕ → Type 0} (c : Result Unit ℕ) → ((i : ℕ) → P i → Q i)
    → ((i : ℕ) → Q i → P i) → Finds P c → Finds Q c
finds_same (Ok x) to from none = λ i q. none i (from i q)
finds_same (Err place) to from found = (to place found.0, λ i h q. found.1 i h (from i q))
