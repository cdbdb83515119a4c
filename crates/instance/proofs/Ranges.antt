-- What `any` over a range of numbers answers, said of the numbers in the range and not of a list.
use Prim.Native.Nat.{ℕ, ◌+◌, ◌-◌, ◌≤◌, ◌<◌}
use mathlib.Core.Path.{subst}
use mathlib.Core.Bool.{Bool, true, false}
use native.Mathlib.Omega.{arith}
use lib.ListN.{length}
use Rattle.std.specs.Prelude.{MatchBool}
use Rattle.std.specs.List.{range_with_len, HoldsAt, AllWithin}
use Rattle.std.proofs.lemmas.List.FromFn.{length-range_with_len, get_or-range_with_len}
use Rattle.tables.specs.Answers.{Decides}

-- from the two answers of `cases_from_any` over the range: some number in it has P, or each number in it lacks P
pub any_in_range : (P : ℕ → Type 0) (a b : ℕ) (r : Bool) → (let l = range_with_len a (b - a) in
    MatchBool r ((k : ℕ) × (k < length l) × HoldsAt P l k) (AllWithin (λ x. ¬ P x) l 0 (length l)))
    → Decides ((x : ℕ) × (a ≤ x) × (x < b) × P x) r
any_in_range P a b true m =
    let h : m.0 < b - a = omega (arith, m.1, length-range_with_len a (b - a)) in
    (a + m.0, omega arith, omega arith, subst P (get_or-range_with_len a (b - a) m.0 0 h) (m.2 0))
any_in_range P a b false m = λ f.
    let h : f.0 - a < b - a = omega (arith, f.1, f.2) in
    m (f.0 - a) 0 (omega arith) (omega (arith, h, length-range_with_len a (b - a)))
    (subst P (omega (arith, get_or-range_with_len a (b - a) (f.0 - a) 0 h, f.1)) f.3)
