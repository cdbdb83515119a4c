-- The rows after p up to r are the numbers of a range.
use Prim.Native.Nat.{ℕ, ◌+◌, ◌-◌, ◌≤◌, ◌<◌}
use mathlib.Core.Path.{refl}
use native.Mathlib.Omega.{arith}
use Rattle.std.proofs.Common.{rules}
use Rattle.std.proofs.lemmas.Iterator.{cases_from_any, YieldsList-from_range}
use Rattle.tables.proofs.Answers.{said_yes, said_no, decides_same}
use Rattle.instance.specs.Walk.{Twin, RepeatsName, repeats}
use Rattle.instance.proofs.Ranges.{any_in_range}
use Rattle.instance_nodes.proofs.repeats_name.Goals as goal

pub returns : goal.returns
returns c =
    let a = c.args in
    let told = cases_from_any _ _ c.any.result (λ (q : ℕ). Twin a.instance.now a.p q a.r)
    (λ (q : ℕ). ¬ Twin a.instance.now a.p q a.r) c.any.ensures.ran
    (YieldsList-from_range (a.p + 1) a.r (a.r - (a.p + 1)) refl refl)
    (λ x q k. search (rules, said_yes)) (λ x q k. search (rules, said_no)) in
    decides_same c.any.result (λ f. repeats f.0 (omega (arith, f.1)) f.2 f.3) row
    (any_in_range (λ (q : ℕ). Twin a.instance.now a.p q a.r) (a.p + 1) a.r c.any.result told)
  where
    row : RepeatsName c.args.instance.now c.args.p c.args.r → (q : ℕ) × (c.args.p + 1 ≤ q) × (q < c.args.r)
        × Twin c.args.instance.now c.args.p q c.args.r
    row (repeats q m l twin) = (q, omega arith, l, twin)
