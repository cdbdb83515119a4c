-- The rows that have a word in the table, the last of them perhaps not all its words, are the numbers of a range.
use Prim.Native.Nat.{ℕ, ◌-◌}
use mathlib.Core.Path.{◌≡◌, refl}
use native.Mathlib.Omega.{arith}
use Rattle.std.proofs.Common.{rules}
use Rattle.std.proofs.lemmas.Iterator.{cases_from_any, YieldsList-from_range}
use Rattle.tables.proofs.Answers.{decides_same}
use Rattle.schema.specs.Kinds as kind
use Rattle.schema.specs.Rows.{kind_of}
use Rattle.instance.proofs.Ranges.{any_in_range}
use Rattle.matching_work.proofs.Work.{list_row}
use Rattle.matching_work.proofs.has_list.Goals as goal

pub returns : goal.returns
returns c =
    let s = c.args.schema.now in
    let n = c.div_ceil-rows.result in
    let told = cases_from_any _ _ c.any.result (λ (p : ℕ). kind_of s p ≡ kind.list) (λ (p : ℕ). ¬ (kind_of s p
    ≡ kind.list)) c.any.ensures.ran (YieldsList-from_range 0 n (n - 0) refl refl)
    (λ x q k. search rules) (λ x q k. search rules) in
    let whole = c.div_ceil-rows.ensures in
    decides_same c.any.result (λ f. (f.0, f.3)) (λ f. (f.0, omega arith, list_row s n (omega arith) f.0 f.1, f.1))
    (any_in_range (λ (p : ℕ). kind_of s p ≡ kind.list) 0 n c.any.result told)
