-- The content as it is, or, where that fails and it is whitespace, without its items.
use mathlib.Core.Logic.{inl}
use Prim.Native.Nat.{◌+◌}
use Rattle.matching.specs.Setting.{Related}
use Rattle.matching_pairs.proofs.Fitting.{second_tells, asked_none, relatable_none}
use Rattle.matching_pairs.proofs.content_fits.Goals as goal

pub returns-then-all_match : goal.returns-then-all_match
returns-then-all_match c =
    λ S q covered.
    let fits = c.all_match.ensures S q covered in
    rw c.if-all_match.true (inl (rw c.if-all_match.true at fits))

pub all_match-requires-then-weak : goal.all_match-requires-then-weak
all_match-requires-then-weak c = relatable_none c.requires c.work-1.given

pub returns-then-weak : goal.returns-then-weak
returns-then-weak c =
    λ S q covered.
    let x = c.args in
    second_tells (Related S (x.n + 1) x.a x.k x.p 0 x.n)
    (Related S (x.n + 1) x.a 0 x.p 0 x.n) x.weak c.all_match-then-weak.result
    (rw c.if-all_match.false at (c.all_match.ensures S q covered))
    c.if-weak.true (c.all_match-then-weak.ensures S (asked_none S x.a x.k q) covered)
