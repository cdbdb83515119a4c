-- Each way out is a law of the normalized form at a position: past the end, a character that stays, a run that ends the
-- text, a run before another character.
use mathlib.Core.Path.{sym, ◌∙◌}
use native.Mathlib.Omega.{arith}
use Rattle.datatypes.proofs.Positions.{remainder_end, remainder_kept}
use Rattle.datatypes.proofs.Positions.{remainder_blank, remainder_run, skips_within}
use Rattle.datatypes.proofs.next.Goals as goal

pub returns-then-s-at : goal.returns-then-s-at
returns-then-s-at c = let a = c.args in remainder_end a.s.now a.at (omega arith)

pub returns-then-not-is_space : goal.returns-then-not-is_space
returns-then-not-is_space c =
    let a = c.args in (
      remainder_kept a.s.now a.at (omega arith)
          (sym c.is_space.ensures ∙ c.if-not-is_space.true),
      omega arith,
      omega arith,
    )

pub returns-then-after_run-s : goal.returns-then-after_run-s
returns-then-after_run-s c =
    let a = c.args in
    remainder_blank a.s.now a.at (omega arith)
    (sym c.is_space.ensures ∙ c.if-not-is_space.false) c.skip_space-after_run.ensures c.if-after_run-s.true

pub returns : goal.returns
returns c =
    let skipped = c.skip_space-after_run.ensures in
    let a = c.args in (
      remainder_run a.s.now a.at (omega arith)
          (sym c.is_space.ensures ∙ c.if-not-is_space.false) skipped c.if-after_run-s.false,
      omega (arith, skipped.onward),
      skips_within skipped (omega arith),
    )
