-- Classes that the table has share no name, and two that share none are added.
use mathlib.Core.Path.{sym, ◌∙◌}
use native.Mathlib.Omega.{arith}
use Rattle.tables.proofs.Answers.{said_yes, said_no}
use Rattle.schema_occurrences.proofs.Comparing.{compared_more}
use Rattle.schema_occurrences.proofs.share_name_once.Goals as goal

pub returns-then-has : goal.returns-then-has
returns-then-has c =
    let known = c.requires.1 in
    (known.apart _ _ (omega (arith, c.if-second-ge-MAX_ROWS.false)) (sym c.has.ensures ∙ c.if-has.true), known)

pub returns-then-share_name : goal.returns-then-share_name
returns-then-share_name c = (
  said_yes c.share_name-2.ensures c.if-share_name.true,
  c.requires.1,
)

pub returns : goal.returns
returns c =
    let apart = said_no c.share_name-2.ensures c.if-share_name.false in (
      apart,
      compared_more c.requires.1
          (omega (arith, c.if-second-ge-MAX_ROWS.false))
          (omega (arith, c.if-compared-place.false)) apart,
    )
