-- What stands behind the first token tells whether it is the only one.
use native.Mathlib.Omega.{arith}
use native.Mathlib.Nat.{le_trans}
use Rattle.matching_tokens.proofs.Places.{from_within, to_within, placed_one, placed_none}
use Rattle.matching_tokens.proofs.one_token.Goals as goal

pub returns-then-next-text : goal.returns-then-next-text
returns-then-next-text c =
    let b = c.skip_space-from.ensures in (
      placed_none b c.token_end-to.ensures c.skip_space-next.ensures c.if-next-text.true,
      omega arith,
      omega arith,
    )

pub returns : goal.returns
returns c =
    let b = c.skip_space-from.ensures in
    let k = c.token_end-to.ensures in
    let n = c.skip_space-next.ensures in
    let short = c.requires in
    (placed_one b k n c.if-next-text.false, le_trans (from_within b k n) short, le_trans (to_within b k n) short)
