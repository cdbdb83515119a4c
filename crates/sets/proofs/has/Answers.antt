-- From 64 on no position is a member of a word.
use mathlib.Core.Path.{sym, ◌∙◌}
use borrow.Author.Tests.{le-ltb}
use Rattle.sets.proofs.Bits.{bit_test, bit_above}
use Rattle.sets.proofs.has.Goals as goal

pub returns-then-k-lt-POSITIONS : goal.returns-then-k-lt-POSITIONS
returns-then-k-lt-POSITIONS c = bit_test c.args.s c.args.k

pub returns-else-k-lt-POSITIONS : goal.returns-else-k-lt-POSITIONS
returns-else-k-lt-POSITIONS c =
    le-ltb c.args.k 64 c.if-k-lt-POSITIONS.false
    ∙ sym (bit_above 64 c.args.s c.args.k c.ranges.s.fits c.if-k-lt-POSITIONS.false)
