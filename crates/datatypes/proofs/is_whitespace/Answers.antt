-- The position after the whitespace in front is the length exactly when nothing else stands in the text.
use mathlib.Core.Path.{sym}
use native.Mathlib.Omega.{arith}
use Rattle.datatypes.proofs.Positions.{skips_whitespace}
use Rattle.datatypes.proofs.is_whitespace.Goals as goal

pub returns : goal.returns
returns c = sym (skips_whitespace c.skip_space.ensures (omega arith))
