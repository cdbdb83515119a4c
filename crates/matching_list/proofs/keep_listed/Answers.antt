-- What is too long is taken back to zeros.
use mathlib.Core.Path.{refl}
use native.Mathlib.Omega.{arith}
use Rattle.matching_list.specs.Listing.{stays, taken_back}
use Rattle.matching_list.proofs.keep_listed.Goals as goal

pub returns-then-words-n : goal.returns-then-words-n
returns-then-words-n c = taken_back (omega arith) refl c.zero.ensures

pub returns : goal.returns
returns c = stays (omega arith) refl refl
