-- The trailing zeros are the least member; of 0 all digits are trailing zeros.
use Rattle.sets.proofs.Least.{first_of}
use Rattle.sets.proofs.first.Goals as goal

pub returns : goal.returns
returns c = first_of c.args.s c.ranges.s.fits
