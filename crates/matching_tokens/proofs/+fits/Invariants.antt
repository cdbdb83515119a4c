-- The measure is the row. What a pattern of each kind does with a token are the laws of Leaves.
use Rattle.matching_tokens.proofs.+fits.Given as goal

abbrev pub decreases-fits : goal.decreases-fits
decreases-fits l = l.p
