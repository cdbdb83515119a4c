-- The digits of a tenth, then the last digit.
use Rattle.job_texts.proofs.+put_number.Given as goal

abbrev pub decreases-put_number : goal.decreases-put_number
decreases-put_number l = l.n
