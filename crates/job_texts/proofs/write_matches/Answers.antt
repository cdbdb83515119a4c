-- The text is put into zeros, and kept where it fits.
use Rattle.job_texts.proofs.Writing.{text_in}
use Rattle.job_texts.proofs.write_matches.Goals as goal

pub returns : goal.returns
returns c = text_in c.zero.ensures c.put_matches-size.ensures.wrote c.kept.ensures
