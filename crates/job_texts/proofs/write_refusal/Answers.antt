-- The text is put into zeros, and kept where it fits.
use Rattle.job_texts.proofs.Writing.{text_in}
use Rattle.job_texts.proofs.write_refusal.Goals as goal

pub returns : goal.returns
returns c = text_in c.zero.ensures c.put_refusal-size.ensures.wrote c.kept.ensures
