-- By whether the counts fit: where they do not, the tables that were read are taken back.
use lib.ListN.{length}
use Rattle.farshavan.proofs.Handing.{handed_none, none_fits, told_whole, told_short, zeroed}
use Rattle.farshavan.proofs.farshavan_read_job.Goals as goal

pub returns-then-number-ne0 : goal.returns-then-number-ne0
returns-then-number-ne0 c =
    let job = c.read_job-answer in
    let h = c.hand_words-number.ensures in
    let e = c.in-Ok.is in
    record {
      answer = job.result;
      promise = job.ensures.answer;
      handed = rw e h;
      tables = rw (e, told_short h c.if-number-ne0.true) (zeroed job.ensures.outputs c.zero_outputs.ensures);
    }

pub returns-else-number-ne0 : goal.returns-else-number-ne0
returns-else-number-ne0 c =
    let job = c.read_job-answer in
    let h = c.hand_words-number.ensures in
    let e = c.in-Ok.is in
    record {
      answer = job.result;
      promise = job.ensures.answer;
      handed = rw e h;
      tables = rw (e, told_whole h c.if-number-ne0.false) job.ensures.outputs;
    }

pub returns-in-Err : goal.returns-in-Err
returns-in-Err c =
    let job = c.read_job-answer in
    let e = c.in-Err.is in
    record {
      answer = job.result;
      promise = job.ensures.answer;
      handed = rw e (handed_none c.pack_refusal.ensures c.zero.ensures);
      tables = rw (
        e,
        none_fits (length c.args.counts.now),
      ) job.ensures.outputs;
    }
