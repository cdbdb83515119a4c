-- The tables are refused, or their text is put and given where it fits.
use lib.ListN.{length}
use Rattle.tables.proofs.Codes.{exit}
use Rattle.tables.specs.Tables.{string_table, tables_of}
use Rattle.job_writer.proofs.Job.{tables_refused, sized, room_refused, text_written}
use Rattle.job_writer.proofs.write_job.Goals as goal

pub returns-in_err-check_job : goal.returns-in_err-check_job
returns-in_err-check_job c =
    let a = c.args in
    rw (exit c.from_residual.result c.from_residual.ensures.1)
    (tables_refused (tables_of (string_table a.bytes.now a.ends.now) a.schema.now a.instance.now) (length a.out.now)
    c.zero.ensures c.in_err-check_job.ensures)

pub put_job-size-requires : goal.put_job-size-requires
put_job-size-requires c = sized c.in_ok-check_job.ensures

pub returns-then-size-gt-MAX_FILE : goal.returns-then-size-gt-MAX_FILE
returns-then-size-gt-MAX_FILE c =
    room_refused c.in_ok-check_job.ensures c.zero.ensures c.put_job-size.ensures c.at.ensures
    c.zero-then-size-gt-MAX_FILE.ensures c.then-size-gt-MAX_FILE.either

pub returns : goal.returns
returns c =
    text_written c.in_ok-check_job.ensures c.zero.ensures c.put_job-size.ensures
    c.if-size-gt-MAX_FILE.false c.if-out-size.false
