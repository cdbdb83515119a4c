-- The counts keep to the tables that are lent, so that the parts of these are the tables that were read.
use mathlib.Core.Path.{sym}
use native.Mathlib.Omega.{arith}
use lib.Seq.{length-take-le}
use Rattle.report.proofs.Job.{told, and_within, within, report_wrong, report_read}
use Rattle.report.proofs.report.Goals as goal

pub slice_bounds-bytes-end : goal.slice_bounds-bytes-end
slice_bounds-bytes-end c =
    let w = within (told c.args.file.now c.read_job.ensures.answer) c.in-Ok.is in
    omega (arith, w.few_bytes)

pub slice_bounds-answer-end : goal.slice_bounds-answer-end
slice_bounds-answer-end c =
    let w = within (told c.args.file.now c.read_job.ensures.answer) c.in-Ok.is in
    sym (length-take-le _ c.read_job.new.bytes (omega (arith, w.few_bytes)))

pub slice_bounds-ends-end : goal.slice_bounds-ends-end
slice_bounds-ends-end c =
    let w = within (told c.args.file.now c.read_job.ensures.answer) c.in-Ok.is in
    omega (arith, w.few_strings)

pub slice_bounds-answer-end-in-Ok : goal.slice_bounds-answer-end-in-Ok
slice_bounds-answer-end-in-Ok c =
    let w = within (told c.args.file.now c.read_job.ensures.answer) c.in-Ok.is in
    sym (length-take-le _ c.read_job.new.ends (omega (arith, w.few_strings)))

pub slice_bounds-schema-end : goal.slice_bounds-schema-end
slice_bounds-schema-end c =
    let w = within (told c.args.file.now c.read_job.ensures.answer) c.in-Ok.is in
    omega (arith, w.few_rows)

pub slice_bounds-answer-end-in-Ok-2 : goal.slice_bounds-answer-end-in-Ok-2
slice_bounds-answer-end-in-Ok-2 c =
    let w = within (told c.args.file.now c.read_job.ensures.answer) c.in-Ok.is in
    sym (length-take-le _ c.read_job.new.schema (omega (arith, w.few_rows)))

pub slice_bounds-instance-end : goal.slice_bounds-instance-end
slice_bounds-instance-end c =
    let w = within (told c.args.file.now c.read_job.ensures.answer) c.in-Ok.is in
    omega (arith, w.few_nodes)

pub slice_bounds-answer-end-in-Ok-3 : goal.slice_bounds-answer-end-in-Ok-3
slice_bounds-answer-end-in-Ok-3 c =
    let w = within (told c.args.file.now c.read_job.ensures.answer) c.in-Ok.is in
    sym (length-take-le _ c.read_job.new.instance (omega (arith, w.few_nodes)))

pub returns-in-Ok : goal.returns-in-Ok
returns-in-Ok c =
    let told_both =
    and_within (report_read (told c.args.file.now c.read_job.ensures.answer) c.in-Ok.is c.read_job.ensures.outputs
    c.answer.ensures) in
    record { reported = told_both.0; within = told_both.1 }

pub returns-in-Err : goal.returns-in-Err
returns-in-Err c =
    let told_both = and_within (report_wrong (told c.args.file.now c.read_job.ensures.answer) c.in-Err.is
    (rw c.number.ensures at c.write_refusal.ensures)) in
    record { reported = told_both.0; within = told_both.1 }
