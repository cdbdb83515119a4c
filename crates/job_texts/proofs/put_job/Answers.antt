-- The parts of a job, one after the other.
use borrow.Author.Rules.{rules}
use Rattle.tables.specs.Tables.{string_table, tables_of}
use Rattle.job_texts.proofs.Lines.{puts_job}
use Rattle.job_texts.proofs.put_job.Goals as goal

pub returns : goal.returns
returns c =
    let a = c.args in
    let p = puts_job (tables_of (string_table a.bytes.now a.ends.now) a.schema.now a.instance.now)
    c.text.ensures c.count.ensures.puts c.strings.ensures.puts c.count-2.ensures.puts
    c.rows.ensures.puts c.count-3.ensures.puts c.rows-2.ensures.puts c.text-2.ensures in
    record { holds = search (rules, p.wrote.holds, p.same); moves = p.wrote.moves }
