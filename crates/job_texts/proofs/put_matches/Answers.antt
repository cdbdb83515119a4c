-- The lines, one after the other.
use borrow.Author.Rules.{rules}
use Rattle.job_texts.proofs.Lines.{puts_matches}
use Rattle.job_texts.proofs.Writing.{puts_as}
use Rattle.job_texts.proofs.put_matches.Goals as goal

pub returns-clause-wrote : goal.returns-clause-wrote
returns-clause-wrote c =
    let p = puts_matches c.args.valid c.args.list.now
    (puts_as c.verdict_line.ensures c.text.ensures) c.count.ensures.puts c.rows.ensures.puts in
    record { holds = search (rules, p.wrote.holds, p.same); moves = p.wrote.moves }
