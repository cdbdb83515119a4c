-- The lines of the strings before k are put.
use mathlib.Core.Path.{sym}
use native.Mathlib.Omega.{arith}
use Rattle.tables.specs.Tables.{string_table}
use Rattle.job_texts.proofs.Lines.{no_strings, puts_string}
use Rattle.job_texts.proofs.Writing.{puts_none, puts_as}
use Rattle.job_texts.proofs.Writer.strings.Goals as goal

pub loop-k-init : goal.loop-k-init
loop-k-init c = (omega arith, puts_as (sym (no_strings _)) (puts_none _))

pub loop-k-preserved : goal.loop-k-preserved
loop-k-preserved c =
    let i = c.loop-k.invariant in
    let x = i.0 in
    let n = c.string.ensures.near in (
      omega arith,
      puts_string (string_table c.args.bytes.now c.args.ends.now) c.loop-k.k i.1 c.string.ensures.puts,
    )
