-- Key, digits, line feed.
use mathlib.Core.Path.{ap}
use lib.ListN.{length}
use native.Mathlib.Omega.{arith}
use Rattle.job.specs.Numbers.{hex_text}
use Rattle.tables.specs.Tables.{string_table}
use Rattle.job_texts.proofs.Writing.{puts_more, puts_as, hex_length, text_length}
use Rattle.job_texts.proofs.Writer.string.Goals as goal

pub byte-requires : goal.byte-requires
byte-requires c =
    let a = c.args in
    let e = c.text.ensures.wrote.moves in
    let h = ap length c.text-2.ensures.holds in
    let t = text_length (string_table a.bytes.now a.ends.now) a.k in
    let f = c.hex.ensures.wrote.moves in
    let g = hex_length c.text-2.result.now in
    omega arith

pub returns : goal.returns
returns c =
    let a = c.args in
    let e = c.text.ensures.wrote.moves in
    let h = ap length c.text-2.ensures.holds in
    let t = text_length (string_table a.bytes.now a.ends.now) a.k in
    let f = c.hex.ensures.wrote.moves in
    let g = hex_length c.text-2.result.now in
    let k = c.byte.ensures.wrote.moves in
    record {
      puts = puts_more (puts_more c.text.ensures (puts_as (ap hex_text c.text-2.ensures.holds) c.hex.ensures))
          c.byte.ensures;
      near = omega arith;
    }
