-- The first k strings are told.
use mathlib.Core.Path.{◌≡◌, ◌∙◌, ap}
use mathlib.Core.Bool.{cond}
use native.Mathlib.Omega.{arith}
use Rattle.std.proofs.Common.{rules}
use Rattle.tables.specs.Tables.{string_table}
use Rattle.datatypes.specs.Whitespace.{whitespace}
use Rattle.matching_alone.proofs.Entries.{byte_told, test_told}
use Rattle.matching_alone.proofs.Filling.{blank_more}
use Rattle.matching_alone.proofs.fill_blank.Goals as goal

pub loop-k-preserved : goal.loop-k-preserved
loop-k-preserved c =
    let r = c.is_whitespace.result in
    let stored : c.from.result ≡ cond r 1 0 = search rules in
    let told = byte_told r (test_told r (c.is_whitespace.ensures ∙ ap whitespace c.text.ensures.holds)) in
    blank_more (string_table c.args.bytes.now c.args.ends.now) c.loop-k.blank c.loop-k.k c.from.result
    (omega (arith, c.requires, c.loop-k.auto.blank)) (rw stored told) c.loop-k.invariant
