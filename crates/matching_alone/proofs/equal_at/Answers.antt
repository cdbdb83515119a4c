-- Another lead is another value.
use Rattle.tables.specs.Tables.{string_table}
use Rattle.matching_alone.proofs.Leads.{not_equal}
use Rattle.strings.specs.Strings.{text_of}
use mathlib.Core.Path.{◌∙◌}
use borrow.Author.Tests.{ne_eqb}
use Rattle.matching_alone.proofs.equal_at.Goals as goal

pub returns-then-at-first : goal.returns-then-at-first
returns-then-at-first c = rw c.text.ensures.holds at c.same_value.ensures

pub returns-else-at-first : goal.returns-else-at-first
returns-else-at-first c =
    rw (ne_eqb _ _ c.if-at-first.false)
    (not_equal c.args.datatype (text_of (string_table c.args.bytes.now c.args.ends.now) c.args.k)
    c.args.own.now (c.at.ensures ∙ c.requires.1) c.requires.0 c.if-at-first.false)
