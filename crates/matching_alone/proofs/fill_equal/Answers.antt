-- The entries are told by the texts.
use Rattle.std.proofs.Common.{rules}
use Rattle.tables.specs.Answers.{Decides}
use Rattle.tables.specs.Tables.{string_table}
use Rattle.strings.specs.Strings.{text_of}
use Rattle.matching_rules.specs.Job.{datatype_equal}
use Rattle.matching_alone.proofs.Entries.{byte_told}
use Rattle.matching_alone.proofs.Filling.{row_map}
use Rattle.matching_alone.proofs.fill_equal.Goals as goal

pub returns : goal.returns
returns c =
    let a = c.args in
    let T = string_table a.bytes.now a.ends.now in
    row_map (λ k v h e.
    let told : Decides (datatype_equal a.datatype (text_of T k) c.text-own.result.now) e.0 = search (rules, e.1) in
    rw e.2 (byte_told e.0 (rw c.text-own.ensures.holds at told))) c.fill_by.ensures
