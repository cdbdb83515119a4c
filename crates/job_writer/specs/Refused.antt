-- The codes of the checks of a job's tables; cited by private functions only.
use Rattle.std.specs.Prelude.{Result}
use Rattle.tables.specs.Codes.{Tries, Passes}
use Rattle.tables.specs.Tables.{Tables}
use Rattle.tables.specs.declared.refusals.Code.TheVariants.{Strings, Rows, Nodes}
use Rattle.tables.specs.declared.refusals.Refusal.{Refusal}
use Rattle.strings.specs.Strings.{StringFault}
use Rattle.schema.specs.RowRule.{max_rows}
use Rattle.instance.specs.NodeRule.{max_nodes}
use Rattle.job_writer.specs.Promises.{TableFault}

abbrev pub CheckJob : Tables → Result Unit Refusal → Type 0
CheckJob J =
    Tries Strings (StringFault J.strings) (Tries Rows (TableFault 3 max_rows J.schema)
    (Tries Nodes (TableFault 5 max_nodes J.instance) Passes))
