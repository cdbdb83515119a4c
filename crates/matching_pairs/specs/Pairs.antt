-- The table of pairs: the entry of instance row e and schema row d is 1 exactly where e is an element, d is a
-- definition, and e is proved against a ref to d.
use Rattle.std.specs.Prelude.{ℕ, ◌*◌, ◌≤◌, ◌<◌, ◌≡◌, true, List, ◌↔◌, length}
use Rattle.tables.specs.Tables.{Tables}
use Rattle.strings.specs.Strings.{StringsRight, schema_strings, instance_strings}
use Rattle.schema.specs.Rows.{rows_of}
use Rattle.schema.specs.RowRule.{max_rows}
use Rattle.instance.specs.Nodes.{nodes_of}
use Rattle.instance.specs.NodeRule.{max_nodes, NodesRight}
use Rattle.instance.specs.Width.{WidthFault}
use Rattle.instance.specs.Elements.{is_element}
use Rattle.schema_restrictions.specs.Schema.{SchemaPasses}
use Rattle.matching_rules.specs.Rules.{NotMatchBy}
use Rattle.matching_rules.specs.Job.{lookups}
use Rattle.matching_rules.specs.Spans.{Paired}
use Rattle.matching_marks.specs.Given.{pair_entry}

-- strings, schema and instance have no fault of codes 1 to 10
pub record TablesPass (J : Tables) : Type 0 where
  pub strings : StringsRight J.strings
  pub schema : SchemaPasses (schema_strings J.strings) J.schema
  pub nodes : NodesRight (instance_strings J.strings) J.instance
  pub narrow : (e : ℕ) → ¬ WidthFault J.instance e

-- the premises of (element), 9.3.7, for an element and a definition
abbrev pub IsPair : (J : Tables) (e d : ℕ) → Type 0
IsPair J e d = (is_element J.instance e ≡ true) × Paired (lookups J) (NotMatchBy (lookups J) (rows_of J.schema)) e d

-- the entries of the instance rows from r on
pub record PairsFrom (J : Tables) (pairs : List ℕ) (r : ℕ) : Type 0 where
  pub entries : (e d : ℕ) → r ≤ e → e < nodes_of J.instance → d < rows_of J.schema
      → (pair_entry pairs e d ≡ 1) ↔ IsPair J e d

abbrev pub PairsRight : (J : Tables) (pairs : List ℕ) → Type 0
PairsRight J pairs = PairsFrom J pairs 0

-- the tables pass, and the table of pairs has room for every instance row and every schema row
pub record Pairable (J : Tables) (pairs : List ℕ) : Type 0 where
  pub pass : TablesPass J
  pub room : max_nodes * max_rows ≤ length pairs
