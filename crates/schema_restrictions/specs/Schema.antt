-- Codes 2 to 8 in their order.
use Rattle.std.specs.Prelude.{ℕ, List, Result}
use Rattle.tables.specs.Codes.{Tries, Passes}
use Rattle.tables.specs.declared.refusals.Code.TheVariants.{Rows, Places, Names, Paths}
use Rattle.tables.specs.declared.refusals.Code.TheVariants.{Content, Attributes, Interleaves}
use Rattle.tables.specs.declared.refusals.Refusal.{Refusal}
use Rattle.schema.specs.RowRule.{RowFault, RowsRight}
use Rattle.schema_places.specs.Places.{PlaceFault}
use Rattle.schema_places.specs.Names.{NameFault}
use Rattle.schema_places.specs.Paths.{PathFault}
use Rattle.schema_sequences.specs.Content.{SequenceFault}
use Rattle.schema_occurrences.specs.Attributes.{AttributeFault}
use Rattle.schema_occurrences.specs.Interleaves.{InterleaveFault}

-- codes 2 to 8 over the rows of a schema beside so many strings, and after them what next says
abbrev pub SchemaTries : ℕ → List ℕ → (Result Unit Refusal → Type 0) → Result Unit Refusal → Type 0
SchemaTries strings s next =
    Tries Rows (RowFault strings s)
    (Tries Places (PlaceFault s)
    (Tries Names (NameFault s)
    (Tries Paths (PathFault s)
    (Tries Content (SequenceFault s)
    (Tries Attributes (AttributeFault s)
    (Tries Interleaves (InterleaveFault s) next))))))

-- the verdict on them alone
abbrev pub SchemaVerdict : ℕ → List ℕ → Result Unit Refusal → Type 0
SchemaVerdict strings s = SchemaTries strings s Passes

-- no code from 2 to 8 finds a fault
pub record SchemaPasses (strings : ℕ) (s : List ℕ) : Type 0 where
  pub rows : RowsRight strings s
  pub places : (r : ℕ) → ¬ PlaceFault s r
  pub names : (r : ℕ) → ¬ NameFault s r
  pub paths : (r : ℕ) → ¬ PathFault s r
  pub sequences : (r : ℕ) → ¬ SequenceFault s r
  pub attributes : (r : ℕ) → ¬ AttributeFault s r
  pub interleaves : (r : ℕ) → ¬ InterleaveFault s r
