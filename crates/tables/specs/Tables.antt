-- The tables of a job as one value, which definitions take in place of the lists that they are made of.
use Rattle.std.specs.Prelude.{ℕ, List}

-- the string table: bytes, and for each string where it ends in them
pub record StringTable : Type 0 where
  pub bytes : List ℕ
  pub ends : List ℕ

abbrev pub string_table : List ℕ → List ℕ → StringTable
string_table bytes ends = record { bytes = bytes; ends = ends }

-- the strings, the words of the schema rows and those of the instance rows
pub record Tables : Type 0 where
  pub strings : StringTable
  pub schema : List ℕ
  pub instance : List ℕ

abbrev pub tables_of : StringTable → List ℕ → List ℕ → Tables
tables_of strings schema instance = record { strings = strings; schema = schema; instance = instance }
