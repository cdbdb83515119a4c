-- What the root of an instance does with a pattern of start, from the table of pairs.
use Rattle.std.specs.Prelude.{ℕ, Bool, List, [], ◌∷◌}
use Rattle.tables.specs.Tables.{StringTable, tables_of}
use Rattle.tables.specs.Answers.{Decides}
use Rattle.schema.specs.Views.{pattern_of}
use Rattle.matching_rules.specs.Items.{element, no_attributes}
use Rattle.matching_rules.specs.Rules.{Matches}
use Rattle.matching_rules.specs.Job.{lookups, Valid}
use Rattle.matching_rules.specs.Restricted.{Starts}
use Rattle.matching_pairs.specs.Pairs.{TablesPass, PairsRight}

-- for some strings and some instance the tables pass and the pairs are right
pub record RootAsked (s pairs : List ℕ) : Type 0 where
  pub strings : StringTable
  pub instance : List ℕ
  pub pass : TablesPass (tables_of strings s instance)
  pub right : PairsRight (tables_of strings s instance) pairs

-- and the pattern at row p is of the sort that start may have (10.2.6)
pub record StartAsked (s pairs : List ℕ) (p : ℕ) : Type 0 where
  pub root : RootAsked s pairs
  pub starts : Starts (lookups (tables_of root.strings s root.instance)) (pattern_of s p)

-- whether the root alone matches the pattern at row p, for all strings and instances for which the pairs are right
abbrev pub TellsRoot : (s pairs : List ℕ) (p : ℕ) → Bool → Type 0
TellsRoot s pairs p r =
    (T : StringTable) (t : List ℕ) → TablesPass (tables_of T s t) → PairsRight (tables_of T s t) pairs
    → Starts (lookups (tables_of T s t)) (pattern_of s p)
    → Decides (Matches (lookups (tables_of T s t)) no_attributes (element 0 ∷ []) (pattern_of s p)) r

-- (valid) of 9.4, for all strings and instances for which the pairs are right
pub record TellsValid (s pairs : List ℕ) (r : Bool) : Type 0 where
  pub tells : (T : StringTable) (t : List ℕ) → TablesPass (tables_of T s t) → PairsRight (tables_of T s t) pairs
      → Decides (Valid (tables_of T s t)) r
