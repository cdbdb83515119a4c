-- The public answer on a string's text: a part of the lent bytes, and where it lies.
use Rattle.std.specs.Prelude.{ℕ, ◌≤◌, ◌<◌, ◌≡◌, List, length}
use Rattle.std.specs.Borrow.{Bor}
use Rattle.tables.specs.Place.{where_is, part_place, empty_place}
use Rattle.tables.specs.Tables.{string_table}
use Rattle.strings.specs.Strings.{start_of, end_of, StringFault, StringsRight}

-- the part of string k where the strings keep their rule and k is in the table, and otherwise an empty part from the
-- start
pub record StringText (bytes : Bor (List ℕ)) (ends : List ℕ) (k : ℕ) (r : Bor (List ℕ)) : Type 0 where
  pub in_table : StringsRight (string_table bytes.now ends) → k < length ends
      → where_is r ≡ part_place bytes (start_of ends k) (end_of ends k)
  pub not_in_table : length ends ≤ k → where_is r ≡ empty_place bytes
  pub rule_broken : (place : ℕ) → StringFault (string_table bytes.now ends) place → where_is r ≡ empty_place bytes
