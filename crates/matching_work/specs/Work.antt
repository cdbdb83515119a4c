-- The room that matching asks of the lent work buffer (FORMAT, "Calls and outputs").
use Rattle.std.specs.Prelude.{ℕ, zero, suc, ◌+◌, ◌*◌, ◌<◌, max, ◌≡◌, cond, List, eqb, length}
use Rattle.tables.specs.Tables.{Tables}
use Rattle.strings.specs.Strings.{text_of}
use Rattle.schema.specs.Kinds as kind
use Rattle.schema.specs.Rows as row
use Rattle.instance.specs.Nodes.{attribute, text, nodes_of, kind_of, a_of, c_of}

-- some row of the schema is a list
abbrev pub HasList : List ℕ → Type 0
HasList s = (p : ℕ) × (row.kind_of s p ≡ kind.list)

-- the length of the attribute value or text at row r of the instance, 0 where that row has none
abbrev pub value_length : Tables → ℕ → ℕ
value_length J r =
    cond (eqb (kind_of J.instance r) attribute) (length (text_of J.strings (c_of J.instance r)))
    (cond (eqb (kind_of J.instance r) text) (length (text_of J.strings (a_of J.instance r))) 0)

-- the greatest of these lengths over the rows before row n of the instance, 0 over no rows
unfoldable pub longest_before : Tables → ℕ → ℕ
longest_before J zero = 0
longest_before J (suc n) = max (longest_before J n) (value_length J n)

-- the greatest over the whole instance
abbrev pub longest : Tables → ℕ
longest J = longest_before J (nodes_of J.instance)

-- there is a list, and the room is short of three bytes for each byte of that length, and three more
abbrev pub WorkTooShort : Tables → ℕ → Type 0
WorkTooShort J room = HasList J.schema × (room < 3 * longest J + 3)

-- code 12 for a work buffer of so many bytes: too short, at place 0
abbrev pub WorkFault : (J : Tables) (room place : ℕ) → Type 0
WorkFault J room place = (place ≡ 0) × WorkTooShort J room
