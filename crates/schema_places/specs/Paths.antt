-- Code 5: the prohibited paths of ISO/IEC 19757-2, 10.2.
use Rattle.std.specs.Prelude.{ℕ, ◌≡◌, Bool, true, ◌||◌, List, eqb}
use Rattle.schema.specs.Kinds as kind
use Rattle.schema.specs.Rows.{kind_of}
use Rattle.schema.specs.Relations.{Below}

-- group and interleave
abbrev pub sharing_kind : ℕ → Bool
sharing_kind k = eqb k kind.group || eqb k kind.interleave

-- what may not stand below an attribute (10.2.2), a list (10.2.4), a data's except (10.2.5), the start (10.2.6)
abbrev pub not_in_attribute : ℕ → Bool
not_in_attribute k = eqb k kind.ref || eqb k kind.attribute

abbrev pub not_in_list : ℕ → Bool
not_in_list k = eqb k kind.list || eqb k kind.ref || eqb k kind.attribute || eqb k kind.text || eqb k kind.interleave

abbrev pub not_in_except : ℕ → Bool
not_in_except k =
    eqb k kind.attribute || eqb k kind.ref || eqb k kind.text || eqb k kind.list || sharing_kind k
    || eqb k kind.one_or_more || eqb k kind.empty

abbrev pub not_in_start : ℕ → Bool
not_in_start k =
    eqb k kind.attribute || eqb k kind.«data» || eqb k kind.value || eqb k kind.list || eqb k kind.text
    || sharing_kind k
    || eqb k kind.one_or_more
    || eqb k kind.empty

-- code 5 at row r; the only child of a data is its except
pub data PathFault (s : List ℕ) (r : ℕ) : Type 0 where
  in_attribute : (p : ℕ) → not_in_attribute (kind_of s r) ≡ true → kind_of s p ≡ kind.attribute
      → Below s r p → PathFault s r
  in_repeated_sharing : (p q : ℕ) → kind_of s r ≡ kind.attribute → sharing_kind (kind_of s p) ≡ true → Below s r p
      → kind_of s q ≡ kind.one_or_more → Below s p q → PathFault s r
  in_list : (p : ℕ) → not_in_list (kind_of s r) ≡ true → kind_of s p ≡ kind.list → Below s r p → PathFault s r
  in_except : (p : ℕ) → not_in_except (kind_of s r) ≡ true → kind_of s p ≡ kind.«data» → Below s r p → PathFault s r
  in_start : (p : ℕ) → not_in_start (kind_of s r) ≡ true → kind_of s p ≡ kind.start → Below s r p → PathFault s r
