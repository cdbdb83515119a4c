-- Code 10: an element that is wider than FORMAT, "Instance rows", allows.
use Rattle.std.specs.Prelude.{ℕ, zero, suc, ◌+◌, ◌<◌, ◌≡◌, Bool, cond, List}
use Rattle.instance.specs.Nodes.{element, nodes_of, kind_of, is_child, is_attribute}

abbrev pub max_width : ℕ
max_width = 63

-- how many of the first n rows pass a test
unfoldable pub how_many : (ℕ → Bool) → ℕ → ℕ
how_many test zero = 0
how_many test (suc n) = how_many test n + cond (test n) 1 0

-- code 10 at row e
pub data WidthFault (t : List ℕ) (e : ℕ) : Type 0 where
  many_attributes : e < nodes_of t → kind_of t e ≡ element → max_width < how_many (is_attribute t e) (nodes_of t)
      → WidthFault t e
  many_children : e < nodes_of t → kind_of t e ≡ element → max_width < how_many (is_child t e) (nodes_of t)
      → WidthFault t e
