-- What an element has, as rows of the instance: its attributes and its children, in document order.
use Rattle.std.specs.Prelude.{ℕ, zero, suc, Bool, cond, List, [], ◌∷◌, ◌++◌, eqb}
use Rattle.instance.specs.Nodes.{element, nodes_of, kind_of, is_child, is_attribute}

-- the rows before n that pass a test, in order
unfoldable pub rows_where : (ℕ → Bool) → ℕ → List ℕ
rows_where test zero = []
rows_where test (suc n) = rows_where test n ++ cond (test n) (n ∷ []) []

abbrev pub is_element : List ℕ → ℕ → Bool
is_element t e = eqb (kind_of t e) element

-- the rows of e's attributes
abbrev pub attributes_of : List ℕ → ℕ → List ℕ
attributes_of t e = rows_where (is_attribute t e) (nodes_of t)

-- the rows of e's children, elements and texts
abbrev pub children_of : List ℕ → ℕ → List ℕ
children_of t e = rows_where (is_child t e) (nodes_of t)
