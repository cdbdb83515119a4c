-- The definitions of a schema: its element rows, in rising order.
use Rattle.std.specs.Prelude.{ℕ, ◌≤◌, ◌<◌, ◌≡◌, Bool, true, List, get_or}
use Rattle.schema.specs.Rows.{rows_of, sort_of, is_element}

abbrev pub is_definition : List ℕ → ℕ → Bool
is_definition s d = is_element (sort_of s d)

-- the first n words are the definitions among the rows before m
pub record DefinitionsBefore (s words : List ℕ) (n m : ℕ) : Type 0 where
  pub few : n ≤ m
  pub rows : (k : ℕ) → k < n → get_or words k 0 < m
  pub defined : (k : ℕ) → k < n → is_definition s (get_or words k 0) ≡ true
  pub rising : (j k : ℕ) → j < k → k < n → get_or words j 0 < get_or words k 0
  pub every : (d : ℕ) → d < m → is_definition s d ≡ true → (k : ℕ) × (k < n) × (get_or words k 0 ≡ d)

abbrev pub Definitions : List ℕ → List ℕ → ℕ → Type 0
Definitions s words n = DefinitionsBefore s words n (rows_of s)
