-- What a table of counts holds while rows are counted; cited by private functions only.
use Rattle.std.specs.Prelude.{ℕ, ◌<◌, ◌≡◌, Bool, List, length, get_or}
use Rattle.instance.specs.NodeRule.{max_nodes}
use Rattle.instance.specs.Width.{how_many}

-- for each row e how many of the first n rows belong to it
pub record RowsCounted (belongs : ℕ → ℕ → Bool) (counts : List ℕ) (n : ℕ) : Type 0 where
  pub size : length counts ≡ max_nodes
  pub count : (e : ℕ) → e < max_nodes → get_or counts e 0 ≡ how_many (belongs e) n
