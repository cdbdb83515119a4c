-- What the table of counts holds while parents are counted; cited by private functions only.
use Rattle.std.specs.Prelude.{ℕ, ◌<◌, ◌≡◌, List, length, get_or}
use Rattle.schema.specs.RowRule.{max_rows, uses_before}

-- for each row its uses by the rows before n
pub record UsesCounted (s counts : List ℕ) (n : ℕ) : Type 0 where
  pub size : length counts ≡ max_rows
  pub uses : (r : ℕ) → r < max_rows → get_or counts r 0 ≡ uses_before s r n
