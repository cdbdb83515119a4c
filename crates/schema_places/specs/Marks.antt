-- Tables of marks: the word 1 at each row of which a predicate holds, and 0 at every other.
use Rattle.std.specs.Prelude.{ℕ, ◌≤◌, ◌≡◌, List, length, get_or}
use Rattle.schema.specs.Marks.{Marked}
use Rattle.schema.specs.RowRule.{max_rows}
use Rattle.schema.specs.Rows.{rows_of}
use Rattle.schema.specs.Relations.{Child, Below}

-- the marked rows are those of which P holds, and every other word is 0
pub record MarksExactly (P : ℕ → Type 0) (t : List ℕ) : Type 0 where
  pub sound : (r : ℕ) → Marked t r → P r
  pub complete : (r : ℕ) → P r → Marked t r
  pub rest : (r : ℕ) → ¬ Marked t r → get_or t r 0 ≡ 0

-- few enough rows, and a table of a word for each of so many
pub record MarkRoom (s t : List ℕ) : Type 0 where
  pub few : rows_of s ≤ max_rows
  pub room : length t ≡ max_rows

-- r is a child of p of which P holds
pub record ChildThat (s : List ℕ) (p : ℕ) (P : ℕ → Type 0) (r : ℕ) : Type 0 where
  pub child : Child s r p
  pub holds : P r

-- r is below a row of which S holds
pub record Under (s : List ℕ) (S : ℕ → Type 0) (r : ℕ) : Type 0 where
  pub row : ℕ
  pub source : S row
  pub below : Below s r row
