-- Tables of marks: the word 1 at each marked row.
use Rattle.std.specs.Prelude.{ℕ, ◌≡◌, Bool, cond, ◌⊎◌, List, get_or, set}
use Rattle.schema.specs.Rows.{child_a, child_b}

abbrev pub Marked : List ℕ → ℕ → Type 0
Marked t r = get_or t r 0 ≡ 1

-- row r is marked where it is wanted; past the end of the table nothing is stored
abbrev pub mark_if : Bool → ℕ → List ℕ → List ℕ
mark_if wanted r t = cond wanted (set t r 1) t

-- the child of row p through field a is marked where a is true, then the one through field b where b is
abbrev pub children_marked : List ℕ → ℕ → Bool → Bool → List ℕ → List ℕ
children_marked s p a b t = mark_if b (child_b s p) (mark_if a (child_a s p) t)

-- new has the marks of old and marks the rows of which P holds; a word that is no mark is as it was
pub record Adds (P : ℕ → Type 0) (old new : List ℕ) : Type 0 where
  pub kept : (r : ℕ) → Marked old r → Marked new r
  pub added : (r : ℕ) → P r → Marked new r
  pub only : (r : ℕ) → Marked new r → Marked old r ⊎ P r
  pub rest : (r : ℕ) → ¬ Marked new r → get_or new r 0 ≡ get_or old r 0
