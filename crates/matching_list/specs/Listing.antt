-- The pairs that a table marks, in order: by element row, then by definition row.
use Rattle.std.specs.Prelude.{ℕ, zero, suc, ◌+◌, ◌*◌, ◌≤◌, ◌<◌, ◌≡◌, Bool, cond, List, [], ◌∷◌, ◌++◌, length, get_or}
use Rattle.std.specs.Prelude.{eqb, Result, Ok, Err}
use Rattle.std.proofs.lemmas.List.Edits.{sets}
use Rattle.tables.specs.Outputs.{zeros, laid}
use Rattle.schema.specs.RowRule.{max_rows}
use Rattle.matching_rules.specs.Listed.{pair_words}
use Rattle.matching_list.specs.declared.TooShort.{TooShort}

-- row e and definition d are marked
abbrev pub is_marked : List ℕ → ℕ → ℕ → Bool
is_marked table e d = eqb (get_or table (e * max_rows + d) 0) 1

-- the pair of row e and definition d, if it is marked
abbrev pub pair_if : List ℕ → ℕ → ℕ → List (ℕ × ℕ)
pair_if table e d = cond (is_marked table e d) ((e, d) ∷ []) []

-- the marked ones among the first n definitions, for row e
unfoldable pub row_pairs : List ℕ → List ℕ → ℕ → ℕ → List (ℕ × ℕ)
row_pairs table definitions e zero = []
row_pairs table definitions e (suc n) = row_pairs table definitions e n ++ pair_if table e (get_or definitions n 0)

-- the marked pairs of the first n rows
unfoldable pub marked_pairs : List ℕ → List ℕ → ℕ → List (ℕ × ℕ)
marked_pairs table definitions zero = []
marked_pairs table definitions (suc n) =
    marked_pairs table definitions n ++ row_pairs table definitions n (length definitions)

-- pairs are put after n others, as far as they fit, and the new number is m
pub record PutPairs (before : List ℕ) (n : ℕ) (pairs : List (ℕ × ℕ)) (after : List ℕ) (m : ℕ) : Type 0 where
  pub holds : after ≡ sets before (n * 2) (pair_words pairs)
  pub number : m ≡ n + length pairs

-- the answer r and all of the list, which has so many words: the words of the marked pairs and zeros after them, or
-- zeros where it has too few
pub data ListsPairs (table definitions : List ℕ) (rows room : ℕ) (list : List ℕ) (r : Result ℕ TooShort) : Type 0 where
  whole : length (marked_pairs table definitions rows) * 2 ≤ room
      → r ≡ Ok (length (marked_pairs table definitions rows))
      → list ≡ laid room (pair_words (marked_pairs table definitions rows))
      → ListsPairs table definitions rows room list r
  short : room < length (marked_pairs table definitions rows) * 2 → r ≡ Err (record {}) → list ≡ zeros room
      → ListsPairs table definitions rows room list r

-- n pairs were put into a list: they stay where they fit, and are taken back to zeros where they do not
pub data KeepsListed (before : List ℕ) (n : ℕ) (after : List ℕ) (r : Result ℕ TooShort) : Type 0 where
  stays : n * 2 ≤ length before → r ≡ Ok n → after ≡ before → KeepsListed before n after r
  taken_back : length before < n * 2 → r ≡ Err (record {}) → after ≡ zeros (length before)
      → KeepsListed before n after r
