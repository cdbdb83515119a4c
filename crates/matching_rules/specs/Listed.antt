-- A list of pairs of numbers in strict order that holds exactly the pairs of a relation, and the words that it is
-- written as.
use Rattle.std.specs.Prelude.{ℕ, ◌<◌, ◌≡◌, ◌⊎◌}
use mathlib.Core.List.{List, [], ◌∷◌, Memᴰ}

-- by the first number, then by the second
abbrev pub Precedes : ℕ × ℕ → ℕ × ℕ → Type 0
Precedes x y = (x.0 < y.0) ⊎ ((x.0 ≡ y.0) × (x.1 < y.1))

-- each pair precedes the next
pub data Rising : List (ℕ × ℕ) → Type 0 where
  rising_none : Rising []
  rising_one : {x : ℕ × ℕ} → Rising (x ∷ [])
  rising_more : {x y : ℕ × ℕ} {l : List (ℕ × ℕ)} → Precedes x y → Rising (y ∷ l) → Rising (x ∷ y ∷ l)

-- (e, d) is a member exactly when P e d
pub record Lists (P : ℕ → ℕ → Type 0) (l : List (ℕ × ℕ)) : Type 0 where
  pub sound : (e d : ℕ) → Memᴰ (e, d) l → P e d
  pub complete : (e d : ℕ) → P e d → Memᴰ (e, d) l

-- pair by pair its first number, then its second
unfoldable pub pair_words : List (ℕ × ℕ) → List ℕ
pair_words [] = []
pair_words (x ∷ l) = x.0 ∷ x.1 ∷ pair_words l
