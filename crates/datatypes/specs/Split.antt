-- split of ISO/IEC 19757-2, 4.2.3: one string for each token of a text that whitespace delimits. A text is the list of
-- its bytes.
use Rattle.std.specs.Prelude.{ℕ, ◌≤◌, ◌<◌, max, ◌≡◌, true, false, cond, List, [], ◌∷◌, length, get_or}
use Rattle.datatypes.specs.Whitespace.{space, space_first}

-- a token is not empty and has no whitespace in it
pub data Token : List ℕ → Type 0 where
  token_last : {c : ℕ} → space c ≡ false → Token (c ∷ [])
  token_more : {c : ℕ} {t : List ℕ} → space c ≡ false → Token t → Token (c ∷ t)

-- a character before the first of some tokens, or a token by itself where there is none
abbrev pub prefixed : ℕ → List (List ℕ) → List (List ℕ)
prefixed c [] = (c ∷ []) ∷ []
prefixed c (t ∷ ts) = (c ∷ t) ∷ ts

-- a character that is no whitespace is a token by itself before whitespace, and belongs to the next token otherwise
abbrev pub split : List ℕ → List (List ℕ)
split [] = []
split (c ∷ s) = cond (space c) (split s) (cond (space_first s) ((c ∷ []) ∷ split s) (prefixed c (split s)))

-- to is the first position at or after from where a whitespace character stands: in the text or at its end, and from
-- itself where that is past the end
pub record TokenTo (s : List ℕ) (from to : ℕ) : Type 0 where
  pub onward : from ≤ to
  pub within : to ≤ max from (length s)
  pub unbroken : (i : ℕ) → from ≤ i → i < to → space (get_or s i 0) ≡ false
  pub ended : to < length s → space (get_or s to 0) ≡ true
