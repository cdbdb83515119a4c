-- The strings before one by their hash, as they are linked while repeated texts are looked for; cited by private
-- functions only.
use Rattle.std.specs.Prelude.{ℕ, suc, ◌+◌, ◌*◌, ◌/◌, ◌%◌, ◌≤◌, ◌<◌, ◌≡◌, ◌≢◌, List, length, get_or}
use Rattle.tables.specs.Tables.{StringTable}
use Rattle.strings.specs.Strings.{text_of, max_strings}

-- a number below 512 of a text
unfoldable pub hash_of : List ℕ → ℕ
hash_of l = (length l % 512 + get_or l 0 0 * 37 + get_or l 1 0 * 17 + get_or l (length l / 2) 0 * 5) % 512

abbrev pub hash_at : StringTable → ℕ → ℕ
hash_at T k = hash_of (text_of T k)

-- m is one more than the last string before n with hash h, and 0 where there is none
pub record LastOf (T : StringTable) (h n m : ℕ) : Type 0 where
  pub low : m ≤ n
  pub same : (j : ℕ) → suc j ≡ m → hash_at T j ≡ h
  pub later : (i : ℕ) → m ≤ i → i < n → hash_at T i ≢ h

-- each string before n is linked to the last one before it with its hash
abbrev pub Linked : (T : StringTable) (prior : List ℕ) (n : ℕ) → Type 0
Linked T prior n = (q : ℕ) → q < n → LastOf T (hash_at T q) q (get_or prior q 0)

-- the last string before n with each hash
pub record Lasts (T : StringTable) (last : List ℕ) (n : ℕ) : Type 0 where
  pub size : length last ≡ max_strings
  pub each : (h : ℕ) → h < max_strings → LastOf T h n (get_or last h 0)
