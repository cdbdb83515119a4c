-- Numbers and strings in a job file: decimal words, with `-` for the largest, and pairs of hexadecimal digits.
use Rattle.std.specs.Prelude.{ℕ, zero, suc, ◌+◌, ◌-◌, ◌*◌, ◌/◌, ◌%◌, ◌≤◌, ◌<◌, Bool, true, false, not, cond, ◌&&◌, List}
use Rattle.std.specs.Prelude.{[], ◌∷◌, ◌++◌, ltb, leb, eqb}
use Rattle.std.specs.Prelude.{Option, None, Some}

-- `-` of FORMAT, "Job file", and the largest number that is written in digits
abbrev pub largest_word : ℕ
largest_word = 4294967295

abbrev pub largest_number : ℕ
largest_number = 4294967294

-- words and bytes, as the tables of a job hold them
abbrev pub Words : List ℕ → Type 0
Words [] = Unit {0}
Words (w ∷ ws) = (w ≤ largest_word) × Words ws

abbrev pub Bytes : List ℕ → Type 0
Bytes [] = Unit {0}
Bytes (b ∷ bytes) = (b < 256) × Bytes bytes

-- decimal digits without leading zeros, of a number of at most so many digits
unfoldable pub decimal_by : ℕ → ℕ → List ℕ
decimal_by zero n = []
decimal_by (suc digits) n = cond (ltb n 10) ((48 + n) ∷ []) (decimal_by digits (n / 10) ++ (48 + n % 10) ∷ [])

-- a word has at most ten digits
abbrev pub decimal : ℕ → List ℕ
decimal n = decimal_by 10 n

-- how a word is written
abbrev pub word_text : ℕ → List ℕ
word_text w = cond (eqb w largest_word) (45 ∷ []) (decimal w)

-- words with a comma between
abbrev pub words_text : List ℕ → List ℕ
words_text [] = []
words_text (w ∷ []) = word_text w
words_text (w ∷ v ∷ ws) = word_text w ++ 44 ∷ words_text (v ∷ ws)

-- the lower-case hexadecimal digit of a number below 16, and two such digits for each byte
abbrev pub hex_digit : ℕ → ℕ
hex_digit n = cond (ltb n 10) (48 + n) (87 + n)

abbrev pub hex_text : List ℕ → List ℕ
hex_text [] = []
hex_text (b ∷ bytes) = hex_digit (b / 16) ∷ hex_digit (b % 16) ∷ hex_text bytes

abbrev pub is_digit : ℕ → Bool
is_digit c = leb 48 c && leb c 57

abbrev pub all_digits : List ℕ → Bool
all_digits [] = true
all_digits (c ∷ l) = is_digit c && all_digits l

-- there is a digit, and the first of several is not 0
abbrev pub no_leading_zero : List ℕ → Bool
no_leading_zero [] = false
no_leading_zero (c ∷ []) = true
no_leading_zero (c ∷ d ∷ l) = not (eqb c 48)

-- the number that digits make, after those that made n
abbrev pub value_from : ℕ → List ℕ → ℕ
value_from n [] = n
value_from n (c ∷ l) = value_from (n * 10 + (c - 48)) l

abbrev pub is_number : List ℕ → Bool
is_number l = no_leading_zero l && all_digits l && leb (value_from 0 l) largest_number

-- the number that a text is, if it is one
abbrev pub number_of : List ℕ → Option ℕ
number_of l = cond (is_number l) (Some (value_from 0 l)) None

-- the word that a text is: a number, or `-`
abbrev pub word_of : List ℕ → Option ℕ
word_of [] = None
word_of (c ∷ []) = cond (eqb c 45) (Some largest_word) (number_of (c ∷ []))
word_of (c ∷ d ∷ l) = number_of (c ∷ d ∷ l)

-- the value of a lower-case hexadecimal digit
abbrev pub hex_value : ℕ → Option ℕ
hex_value c = cond (is_digit c) (Some (c - 48)) (cond (leb 97 c && leb c 102) (Some (c - 87)) None)

abbrev pub hex_pair : Option ℕ → Option ℕ → Option (List ℕ) → Option (List ℕ)
hex_pair None low rest = None
hex_pair (Some h) None rest = None
hex_pair (Some h) (Some l) None = None
hex_pair (Some h) (Some l) (Some bytes) = Some ((h * 16 + l) ∷ bytes)

-- the bytes that pairs of hexadecimal digits are
abbrev pub hex_bytes : List ℕ → Option (List ℕ)
hex_bytes [] = Some []
hex_bytes (h ∷ []) = None
hex_bytes (h ∷ l ∷ rest) = hex_pair (hex_value h) (hex_value l) (hex_bytes rest)
