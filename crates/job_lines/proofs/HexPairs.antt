-- Pairs of hexadecimal digits, one at a time.
use mathlib.Core.Path.{◌≡◌, refl, ◌∙◌, ap}
use mathlib.Core.Logic.{◌≢◌}
use mathlib.Core.List.{List, [], ◌∷◌}
use Rattle.std.specs.Prelude.{Option, None, Some}
use Prim.Native.Nat.{ℕ, ◌+◌, ◌*◌, ◌%◌, ◌<◌}
use native.Mathlib.Omega.{arith}
use lib.ListN.{length, drop, get_or}
use Rattle.job.specs.Numbers.{hex_value, hex_pair, hex_bytes}
use Rattle.tables.proofs.Parts.{drop_one}
use Rattle.job_lines.proofs.Stored.{prepend}

pair_one : (h l : ℕ) (rest : Option (List ℕ)) → hex_pair (Some h) (Some l) rest ≡ prepend ((h * 16 + l) ∷ []) rest
pair_one h l None = refl
pair_one h l (Some bytes) = refl

pair_none : (h l : Option ℕ) → hex_pair h l None ≡ None
pair_none None l = refl
pair_none (Some h) None = refl
pair_none (Some h) (Some l) = refl

-- one digit alone
pub hex_odd : (text : List ℕ) → length text % 2 ≢ 0 → hex_bytes text ≡ None
hex_odd [] n = absurd (n refl)
hex_odd (h ∷ []) n = refl
hex_odd (h ∷ l ∷ text) n =
    rw (hex_odd text (λ e. n (omega arith))) (pair_none (hex_value h) (hex_value l))

module _ (text : List ℕ) (i : ℕ) where
  two : i + 1 < length text → drop i text ≡ get_or text i 0 ∷ get_or text (i + 1) 0 ∷ drop (i + 2) text
  two h =
      let e : i + 1 + 1 ≡ i + 2 = omega arith in
      drop_one text i (omega arith)
      ∙ ap (λ (l : List ℕ). get_or text i 0 ∷ l) (drop_one text (i + 1) h
      ∙ ap (λ (k : ℕ). get_or text (i + 1) 0 ∷ drop k text) e)

  module _ (h : i + 1 < length text) where
    pub hex_no_high : hex_value (get_or text i 0) ≡ None → hex_bytes (drop i text) ≡ None
    hex_no_high e =
        ap hex_bytes (two h)
        ∙ ap (λ (v : Option ℕ). hex_pair v (hex_value (get_or text (i + 1) 0)) (hex_bytes (drop (i + 2) text))) e

    module _ {high : ℕ} (e : hex_value (get_or text i 0) ≡ Some high) where
      with_high : hex_bytes (drop i text)
          ≡ hex_pair (Some high) (hex_value (get_or text (i + 1) 0)) (hex_bytes (drop (i + 2) text))
      with_high =
          ap hex_bytes (two h)
          ∙ ap (λ (v : Option ℕ). hex_pair v (hex_value (get_or text (i + 1) 0)) (hex_bytes (drop (i + 2) text))) e

      pub hex_more : {low : ℕ} → hex_value (get_or text (i + 1) 0) ≡ Some low
          → hex_bytes (drop i text) ≡ prepend ((high * 16 + low) ∷ []) (hex_bytes (drop (i + 2) text))
      hex_more {low} f =
          with_high
          ∙ ap (λ (v : Option ℕ). hex_pair (Some high) v (hex_bytes (drop (i + 2) text))) f
          ∙ pair_one high low (hex_bytes (drop (i + 2) text))
