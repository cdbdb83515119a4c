-- The words of fields, one at a time.
use mathlib.Core.Path.{◌≡◌, refl, ◌∙◌, ap}
use mathlib.Core.Bool.{Bool, true, false, cond}
use mathlib.Core.List.{List, [], ◌∷◌}
use Rattle.std.specs.Prelude.{Option, None, Some}
use Prim.Native.Nat.{ℕ, zero, suc, ◌+◌, ◌≤◌}
use native.Mathlib.Omega.{arith}
use lib.ListN.{length, drop}
use lib.Dec.{eqb}
use borrow.Author.Tests.{le-leb}
use Rattle.tables.specs.Place.{between}
use Rattle.job.specs.Numbers.{word_of}
use Rattle.job.specs.Lines.{comma, in_front, fields_of}
use Rattle.job.specs.Reading.{words_of, and_then}
use Rattle.job_lines.specs.Parts.{fields_from, FieldEnd}
use Rattle.job_lines.proofs.Stored.{prepend}

one_word : (w : ℕ) (rest : Option (List ℕ)) → and_then rest (λ (ws : List ℕ). Some (w ∷ ws)) ≡ prepend (w ∷ []) rest
one_word w None = refl
one_word w (Some ws) = refl

-- a text has at least one field
some_field : (l : List ℕ) → words_of 0 (fields_of l) ≡ None
some_field [] = refl
some_field (c ∷ l) = go (eqb c comma) (fields_of l) (some_field l)
  where
    go : (t : Bool) (fields : List (List ℕ)) → words_of 0 fields ≡ None
        → words_of 0 (cond t ([] ∷ fields_of l) (in_front c fields)) ≡ None
    go true fields e = refl
    go false [] e = e
    go false (f ∷ fields) e = refl

module _ (text : List ℕ) (start : ℕ) where
  pub words_left : (left : ℕ) → left ≤ 0 → start ≤ length text → words_of left (fields_from text start) ≡ None
  words_left zero l h = rw (le-leb start (length text) h) (some_field (drop start text))
  words_left (suc left) l h = absurd (omega arith)

module _ {text : List ℕ} {start end : ℕ} (field : FieldEnd text start end) where
  pub words_more : (left next : ℕ) → left ≡ next + 1 → {w : ℕ} → word_of (between text start end) ≡ Some w
      → words_of left (fields_from text start) ≡ prepend (w ∷ []) (words_of next (fields_from text (end + 1)))
  words_more zero next l e = absurd (omega arith)
  words_more (suc left) next l {w} e =
      let p : left ≡ next = omega arith in
      ap (words_of (suc left)) field.splits
      ∙ rw (e, p) (one_word w (words_of next (fields_from text (end + 1))))
