-- The end of a file: nothing follows its last line exactly when its last byte is the LF of that line.
use mathlib.Core.Path.{◌≡◌, refl, sym, ◌∙◌, ap}
use mathlib.Core.Bool.{Bool, true, false, cond}
use mathlib.Core.List.{List, [], ◌∷◌}
use Prim.Native.Nat.{ℕ, zero, suc, ◌+◌, ◌≤◌, ◌<◌}
use native.Mathlib.Omega.{arith}
use lib.ListN.{length, drop, get_or, drop_of_length-le}
use lib.Dec.{eqb}
use borrow.Author.Tests.{eq-eqb}
use Rattle.tables.specs.Tables.{Tables}
use Rattle.job.specs.Lines.{line_feed, lines_of, in_front, is_ended}
use Rattle.job.specs.Reading.{read, wrong, nothing_more}

ended : (l : List ℕ) (e : ℕ) → e < length l → length l ≤ e + 1 → get_or l e 0 ≡ line_feed → is_ended l ≡ true
ended [] e h k f = absurd (omega arith)
ended (c ∷ []) zero h k f = eq-eqb c line_feed f
ended (c ∷ []) (suc e) h k f = absurd (omega arith)
ended (c ∷ d ∷ l) zero h k f = absurd (omega arith)
ended (c ∷ d ∷ l) (suc e) h k f = ended (d ∷ l) e (omega arith) (omega arith) f

-- the end of a text is that of every part that reaches it
ended_drop : (l : List ℕ) (p : ℕ) → p < length l → is_ended (drop p l) ≡ is_ended l
ended_drop l zero h = refl
ended_drop [] (suc p) h = absurd (omega arith)
ended_drop (c ∷ []) (suc p) h = absurd (omega arith)
ended_drop (c ∷ d ∷ l) (suc p) h = ended_drop (d ∷ l) p (omega arith)

no_front : (c : ℕ) (runs : List (List ℕ)) → in_front c runs ≡ [] → runs ≡ []
no_front c [] e = refl
no_front c (l ∷ runs) e = cc

-- where there is no line, the first byte is no LF, and no line follows it
no_lines : (t : Bool) (c : ℕ) (rest : List (List ℕ))
    → cond t ([] ∷ rest) (in_front c rest) ≡ [] → (t ≡ false) × (rest ≡ [])
no_lines true c rest e = (cc, cc)
no_lines false c rest e = (refl, no_front c rest e)

-- a text without a line has no LF at its end
not_ended : (l : List ℕ) → lines_of l ≡ [] → is_ended l ≡ false
not_ended [] e = refl
not_ended (c ∷ []) e = (no_lines (eqb c line_feed) c [] e).0
not_ended (c ∷ d ∷ l) e = not_ended (d ∷ l) (no_lines (eqb c line_feed) c (lines_of (d ∷ l)) e).1

module _ (file : List ℕ) (t : Tables) (n : ℕ) where
  pub more_follows : (p : ℕ) → p < length file → nothing_more file t n (lines_of (drop p file)) ≡ wrong n
  more_follows p h = go (lines_of (drop p file)) refl
    where
      go : (rest : List (List ℕ)) → lines_of (drop p file) ≡ rest → nothing_more file t n rest ≡ wrong n
      go [] e = let f : is_ended file ≡ false = sym (ended_drop file p h) ∙ not_ended (drop p file) e in rw f
      go (l ∷ rest) e = refl

  pub nothing_follows : (e : ℕ) → e < length file → length file ≤ e + 1
      → get_or file e 0 ≡ line_feed → nothing_more file t n (lines_of (drop (e + 1) file)) ≡ read t
  nothing_follows e h k f =
      ap (λ (l : List ℕ). nothing_more file t n (lines_of l)) (drop_of_length-le file k)
      ∙ ap (λ (b : Bool). cond b (read t) (wrong n)) (ended file e h k f)
