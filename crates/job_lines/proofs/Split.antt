-- A text split at a separator, lines at LF and fields at a comma, by where the separator first occurs.
use mathlib.Core.Path.{◌≡◌, refl, sym, ◌∙◌, ap}
use mathlib.Core.Bool.{Bool, true, false, not, cond}
use mathlib.Core.List.{List, [], ◌∷◌}
use Prim.Native.Nat.{ℕ, suc, ◌+◌, ◌-◌, ◌≤◌, ◌<◌}
use native.Mathlib.Omega.{arith}
use lib.ListN.{length, take, drop, get_or, length-drop}
use lib.Seq.{get_or-drop, drop-drop, take_all}
use lib.Dec.{eqb, ltb}
use borrow.Author.Tests.{eqb-true, ltb-true, ltb-false, le-leb, lt-leb}
use Rattle.std.specs.Prelude.{Some, None}
use Rattle.std.specs.List.{position, position_or_len}
use Rattle.std.proofs.lemmas.Option.{cond_some, none-some}
use Rattle.std.proofs.lemmas.List.Sums.{passes_at_first}
use Rattle.job.specs.Lines.{in_front, lines_of, fields_of, line_feed, comma}
use Rattle.job_lines.specs.Parts.{LineTo, FieldEnd}

-- how many bytes stand before the first separator
abbrev pub before : ℕ → List ℕ → ℕ
before sep l = position_or_len (λ c. eqb c sep) l

-- what a search for the separator says
found : (sep : ℕ) (l : List ℕ) {i : ℕ} → Some i ≡ position (λ c. eqb c sep) l
    → (before sep l ≡ i) × (before sep l < length l)
found sep l {i} e =
    let p = cond_some (ltb (before sep l) (length l)) (before sep l) i (sym e) in
    (p.1, ltb-true (before sep l) (length l) p.0)

absent : (sep : ℕ) (l : List ℕ) → None ≡ position (λ c. eqb c sep) l → length l ≤ before sep l
absent sep l e = go (ltb (before sep l) (length l)) (ltb-false (before sep l) (length l)) e
  where
    go : (t : Bool) → (t ≡ false → length l ≤ before sep l) → None ≡ cond t (Some (before sep l)) None
        → length l ≤ before sep l
    go true h e = absurd (none-some (before sep l) e)
    go false h e = h refl

-- split is the splitting at a separator
record Splits (sep : ℕ) (split : List ℕ → List (List ℕ)) : Type 0 where
  on : (c : ℕ) (l : List ℕ) → split (c ∷ l) ≡ cond (eqb c sep) ([] ∷ split l) (in_front c (split l))

module _ {sep : ℕ} {split : List ℕ → List (List ℕ)} (rule : Splits sep split) where
  split_first : (l : List ℕ) → before sep l < length l
      → split l ≡ take (before sep l) l ∷ split (drop (before sep l + 1) l)
  split_first [] h = absurd (omega arith)
  split_first (c ∷ l) h = rule.on c l ∙ go (eqb c sep) h (split_first l)
    where
      go : (t : Bool) → cond (not t) (1 + before sep l) 0 < suc (length l)
          → (before sep l < length l → split l ≡ take (before sep l) l ∷ split (drop (before sep l + 1) l))
          → cond t ([] ∷ split l) (in_front c (split l)) ≡ take (cond (not t) (1 + before sep l) 0) (c ∷ l)
          ∷ split (drop (cond (not t) (1 + before sep l) 0 + 1) (c ∷ l))
      go true h more = refl
      go false h more =
          let e : 1 + before sep l ≡ suc (before sep l) = omega arith in
          let f : suc (before sep l) + 1 ≡ suc (before sep l + 1) = omega arith in
          rw (e, f, more (omega arith))

-- where there is no separator, there is no line, and one field
no_lines : (l : List ℕ) → length l ≤ before line_feed l → lines_of l ≡ []
no_lines [] h = refl
no_lines (c ∷ l) h = go (eqb c line_feed) h (no_lines l)
  where
    go : (t : Bool) → suc (length l) ≤ cond (not t) (1 + before line_feed l) 0
        → (length l ≤ before line_feed l → lines_of l ≡ [])
        → cond t ([] ∷ lines_of l) (in_front c (lines_of l)) ≡ []
    go true h more = absurd (omega arith)
    go false h more = rw (more (omega arith))

one_field : (l : List ℕ) → length l ≤ before comma l → fields_of l ≡ l ∷ []
one_field [] h = refl
one_field (c ∷ l) h = go (eqb c comma) h (one_field l)
  where
    go : (t : Bool) → suc (length l) ≤ cond (not t) (1 + before comma l) 0
        → (length l ≤ before comma l → fields_of l ≡ l ∷ [])
        → cond t ([] ∷ fields_of l) (in_front c (fields_of l)) ≡ (c ∷ l) ∷ []
    go true h more = absurd (omega arith)
    go false h more = rw (more (omega arith))

-- a line: from a position to the first LF, or no line where there is none
module _ (file : List ℕ) (at : ℕ) where
  pub line_to : {i : ℕ} → Some i ≡ position (λ c. eqb c line_feed) (drop at file) → LineTo file at (at + i)
  line_to {i} s =
      let p = found line_feed (drop at file) s in
      let l = length-drop at file in
      let e : at + i - at ≡ i = omega arith in
      let f : at + (i + 1) ≡ at + i + 1 = omega arith in
      record {
        from = omega arith;
        within = omega (arith, p.0, p.1);
        feed = sym (get_or-drop at file i 0) ∙ eqb-true (get_or (drop at file) i 0) line_feed
            (ap (λ (k : ℕ). eqb (get_or (drop at file) k 0) line_feed) (sym p.0)
            ∙ passes_at_first (λ c. eqb c line_feed) (drop at file) 0 p.1);
        splits =
            split_first {split = lines_of} (record { on = λ c l. refl }) (drop at file) p.1
            ∙ ap (λ (k : ℕ). take k (drop at file) ∷ lines_of (drop (k + 1) (drop at file))) p.0
            ∙ rw e (ap (λ (l : List ℕ). take i (drop at file) ∷ lines_of l)
            (drop-drop (i + 1) at file ∙ ap (λ (k : ℕ). drop k file) f));
      }

  pub no_line : None ≡ position (λ c. eqb c line_feed) (drop at file) → lines_of (drop at file) ≡ []
  no_line e = no_lines (drop at file) (absent line_feed (drop at file) e)

-- a field: from a position to the first comma, or to the end of the text
module _ (text : List ℕ) (from : ℕ) (within : from ≤ length text) where
  pub field_to : {i : ℕ} → Some i ≡ position (λ c. eqb c comma) (drop from text) → FieldEnd text from (from + i)
  field_to {i} s =
      let p = found comma (drop from text) s in
      let l = length-drop from text in
      let e : from + i - from ≡ i = omega arith in
      let f : from + (i + 1) ≡ from + i + 1 = omega arith in
      record {
        from = omega arith;
        within = omega (arith, p.0, p.1);
        splits =
            rw (le-leb from (length text) within, le-leb (from + i + 1) (length text) (omega (arith, p.0, p.1)))
            (split_first {split = fields_of} (record { on = λ c l. refl }) (drop from text) p.1
            ∙ ap (λ (k : ℕ). take k (drop from text) ∷ fields_of (drop (k + 1) (drop from text))) p.0
            ∙ rw e (ap (λ (l : List ℕ). take i (drop from text) ∷ fields_of l)
            (drop-drop (i + 1) from text ∙ ap (λ (k : ℕ). drop k text) f)));
      }

  pub last_field : None ≡ position (λ c. eqb c comma) (drop from text) → FieldEnd text from (length text)
  last_field e =
      record {
        from = within;
        within = omega arith;
        splits =
            rw (le-leb from (length text) within, lt-leb (length text + 1) (length text) (omega arith))
            (one_field (drop from text) (absent comma (drop from text) e) ∙ ap (λ (l : List ℕ). l ∷ [])
            (sym (take_all (length text - from) (drop from text) (simp length-drop (omega arith)))));
      }
