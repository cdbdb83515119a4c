-- One more row among the definitions.
use Prim.Native.Nat.{ℕ, ◌+◌, ◌≤◌, ◌<◌}
use mathlib.Core.Path.{◌≡◌, refl, sym, ◌∙◌, ap, subst}
use mathlib.Core.Bool.{Bool, true, false, cond, false≢true}
use mathlib.Core.List.{List}
use mathlib.Core.Logic.{◌⊎◌, inl, inr, ⊎_elim, ◌≢◌}
use native.Mathlib.Nat.{eq-or-lt_of_le}
use native.Mathlib.Omega.{arith}
use lib.ListN.{length, get_or, set, take, drop, length-set}
use lib.Seq.{get_or-set_same, get_or-set_other, get_or-take, length-take-le, drop-set-lt, drop-drop}
use Rattle.tables.proofs.Booleans.{is_false}
use Rattle.schema.specs.Kinds as kind
use Rattle.schema.specs.Rows.{kind_of, shape_of, is_element}
use Rattle.schema.proofs.Sorts.{definition_kind}
use Rattle.schema.specs.Definitions.{is_definition, DefinitionsBefore, Definitions}

module _ {s words : List ℕ} {n d : ℕ} (c : DefinitionsBefore s words n d) where
  -- d is none: no word is stored
  passed : is_definition s d ≡ false → DefinitionsBefore s words n (d + 1)
  passed e = record {
    few = let i = c.few in omega arith;
    rows = λ k h. let i = c.rows k h in omega arith;
    defined = c.defined;
    rising = c.rising;
    every = λ x h f. ⊎_elim (λ (z : x ≡ d). absurd (false≢true (sym e ∙ sym (ap (is_definition s) z) ∙ f)))
        (λ (l : x < d). c.every x l f) (eq-or-lt_of_le (omega arith));
  }

  module _ (room : n < length words) where
    -- the words before n are as they were
    before : (k : ℕ) → k < n → get_or (set words n d) k 0 ≡ get_or words k 0
    before k h = get_or-set_other words n k d 0 (λ z. omega arith)

    here : get_or (set words n d) n 0 ≡ d
    here = get_or-set_same words n d 0 room

    -- what holds of the first n words, and of d, holds of the first n + 1
    first_more : (P : ℕ → Type 0) → ((k : ℕ) → k < n → P (get_or words k 0))
        → P d → (k : ℕ) → k < n + 1 → P (get_or (set words n d) k 0)
    first_more P f x k h =
        ⊎_elim (λ (e : k ≡ n). subst P (sym (ap (λ (i : ℕ). get_or (set words n d) i 0) e ∙ here)) x)
        (λ (l : k < n). subst P (sym (before k l)) (f k l)) (eq-or-lt_of_le (omega arith))

    -- d is a definition
    taken : is_definition s d ≡ true → DefinitionsBefore s (set words n d) (n + 1) (d + 1)
    taken e = record {
      few = let i = c.few in omega arith;
      rows = first_more (λ x. x < d + 1) (λ k h. let i = c.rows k h in omega arith) (omega arith);
      defined = first_more (λ x. is_definition s x ≡ true) c.defined e;
      rising = λ j k i h. go j k i (eq-or-lt_of_le (omega arith));
      every = λ x h f. ⊎_elim (λ (z : x ≡ d). (n, omega arith, here ∙ sym z)) (λ (l : x < d). let r = c.every x l f in
          let i = r.1 in (r.0, omega arith, before r.0 r.1 ∙ r.2)) (eq-or-lt_of_le (omega arith));
    }
      where
        go : (j k : ℕ) → j < k → (k ≡ n) ⊎ (k < n) → get_or (set words n d) j 0 < get_or (set words n d) k 0
        go j k i (inl z) =
            let x = ap (λ (m : ℕ). get_or (set words n d) m 0) z ∙ here in
            let y = before j (omega arith) in
            let l = c.rows j (omega arith) in
            omega arith
        go j k i (inr h) =
            let x = before k h in
            let y = before j (omega arith) in
            let l = c.rising j k i h in
            omega arith

    -- the words after the definitions are as they were before the first of them was stored
    module _ (words₀ : List ℕ) (rest : drop n words ≡ drop n words₀) where
      rest_more : drop (n + 1) (set words n d) ≡ drop (n + 1) words₀
      rest_more =
          drop-set-lt (n + 1) words n d (omega arith)
          ∙ sym (drop-drop 1 n words) ∙ ap (drop 1) rest ∙ drop-drop 1 n words₀

      pub definitions_more : {m : ℕ} {after : List ℕ} → m ≡ n + cond (is_definition s d) 1 0
          → after ≡ cond (is_definition s d) (set words n d) words
          → (length after ≡ length words) × DefinitionsBefore s after m (d + 1) × (drop m after ≡ drop m words₀)
      definitions_more {m} {after} e f = go (is_definition s d) refl
        where
          go : (b : Bool) → is_definition s d ≡ b
              → (length after ≡ length words) × DefinitionsBefore s after m (d + 1) × (drop m after ≡ drop m words₀)
          go true g =
              let y : m ≡ n + 1 = e ∙ rw g in
              let z : after ≡ set words n d = f ∙ rw g in
              rw (y, z) (length-set words n d, taken g, rest_more)
          go false g =
              let y : m ≡ n = e ∙ rw g (omega arith) in
              let z : after ≡ words = f ∙ rw g in
              rw (y, z) (refl, passed g, rest)

-- a definition is a row of kind element
pub is_definition_lem : (s : List ℕ) (d : ℕ) → kind_of s d ≡ kind.element → is_definition s d ≡ true
unfolding shape_of
is_definition_lem s d e = subst (λ (k : ℕ). is_element (shape_of k).sort ≡ true) (sym e) refl

pub no_definition : (s : List ℕ) (d : ℕ) → kind_of s d ≢ kind.element → is_definition s d ≡ false
no_definition s d f = is_false (is_definition s d) (λ e. f (definition_kind s d e))

-- the definitions as a list of their own
pub definitions_part : {s words : List ℕ} {n : ℕ} → n ≤ length words
    → Definitions s words n → Definitions s (take n words) (length (take n words))
definitions_part {s} {words} {n} l d = rw (length-take-le n words l) (record {
  few = d.few;
  rows = λ k h. rw (get_or-take n words k 0 h) (d.rows k h);
  defined = λ k h. rw (get_or-take n words k 0 h) (d.defined k h);
  rising = λ j k i h. rw (get_or-take n words j 0 (omega arith), get_or-take n words k 0 h) (d.rising j k i h);
  every = λ x m h. let i = d.every x m h in (i.0, i.1, get_or-take n words i.0 0 i.1 ∙ i.2);
})
