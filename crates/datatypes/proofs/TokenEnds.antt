-- What split finds from a position in a text on: whitespace is passed over, and then the token that begins there is
-- next.
use mathlib.Core.Path.{◌≡◌, refl, sym, ◌∙◌, ap, subst}
use mathlib.Core.Bool.{Bool, true, false, false≢true}
use mathlib.Core.List.{List, [], ◌∷◌, ◌++◌}
use Prim.Native.Nat.{ℕ, zero, suc, ◌+◌, ◌-◌, ◌<◌}
use native.Mathlib.Omega.{arith}
use lib.ListN.{length, take, drop, get_or, take-append-drop, length-drop, drop_of_length-le}
use lib.Seq.{drop-drop, get_or-drop}
use lib.Dec.{ltb}
use borrow.Author.Tests.{ltb-true, ltb-false}
use Rattle.tables.specs.Place.{between}
use Rattle.tables.proofs.Parts.{drop_one}
use Rattle.datatypes.specs.Whitespace.{space, trim_start}
use Rattle.datatypes.specs.Cursor.{Skips}
use Rattle.datatypes.specs.Split.{Token, token_last, token_more, split, TokenTo}
use Rattle.datatypes.proofs.Splits.{split_trimmed, Delimits, by_end, by_space, split_front}

-- the characters from the front on, up to the first whitespace
taken_token : (n : ℕ) (s : List ℕ) → 0 < n → 0 < length s
    → ((i : ℕ) → i < n → i < length s → space (get_or s i 0) ≡ false) → Token (take n s)
taken_token zero s h l all = absurd (omega arith)
taken_token (suc n) [] h l all = absurd (omega arith)
taken_token (suc zero) (c ∷ s) h l all = token_last (all 0 (omega arith) (omega arith))
taken_token (suc (suc n)) (c ∷ []) h l all = token_last (all 0 (omega arith) (omega arith))
taken_token (suc (suc n)) (c ∷ d ∷ s) h l all =
    token_more (all 0 (omega arith) (omega arith))
    (taken_token (suc n) (d ∷ s) (omega arith) (omega arith) (λ i j k. all (suc i) (omega arith) (omega arith)))

delimits_at : (s : List ℕ) (to : ℕ) → (to < length s → space (get_or s to 0) ≡ true) → Delimits (drop to s)
delimits_at s to ended = go (ltb to (length s)) refl
  where
    go : (b : Bool) → ltb to (length s) ≡ b → Delimits (drop to s)
    go true e = let h = ltb-true to (length s) e in rw (drop_one s to h) (by_space (ended h))
    go false e = rw (drop_of_length-le s (ltb-false to (length s) e)) by_end

module _ {s : List ℕ} {from to : ℕ} (k : TokenTo s from to)
    (h : from < length s) (begins : space (get_or s from 0) ≡ false) where
  pub token_onward : from < to
  token_onward = go (ltb from to) refl
    where
      go : (b : Bool) → ltb from to ≡ b → from < to
      go true e = ltb-true from to e
      go false e =
          let same : to ≡ from = omega (arith, ltb-false from to e, k.onward) in
          absurd (false≢true (sym begins ∙ subst (λ (i : ℕ). space (get_or s i 0) ≡ true) same (k.ended (omega arith))))

  pub token_between : Token (between s from to)
  token_between =
      let o = token_onward in
      taken_token (to - from) (drop from s) (omega arith) (simp length-drop (omega arith))
      (λ i l m. ap space (get_or-drop from s i 0) ∙ k.unbroken (from + i) (omega arith) (omega arith))

  -- the token is the first, and the others begin after it
  pub split_next : split (drop from s) ≡ between s from to ∷ split (drop to s)
  split_next =
      let o = token_onward in
      let back : from + (to - from) ≡ to = omega arith in
      let behind : drop (to - from) (drop from s)
      ≡ drop to s = drop-drop (to - from) from s ∙ ap (λ (i : ℕ). drop i s) back in
      let apart : between s from to ++ drop to s ≡ drop from s =
      ap (λ (l : List ℕ). between s from to ++ l) (sym behind) ∙ take-append-drop (to - from) (drop from s) in
      ap split (sym apart) ∙ split_front token_between (delimits_at s to k.ended)

-- past whitespace stand the same tokens
pub split_skips : {s : List ℕ} {from to : ℕ} → Skips s from to → split (drop from s) ≡ split (drop to s)
split_skips {s} {from} p = sym (ap split p.trimmed ∙ split_trimmed (drop from s))

trimmed_first : (s : List ℕ) (c : ℕ) (t : List ℕ) → trim_start s ≡ c ∷ t → space c ≡ false
trimmed_first [] c t e = let z : ◌≡◌ {A = ℕ} 0 1 = cc in absurd (omega arith)
trimmed_first (d ∷ s) c t e = go (trimmed_first s c t) (space d) refl
  where
    go : (trim_start s ≡ c ∷ t → space c ≡ false) → (b : Bool) → space d ≡ b → space c ≡ false
    go ih true f = ih (rw f at e)
    go ih false f = let same : d ∷ s ≡ c ∷ t = rw f at e in let first : d ≡ c = cc in ap space (sym first) ∙ f

-- and no whitespace character stands there
pub skips_stopped : {s : List ℕ} {from to : ℕ} → Skips s from to → to < length s → space (get_or s to 0) ≡ false
skips_stopped {s} {from} {to} p h =
    trimmed_first (drop from s) (get_or s to 0) (drop (to + 1) s) (sym p.trimmed ∙ drop_one s to h)
