-- Laws of split. Nothing here depends on which characters are whitespace.
use mathlib.Core.Path.{◌≡◌, refl, sym, ◌∙◌, ap}
use mathlib.Core.Bool.{Bool, true, false, cond}
use mathlib.Core.List.{List, [], ◌∷◌, ◌++◌, append-nil}
use Prim.Native.Nat.{ℕ}
use Rattle.datatypes.specs.Whitespace.{space, space_first, trim_start}
use Rattle.datatypes.specs.Split.{Token, token_last, token_more, prefixed, split}

pub data Tokens : List (List ℕ) → Type 0 where
  tokens_none : Tokens []
  tokens_more : {t : List ℕ} {ts : List (List ℕ)} → Token t → Tokens ts → Tokens (t ∷ ts)

prefixed_tokens : (c : ℕ) {ts : List (List ℕ)} → space c ≡ false → Tokens ts → Tokens (prefixed c ts)
prefixed_tokens c e tokens_none = tokens_more (token_last e) tokens_none
prefixed_tokens c e (tokens_more k all) = tokens_more (token_more e k) all

-- each string of split is not empty and has no whitespace in it
pub split_tokens : (s : List ℕ) → Tokens (split s)
split_tokens [] = tokens_none
split_tokens (c ∷ s) = go (split_tokens s) (space c) (space_first s) refl refl
  where
    go : Tokens (split s) → (b f : Bool) → space c ≡ b → space_first s ≡ f → Tokens (split (c ∷ s))
    go all true f e g = rw e all
    go all false true e g = rw (e, g) (tokens_more (token_last e) all)
    go all false false e g = rw (e, g) (prefixed_tokens c e all)

-- a whitespace character is passed over
pub split_skip : (c : ℕ) (s : List ℕ) → space c ≡ true → split (c ∷ s) ≡ split s
split_skip c s e = rw e

pub split_trimmed : (s : List ℕ) → split (trim_start s) ≡ split s
split_trimmed [] = refl
split_trimmed (c ∷ s) = go (split_trimmed s) (space c) refl
  where
    go : split (trim_start s) ≡ split s → (b : Bool) → space c ≡ b → split (trim_start (c ∷ s)) ≡ split (c ∷ s)
    go ih true e = rw e ih
    go ih false e = simp e

-- a text that ends, or has a whitespace character first
pub data Delimits : List ℕ → Type 0 where
  by_end : Delimits []
  by_space : {c : ℕ} {s : List ℕ} → space c ≡ true → Delimits (c ∷ s)

token_first : {t : List ℕ} → Token t → (rest : List ℕ) → space_first (t ++ rest) ≡ false
token_first (token_last e) rest = e
token_first (token_more e k) rest = e

split_more : (c : ℕ) (s : List ℕ) → space c ≡ false → space_first s ≡ false → split (c ∷ s) ≡ prefixed c (split s)
split_more c s e f = rw (e, f)

-- a token in front, up to what delimits it, is the first of split
pub split_front : {t rest : List ℕ} → Token t → Delimits rest → split (t ++ rest) ≡ t ∷ split rest
split_front (token_last e) by_end = simp e
split_front (token_last e) (by_space f) = simp (e, f)
split_front {rest = rest} (token_more {c} {t} e k) d =
    split_more c (t ++ rest) e (token_first k rest) ∙ ap (prefixed c) (split_front k d)

pub split_token : {t : List ℕ} → Token t → split t ≡ t ∷ []
split_token {t} k = ap split (sym (append-nil t)) ∙ split_front k by_end

-- a token comes first where a character stands that is no whitespace
pub record First (ts : List (List ℕ)) : Type 0 where
  pub head : List ℕ
  pub others : List (List ℕ)
  pub apart : ts ≡ head ∷ others

prefixed_first : (c : ℕ) (ts : List (List ℕ)) → First (prefixed c ts)
prefixed_first c [] = record { head = c ∷ []; others = []; apart = refl }
prefixed_first c (t ∷ ts) = record { head = c ∷ t; others = ts; apart = refl }

pub split_first : (c : ℕ) (s : List ℕ) → space c ≡ false → First (split (c ∷ s))
split_first c s e = go (space_first s) refl
  where
    go : (b : Bool) → space_first s ≡ b → First (split (c ∷ s))
    go true f = rw (e, f) (record { head = c ∷ []; others = split s; apart = refl })
    go false f = rw (e, f) (prefixed_first c (split s))

module _ (c : ℕ) (ts us vs : List (List ℕ)) (joined : ts ≡ us ++ vs) where
  prefixed_joined : First us → prefixed c ts ≡ prefixed c us ++ vs
  prefixed_joined r = rw (joined, r.apart)

  begun_joined : (b : Bool) → (b ≡ false → First us)
      → cond b ((c ∷ []) ∷ ts) (prefixed c ts) ≡ cond b ((c ∷ []) ∷ us) (prefixed c us) ++ vs
  begun_joined true r = rw joined
  begun_joined false r = prefixed_joined (r refl)

-- texts joined by a whitespace character
pub split_joined : (s t : List ℕ) (c : ℕ) → space c ≡ true → split (s ++ c ∷ t) ≡ split s ++ split t
split_joined [] t c e = rw e
split_joined (d ∷ []) t c e = go (space d) refl
  where
    go : (b : Bool) → space d ≡ b → split (d ∷ c ∷ t) ≡ split (d ∷ []) ++ split t
    go true f = simp (f, e)
    go false f = simp (f, e)
split_joined (d ∷ x ∷ s) t c e = go (split_joined (x ∷ s) t c e) (space d) refl
  where
    go : split (x ∷ s ++ c ∷ t) ≡ split (x ∷ s) ++ split t → (b : Bool)
        → space d ≡ b → split (d ∷ x ∷ s ++ c ∷ t) ≡ split (d ∷ x ∷ s) ++ split t
    go ih true f = rw f ih
    go ih false f =
        rw f (begun_joined d (split (x ∷ s ++ c ∷ t)) (split (x ∷ s)) (split t) ih (space x) (split_first x s))
