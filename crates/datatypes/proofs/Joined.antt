-- The normalized form of a text is its tokens with one #x20 between them. So two texts are one value of `token` exactly
-- when they have the same tokens.
use mathlib.Core.Path.{◌≡◌, refl, sym, ◌∙◌, ap}
use mathlib.Core.Bool.{Bool, true, false, cond}
use mathlib.Core.Logic.{◌↔◌}
use mathlib.Core.List.{List, [], ◌∷◌, ◌++◌}
use Prim.Native.Nat.{ℕ}
use native.Mathlib.Omega.{arith}
use Rattle.datatypes.specs.Whitespace.{space, whitespace, space_first, trim_start, trim_end}
use Rattle.datatypes.specs.Whitespace.{collapse, normalize_white_space, token_equal}
use Rattle.datatypes.specs.Split.{Token, prefixed, split}
use Rattle.datatypes.proofs.Normal.{blank, kept}
use Rattle.datatypes.proofs.Splits.{Tokens, tokens_none, tokens_more, split_tokens, split_trimmed}
use Rattle.datatypes.proofs.Splits.{Delimits, by_end, by_space, split_front, split_token, split_first}

-- one #x20 before each
abbrev pub behind : List (List ℕ) → List ℕ
behind [] = []
behind (t ∷ ts) = 0x20 ∷ t ++ behind ts

-- one #x20 between any two
abbrev pub joined : List (List ℕ) → List ℕ
joined [] = []
joined (t ∷ ts) = t ++ behind ts

joined_prefixed : (c : ℕ) (ts : List (List ℕ)) → joined (prefixed c ts) ≡ c ∷ joined ts
joined_prefixed c [] = refl
joined_prefixed c (t ∷ ts) = refl

blank_split : (s : List ℕ) → whitespace s ≡ true → split s ≡ []
blank_split [] e = refl
blank_split (c ∷ s) e = go (blank_split s) (space c) refl
  where
    go : (whitespace s ≡ true → split s ≡ []) → (b : Bool) → space c ≡ b → split (c ∷ s) ≡ []
    go ih true f = let g : whitespace s ≡ true = rw f at e in rw f (ih g)
    go ih false f = let g : false ≡ true = rw f at e in let z : ◌≡◌ {A = ℕ} 0 1 = cc in absurd (omega arith)

-- the collapsed form of a text, by whether whitespace comes first
abbrev formed : List ℕ → List ℕ
formed s = cond (space_first s) (behind (split s)) (joined (split s))

ended_first : (s : List ℕ) → whitespace s ≡ false → space_first (trim_end s) ≡ space_first s
ended_first [] w = refl
ended_first (c ∷ s) w = rw w

-- a whitespace character before something else leaves one #x20, unless another follows it
run_first : (c : ℕ) (s : List ℕ) → space c ≡ true → whitespace s ≡ false
    → collapse (trim_end (c ∷ s)) ≡ cond (space_first s) (collapse (trim_end s)) (0x20 ∷ collapse (trim_end s))
run_first c s e w = simp (e, w, ended_first s w)

behind_joined : (s : List ℕ) → whitespace s ≡ false
    → cond (space_first s) (formed s) (0x20 ∷ formed s) ≡ behind (split s)
behind_joined [] w = let z : ◌≡◌ {A = ℕ} 0 1 = cc in absurd (omega arith)
behind_joined (c ∷ s) w = go (space c) refl
  where
    go : (b : Bool) → space c ≡ b
        → cond (space_first (c ∷ s)) (formed (c ∷ s)) (0x20 ∷ formed (c ∷ s)) ≡ behind (split (c ∷ s))
    go true e = simp e
    go false e =
        let first = split_first c s e in
        let form : formed (c ∷ s) ≡ joined (split (c ∷ s)) = rw e refl in
        let runs : 0x20 ∷ joined (split (c ∷ s)) ≡ behind (split (c ∷ s)) = rw first.apart refl in
        rw e (rw e at runs)

collapsed : (s : List ℕ) → collapse (trim_end s) ≡ formed s
collapsed [] = refl
collapsed (c ∷ s) = go (collapsed s) (space c) (whitespace s) (space_first s) refl refl refl
  where
    go : collapse (trim_end s) ≡ formed s → (b w f : Bool) → space c ≡ b → whitespace s ≡ w
        → space_first s ≡ f → collapse (trim_end (c ∷ s)) ≡ formed (c ∷ s)
    go ih true true f e g i = blank c s e g ∙ rw (e, blank_split s g) refl
    go ih true false f e g i = run_first c s e g ∙ rw (ih, e) (behind_joined s g)
    go ih false w true e g i = kept c s e ∙ rw (ih, e, i) refl
    go ih false w false e g i = kept c s e ∙ rw (ih, e, i) (sym (joined_prefixed c (split s)))

trimmed_first : (s : List ℕ) → space_first (trim_start s) ≡ false
trimmed_first [] = refl
trimmed_first (c ∷ s) = go (trimmed_first s) (space c) refl
  where
    go : space_first (trim_start s) ≡ false → (b : Bool) → space c ≡ b → space_first (trim_start (c ∷ s)) ≡ false
    go ih true e = rw e ih
    go ih false e = simp e

pub normalized : (s : List ℕ) → normalize_white_space s ≡ joined (split s)
normalized s = collapsed (trim_start s) ∙ rw (trimmed_first s, split_trimmed s) refl

behind_delimits : (ts : List (List ℕ)) → Delimits (behind ts)
unfolding space
behind_delimits [] = by_end
behind_delimits (t ∷ ts) = by_space refl

split_behind : {ts : List (List ℕ)} → Tokens ts → split (behind ts) ≡ ts
unfolding space
split_behind tokens_none = refl
split_behind (tokens_more {t} {ts} k all) =
    split_front k (behind_delimits ts) ∙ ap (λ (l : List (List ℕ)). t ∷ l) (split_behind all)

-- joined tokens split into the same again
pub split_again : {ts : List (List ℕ)} → Tokens ts → split (joined ts) ≡ ts
split_again tokens_none = refl
split_again (tokens_more {t} {ts} k all) =
    split_front k (behind_delimits ts) ∙ ap (λ (l : List (List ℕ)). t ∷ l) (split_behind all)

split_normalized : (s : List ℕ) → split (normalize_white_space s) ≡ split s
split_normalized s = ap split (normalized s) ∙ split_again (split_tokens s)

pub same_tokens : (s t : List ℕ) → token_equal s t ↔ (split s ≡ split t)
same_tokens s t = (
  λ e. sym (split_normalized s) ∙ ap split e ∙ split_normalized t,
  λ e. normalized s ∙ ap joined e ∙ sym (normalized t),
)

-- a token is one value with the texts whose one token it is
pub one_token : {t : List ℕ} → Token t → (v : List ℕ) → token_equal t v ↔ (split v ≡ t ∷ [])
one_token {t} k v = (
  λ e. sym ((same_tokens t v).0 e) ∙ split_token k,
  λ e. (same_tokens t v).1 (split_token k ∙ sym e),
)
