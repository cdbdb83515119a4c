-- Whether a string alone matches a plain pattern is decided, and so whether a leaf of a list takes a token.
use mathlib.Core.Path.{◌≡◌, refl}
use mathlib.Core.Bool.{Bool, decide, decide_iff}
use mathlib.Core.Logic.{◌⊎◌, inl, inr, ◌↔◌, ⊎_elim}
use mathlib.Core.List.{List, [], ◌∷◌}
use Prim.Native.Nat.{ℕ}
use Rattle.schema.specs.Views.{Pattern}
use Rattle.matching_rules.specs.Items.{string, no_attributes, Lookups}
use Rattle.matching_rules.specs.Rules.{Matches, NotMatchBy, choice_1, choice_2, value, data_1, data_2}
use Rattle.matching_rules.specs.Restricted.{Restricted, Plain, plain_not_allowed, plain_value}
use Rattle.matching_rules.specs.Restricted.{plain_data, plain_except, plain_choice}
use Rattle.matching_rules.proofs.Inversion.{the_one, step}
use Rattle.matching_rules.proofs.Strata.{not_match}
use Rattle.matching_tokens.specs.Marked.{TakesRight}

-- a decision of what holds with another
decide_as : {A B : Type 0} → A ↔ B → Dec A → Dec B
decide_as f (yes a) = yes (f.0 a)
decide_as f (no n) = no (λ b. n (f.1 b))

not_decided : {A : Type 0} → Dec A → Dec (¬ A)
not_decided (yes a) = no (λ n. n a)
not_decided (no n) = yes n

either_decided : {A B : Type 0} → Dec A → Dec B → Dec (A ⊎ B)
either_decided (yes a) d = yes (inl a)
either_decided (no n) (yes b) = yes (inr b)
either_decided (no n) (no k) = no (λ e. ⊎_elim n k e)

-- datatypeEqual is decided
abbrev pub EqualDecided : Lookups → Type 0
EqualDecided L = (t : ℕ) (s₁ s₂ : List ℕ) → Dec (L.Equal t s₁ s₂)

module _ {L : Lookups} (R : Restricted L) (equal : EqualDecided L) where
  -- the string alone, with no attributes
  abbrev MatchesOne : List ℕ → Pattern → Type 0
  MatchesOne s x = Matches L no_attributes (string s ∷ []) x

  pub plain_decided : {x : Pattern} → Plain L x → (r : ℕ) → L.pattern r ≡ x → (s : List ℕ) → Dec (MatchesOne s x)
  plain_decided plain_not_allowed r e s = no (λ d. step L (NotMatchBy L L.rows) d)
  plain_decided plain_data r e s = yes data_1
  plain_decided (plain_value {t = t} {k = k}) r e s =
      decide_as (value, λ d. the_one (λ u. L.Equal t u (L.text k)) s (step L (NotMatchBy L L.rows) d).1)
      (equal t s (L.text k))
  plain_decided (plain_except {t = t} {p = p} i) r e s =
      decide_as (
        λ n. data_2 ((not_match R r t p e s).1 n),
        λ d. (not_match R r t p e s).0
            (the_one (λ u. NotMatchBy L L.rows u p) s (step L (NotMatchBy L L.rows) d).1),
      ) (not_decided (plain_decided i p refl s))
  plain_decided (plain_choice {p₁ = p} {p₂ = q} i j) r e s =
      decide_as (λ d. ⊎_elim choice_1 choice_2 d, λ d. step L (NotMatchBy L L.rows) d)
      (either_decided (plain_decided i p refl s) (plain_decided j q refl s))

  -- the strings that match the plain pattern at a row
  pub takes_at : (r : ℕ) → Plain L (L.pattern r) → List ℕ → Bool
  takes_at r i s = decide (plain_decided i r refl s)

  pub takes_right : (r : ℕ) (i : Plain L (L.pattern r))
      → TakesRight L (NotMatchBy L L.rows) (takes_at r i) (L.pattern r)
  unfolding takes_at
  takes_right r i s = decide_iff (plain_decided i r refl s)
