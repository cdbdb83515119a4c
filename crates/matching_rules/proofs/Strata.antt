-- The negative premise of (data 2) by strata is the literal `not` of the rules, where the schema is restricted.
use mathlib.Core.Path.{◌≡◌, sym, ◌∙◌, subst}
use mathlib.Core.Logic.{◌↔◌}
use mathlib.Core.List.{List, [], ◌∷◌}
use Prim.Native.Nat.{ℕ, zero, suc, ◌<◌}
use native.Mathlib.Omega.{arith}
use native.Mathlib.Decide.{dec_lt}
use Rattle.tables.proofs.Numbers.{not_less}
use Rattle.schema.specs.Views.{Pattern, data_except, no_pattern}
use Rattle.matching_rules.specs.Items.{Item, string, Attributes, no_attributes, Lookups}
use Rattle.matching_rules.specs.Rules.{Match, choice_1, choice_2, value, data_1, data_2, NotMatchBy, Matches}
use Rattle.matching_rules.specs.Reach.{Subpattern, operand, choice_first, choice_second, of_except}
use Rattle.matching_rules.specs.Restricted.{plain_not_allowed, Restricted, Plain, plain_value}
use Rattle.matching_rules.specs.Restricted.{plain_data, plain_except, plain_choice}

module _ {L : Lookups} (R : Restricted L) where
  -- a match of a plain pattern whose parts are before b uses negative premises at plain rows before b alone
  change :
      (N M : List ℕ → ℕ → Type 0) (b : ℕ) → ((s : List ℕ) (r : ℕ) → Plain L (L.pattern r) → r < b → N s r → M s r)
      → {a : Attributes} {m : List Item} {x : Pattern} → Plain L x
      → ((q : ℕ) → Subpattern q x → q < b) → Match L N a m x → Match L M a m x
  change N M b h {a = a} {m = m} plain_not_allowed l x7 = elim x7 [ ]
  change N M b h plain_value l (value e) = value e
  change N M b h plain_data l data_1 = data_1
  change N M b h (plain_except {p = p} k) l (data_2 {s = s} n) = data_2 (h s p k (l p of_except) n)
  change N M b h (plain_choice {p₁ = p} k₁ k₂) l (choice_1 d) =
      choice_1 (change N M b h k₁
      (λ q i. let f = R.falls p q i in let g = l p (operand choice_first) in omega arith) d)
  change N M b h (plain_choice {p₂ = p} k₁ k₂) l (choice_2 d) =
      choice_2 (change N M b h k₂
      (λ q i. let f = R.falls p q i in let g = l p (operand choice_second) in omega arith) d)

  -- the strata agree from a row's own number on
  agree : (n q : ℕ) → q < n → Plain L (L.pattern q) → (s : List ℕ)
      → NotMatchBy L n s q ↔ ¬ Match L (NotMatchBy L n) no_attributes (string s ∷ []) (L.pattern q)
  unfolding NotMatchBy
  agree zero q l k s = absurd (omega arith)
  agree (suc n) q l k s = (
    λ h d. h (change (NotMatchBy L (suc n)) (NotMatchBy L n) q
        (λ s₁ r p i. (agree n r (omega arith) p s₁).1) k (R.falls q) d),
    λ h d. h (change (NotMatchBy L n) (NotMatchBy L (suc n)) q
        (λ s₁ r p i. (agree n r (omega arith) p s₁).0) k (R.falls q) d),
  )

  except_row : (p d q : ℕ) → L.pattern p ≡ data_except d q → q < L.rows
  except_row p d q e = go (dec_lt p L.rows)
    where
      go : Dec (p < L.rows) → q < L.rows
      go (yes h) = let f = R.falls p q (subst (Subpattern q) (sym e) of_except) in omega arith
      go (no h) =
          let clash : no_pattern ≡ data_except d q = sym (R.bounded p (not_less h)) ∙ e in
          let z : ◌≡◌ {A = ℕ} 0 1 = cc in
          absurd (omega arith)

  pub not_match : (p d q : ℕ) → L.pattern p ≡ data_except d q → (s : List ℕ)
      → NotMatchBy L L.rows s q ↔ ¬ Matches L no_attributes (string s ∷ []) (L.pattern q)
  not_match p d q e s = agree L.rows q (except_row p d q e) (R.excepts p d q e) s
