-- Tests of what a pattern reaches through choice, group, interleave and oneOrMore, over the lookups.
use Prim.Native.Nat.{ℕ, zero, suc, ◌<◌}
use mathlib.Core.Path.{◌≡◌, refl, sym, ◌∙◌, ap, subst}
use mathlib.Core.Bool.{Bool, true, false, false≢true}
use native.Mathlib.Omega.{arith}
use Rattle.schema.specs.Views.{Pattern, empty, not_allowed, text, data_all, data_except, value, list}
use Rattle.schema.specs.Views.{attribute, ref, one_or_more, choice, group, interleave, no_pattern}
use Rattle.matching_rules.specs.Items.{Lookups}
use Rattle.matching_rules.specs.Reach.{Operand, repeated, choice_first, choice_second, group_first, group_second}
use Rattle.matching_rules.specs.Reach.{interleave_first, interleave_second, operand, Reaches, here, there}
use Rattle.matching_rules.specs.Restricted.{Restricted}

-- an operand passes the test
abbrev either : (ℕ → Bool) → ℕ → ℕ → Bool
either t p q = elim (t p) [ true ↦ true | false ↦ t q ]

abbrev operand_test : (ℕ → Bool) → Pattern → Bool
operand_test t empty = false
operand_test t not_allowed = false
operand_test t text = false
operand_test t (data_all d) = false
operand_test t (data_except d p) = false
operand_test t (value d k) = false
operand_test t (list p) = false
operand_test t (attribute nc p) = false
operand_test t (ref d) = false
operand_test t (one_or_more p) = t p
operand_test t (choice p q) = either t p q
operand_test t (group p q) = either t p q
operand_test t (interleave p q) = either t p q
operand_test t no_pattern = false

either_first : (t : ℕ → Bool) (p q : ℕ) → t p ≡ true → either t p q ≡ true
either_first t p q h = rw (h, either)

either_second : (t : ℕ → Bool) (p q : ℕ) → t q ≡ true → either t p q ≡ true
either_second t p q h = go (t p)
  where
    go : (b : Bool) → elim b [ true ↦ true | false ↦ t q ] ≡ true
    go true = refl
    go false = h

operand_test_lem : (t : ℕ → Bool) {r : ℕ} {x : Pattern} → Operand r x → t r ≡ true → operand_test t x ≡ true
operand_test_lem t repeated h = h
operand_test_lem t (choice_first {p = p} {q = q}) h = either_first t p q h
operand_test_lem t (choice_second {p = p} {q = q}) h = either_second t p q h
operand_test_lem t (group_first {p = p} {q = q}) h = either_first t p q h
operand_test_lem t (group_second {p = p} {q = q}) h = either_second t p q h
operand_test_lem t (interleave_first {p = p} {q = q}) h = either_first t p q h
operand_test_lem t (interleave_second {p = p} {q = q}) h = either_second t p q h

one_of : (t : ℕ → Bool) {x : Pattern} (p q : ℕ) → Operand p x → Operand q x
    → either t p q ≡ true → (r : ℕ) × Operand r x × (t r ≡ true)
one_of t {x} p q a b = go (t p) refl
  where
    go : (c : Bool) → t p ≡ c → elim c [ true ↦ true | false ↦ t q ] ≡ true → (r : ℕ) × Operand r x × (t r ≡ true)
    go true f h = (p, a, f)
    go false f h = (q, b, h)

test_operand : (t : ℕ → Bool) (x : Pattern) → operand_test t x ≡ true → (r : ℕ) × Operand r x × (t r ≡ true)
test_operand t empty h = absurd (false≢true h)
test_operand t not_allowed h = absurd (false≢true h)
test_operand t text h = absurd (false≢true h)
test_operand t (data_all d) h = absurd (false≢true h)
test_operand t (data_except d p) h = absurd (false≢true h)
test_operand t (value d k) h = absurd (false≢true h)
test_operand t (list p) h = absurd (false≢true h)
test_operand t (attribute nc p) h = absurd (false≢true h)
test_operand t (ref d) h = absurd (false≢true h)
test_operand t (one_or_more p) h = (p, repeated, h)
test_operand t (choice p q) h = one_of t p q choice_first choice_second h
test_operand t (group p q) h = one_of t p q group_first group_second h
test_operand t (interleave p q) h = one_of t p q interleave_first interleave_second h
test_operand t no_pattern h = absurd (false≢true h)

module _ (L : Lookups) (test : Pattern → Bool) where
  -- the pattern at row p, which is before n, is or reaches one that passes
  unfoldable pub reach_test : ℕ → ℕ → Bool
  reach_test zero p = false
  reach_test (suc n) p = elim (test (L.pattern p)) [ true ↦ true | false ↦ operand_test (reach_test n) (L.pattern p) ]

  pub test_reach : (n p : ℕ) → reach_test n p ≡ true → Reaches L test (L.pattern p)
  unfolding reach_test
  test_reach zero p h = absurd (false≢true h)
  test_reach (suc n) p h = go (test (L.pattern p)) refl h (test_reach n)
    where
      go : (b : Bool) → test (L.pattern p) ≡ b
          → elim b [ true ↦ true | false ↦ operand_test (reach_test n) (L.pattern p) ] ≡ true
          → ((r : ℕ) → reach_test n r ≡ true → Reaches L test (L.pattern r)) → Reaches L test (L.pattern p)
      go true f h rest = here f
      go false f h rest =
          let o = test_operand (reach_test n) (L.pattern p) h in
          there o.0 o.1 (rest o.0 o.2)

  module _ (R : Restricted L) where
    pub reach_test_lem : (n p : ℕ) {x : Pattern} → p < n → L.pattern p ≡ x → Reaches L test x → reach_test n p ≡ true
    unfolding reach_test
    reach_test_lem zero p l e h = absurd (omega arith)
    reach_test_lem (suc n) p l e (here h) = rw (ap test e ∙ h, reach_test)
    reach_test_lem (suc n) p {x} l e (there r o h) =
        go (test (L.pattern p))
        (reach_test_lem n r (let f = R.falls p r (operand (subst (Operand r) (sym e) o)) in omega arith) refl h)
      where
        go : (b : Bool) → reach_test n r ≡ true
            → elim b [ true ↦ true | false ↦ operand_test (reach_test n) (L.pattern p) ] ≡ true
        go true i = refl
        go false i = operand_test_lem (reach_test n) (subst (Operand r) (sym e) o) i
