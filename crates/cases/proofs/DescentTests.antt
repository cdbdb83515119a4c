-- Tests of what is below a row, and of what occurs in a pattern.
use Prim.Native.Nat.{ℕ, zero, suc, ◌<◌}
use mathlib.Core.Path.{◌≡◌, refl, ◌∙◌, ap}
use mathlib.Core.Bool.{Bool, true, false, false≢true}
use mathlib.Core.List.{List}
use native.Mathlib.Omega.{arith}
use Rattle.schema.specs.Rows.{kind_of, a_of, b_of, names_a, names_b}
use Rattle.schema.specs.Relations.{Child, by_a, by_b, Below, child, deeper, connective, Occurs, itself, within}
use Rattle.schema.proofs.Children.{child_less}
use Rattle.cases.proofs.Tests.{guarded, unguarded}

module _ (s : List ℕ) where
  abbrev via_a : (ℕ → Bool) → ℕ → Bool
  via_a t p = elim (names_a s p) [ true ↦ t (a_of s p) | false ↦ false ]

  abbrev via_b : (ℕ → Bool) → ℕ → Bool
  via_b t p = elim (names_b s p) [ true ↦ t (b_of s p) | false ↦ false ]

  -- a child of p passes the test
  unfoldable pub child_test : (ℕ → Bool) → ℕ → Bool
  child_test t p = elim (via_a t p) [ true ↦ true | false ↦ via_b t p ]

  pub child_test_lem : (t : ℕ → Bool) {p q : ℕ} → Child s q p → t q ≡ true → child_test t p ≡ true
  unfolding child_test
  child_test_lem t {p} (by_a n e) h = rw (guarded (names_a s p) n (ap t e ∙ h), child_test)
  child_test_lem t {p} (by_b n e) h = go (via_a t p)
    where
      go : (b : Bool) → elim b [ true ↦ true | false ↦ via_b t p ] ≡ true
      go true = refl
      go false = guarded (names_b s p) n (ap t e ∙ h)

  pub test_child : (t : ℕ → Bool) {p : ℕ} → child_test t p ≡ true → (q : ℕ) × Child s q p × (t q ≡ true)
  unfolding child_test
  test_child t {p} = go (via_a t p) refl
    where
      go : (b : Bool) → via_a t p ≡ b
          → elim b [ true ↦ true | false ↦ via_b t p ] ≡ true → (q : ℕ) × Child s q p × (t q ≡ true)
      go true f e = let u = unguarded (names_a s p) (t (a_of s p)) f in (a_of s p, by_a u.0 refl, u.1)
      go false f e = let u = unguarded (names_b s p) (t (b_of s p)) e in (b_of s p, by_b u.0 refl, u.1)

  -- p passes, or a row that is reached from p through rows of the kinds that a gate lets through, in fewer than n steps
  unfoldable pub inside_test : (ℕ → Bool) → (ℕ → Bool) → ℕ → ℕ → Bool
  inside_test gate t zero p = false
  inside_test gate t (suc n) p =
      elim (t p) [
        | true ↦ true
        | false ↦ elim (gate (kind_of s p)) [ true ↦ child_test (inside_test gate t n) p | false ↦ false ]
      ]

  abbrev any : ℕ → Bool
  any k = true

  inside_here : (gate t : ℕ → Bool) (n p : ℕ) → t p ≡ true → inside_test gate t (suc n) p ≡ true
  unfolding inside_test
  inside_here gate t n p h = rw (h, inside_test)

  inside_child : (gate t : ℕ → Bool) (n : ℕ) {p q : ℕ} → gate (kind_of s p) ≡ true
      → Child s q p → inside_test gate t n q ≡ true → inside_test gate t (suc n) p ≡ true
  unfolding inside_test
  inside_child gate t n {p} g c h = go (t p)
    where
      go : (b : Bool) → elim b [
        | true ↦ true
        | false ↦ elim (gate (kind_of s p)) [ true ↦ child_test (inside_test gate t n) p | false ↦ false ]
      ] ≡ true
      go true = refl
      go false = guarded (gate (kind_of s p)) g (child_test_lem (inside_test gate t n) c h)

  pub occurs_test : (t : ℕ → Bool) (n : ℕ) {r p : ℕ} → p < n
      → Occurs s r p → t r ≡ true → inside_test connective t n p ≡ true
  occurs_test t zero l o h = absurd (omega arith)
  occurs_test t (suc n) {r} l itself h = inside_here connective t n r h
  occurs_test t (suc n) l (within g c o) h =
      inside_child connective t n g c (occurs_test t n (let f = child_less c in omega arith) o h)

  pub test_occurs : (t : ℕ → Bool) (n p : ℕ) → inside_test connective t n p ≡ true
      → (r : ℕ) × Occurs s r p × (t r ≡ true)
  unfolding inside_test
  test_occurs t zero p e = absurd (false≢true e)
  test_occurs t (suc n) p e = go (t p) refl (connective (kind_of s p)) refl e (test_occurs t n)
    where
      go : (b : Bool) → t p ≡ b → (g : Bool) → connective (kind_of s p) ≡ g
          → elim b [ true ↦ true | false ↦ elim g [ true ↦ child_test (inside_test connective t n) p | false ↦ false ] ]
          ≡ true
          → ((q : ℕ) → inside_test connective t n q ≡ true → (r : ℕ) × Occurs s r q × (t r ≡ true))
          → (r : ℕ) × Occurs s r p × (t r ≡ true)
      go true h g f e rest = (p, itself, h)
      go false h true f e rest =
          let c = test_child (inside_test connective t n) e in
          let x = rest c.0 c.2 in
          (x.0, within f c.1 x.1, x.2)
      go false h false f e rest = absurd (false≢true e)

  -- a row below p passes; n bounds the depth
  abbrev pub below_test : (ℕ → Bool) → ℕ → ℕ → Bool
  below_test t n p = child_test (inside_test any t n) p

  pub below_test_lem : (t : ℕ → Bool) (n : ℕ) {r p : ℕ} → p < suc n → Below s r p → t r ≡ true → below_test t n p ≡ true
  below_test_lem t zero l (child c) h = let f = child_less c in absurd (omega arith)
  below_test_lem t zero l (deeper c b) h = let f = child_less c in absurd (omega arith)
  below_test_lem t (suc n) {r} l (child c) h = child_test_lem (inside_test any t (suc n)) c (inside_here any t n r h)
  below_test_lem t (suc n) l (deeper {q = q} c b) h =
      let f = child_less c in
      let u = test_child (inside_test any t n) (below_test_lem t n (omega arith) b h) in
      child_test_lem (inside_test any t (suc n)) c (inside_child any t n refl u.1 u.2)

  reach : (t : ℕ → Bool) (n q : ℕ) {p : ℕ} → Child s q p
      → inside_test any t n q ≡ true → (r : ℕ) × Below s r p × (t r ≡ true)
  unfolding inside_test
  reach t zero q c e = absurd (false≢true e)
  reach t (suc n) q {p} c e = go (t q) refl e (λ x y c e. reach t n x c e)
    where
      go : (b : Bool) → t q ≡ b → elim b [ true ↦ true | false ↦ child_test (inside_test any t n) q ] ≡ true
          → ((x y : ℕ) → Child s x y → inside_test any t n x ≡ true → (r : ℕ) × Below s r y × (t r ≡ true))
          → (r : ℕ) × Below s r p × (t r ≡ true)
      go true h e rest = (q, child c, h)
      go false h e rest =
          let d = test_child (inside_test any t n) e in
          let x = rest d.0 q d.1 d.2 in
          (x.0, deeper c x.1, x.2)

  pub test_below : (t : ℕ → Bool) (n p : ℕ) → below_test t n p ≡ true → (r : ℕ) × Below s r p × (t r ≡ true)
  test_below t n p e = let c = test_child (inside_test any t n) e in reach t n c.0 c.1 c.2
