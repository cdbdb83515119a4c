-- A run by its positions: its members, and when it is empty, one item, or strings alone.
use Prim.Native.Nat.{zero, ℕ, suc, ◌+◌, ◌-◌, ◌≤◌, ◌<◌}
use mathlib.Core.Path.{◌≡◌, refl, ap, ap₂, sym, ◌∙◌}
use mathlib.Core.Bool.{Bool, true, false, true≢false}
use mathlib.Core.List.{List, [], ◌∷◌, ◌++◌, cons≢nil, tail-eq_of_cons-eq}
use mathlib.Core.Logic.{◌↔◌}
use native.Mathlib.Omega.{arith}
use Rattle.matching_rules.specs.Items.{Item, element}
use Rattle.tables.proofs.Booleans.{is_false}
use Rattle.matching_rules.specs.Spans.{added, run}
use Rattle.matching_rules.proofs.Runs.{run_add}
use Rattle.matching_rules.proofs.Sequences.{Among, first, later, among_right, nothing_among}
use Rattle.matching_rules.proofs.Sequences.{has_element, element_among, among_element}

not_nil : (l : List Item) (x : Item) (r : List Item) → ¬ (l ++ x ∷ r ≡ [])
not_nil [] x r e = cons≢nil e
not_nil (y ∷ l) x r e = cons≢nil e

one_part : (l : List Item) (x : Item) (r : List Item) {y : Item} → l ++ x ∷ r ≡ y ∷ [] → (l ≡ []) × (r ≡ [])
one_part [] x r e = (refl, tail-eq_of_cons-eq e)
one_part (z ∷ l) x r e = absurd (not_nil l x r (tail-eq_of_cons-eq e))

module _ (it : ℕ → Item) (K : ℕ → Bool) where
  -- y stands at a position of K in [i, j)
  pub record At (i j : ℕ) (y : Item) : Type 0 where
    pub place : ℕ
    pub after : i ≤ place
    pub before : place < j
    pub member : K place ≡ true
    pub item : it place ≡ y

  pub among_run : {y : Item} (i n : ℕ) → Among y (run it K i n) → At i (i + n) y
  unfolding run
  among_run {y = y} i zero h = elim h [ ]
  among_run {y} i (suc n) h = go (K i) refl h (among_run (suc i) n)
    where
      wider : At (suc i) (suc i + n) y → At i (i + suc n) y
      wider a =
          let l = a.after in
          let u = a.before in
          record { place = a.place; after = omega arith; before = omega arith; member = a.member; item = a.item }

      go : (b : Bool) → K i ≡ b → Among y (added b (it i) (run it K (suc i) n))
          → (Among y (run it K (suc i) n) → At (suc i) (suc i + n) y) → At i (i + suc n) y
      go true e (first f) rest = record { place = i; after = omega arith; before = omega arith; member = e; item = f }
      go true e (later h) rest = wider (rest h)
      go false e h rest = wider (rest h)

  pub run_one : (k : ℕ) → K k ≡ true → run it K k 1 ≡ it k ∷ []
  unfolding run
  run_one k e = rw e

  -- the run around one of its positions
  around : {i j : ℕ} (k : ℕ) → i ≤ k → k < j → K k ≡ true
      → run it K i (j - i) ≡ run it K i (k - i) ++ it k ∷ run it K (suc k) (j - suc k)
  around {i} {j} k a b e =
      let u : j - i ≡ k - i + (1 + (j - suc k)) = omega arith in
      let v : i + (k - i) ≡ k = omega arith in
      let w : k + 1 ≡ suc k = omega arith in
      rw (u, run_add it K i (k - i) (1 + (j - suc k)), v, run_add it K k 1 (j - suc k), w, run_one k e)

  pub among_between : {i j : ℕ} {y : Item} → i ≤ j → Among y (run it K i (j - i)) ↔ At i j y
  among_between {i} {j} {y} l = (to, from)
    where
      to : Among y (run it K i (j - i)) → At i j y
      to h = let e : i + (j - i) ≡ j = omega arith in rw e at (among_run i (j - i) h)

      from : At i j y → Among y (run it K i (j - i))
      from a =
          rw (around a.place a.after a.before a.member)
          (among_right (run it K i (a.place - i)) (first a.item))

  pub run_empty : {i j : ℕ} → i ≤ j → (run it K i (j - i) ≡ []) ↔ ((k : ℕ) → i ≤ k → k < j → K k ≡ false)
  run_empty {i} {j} l = (
    λ e k a b. is_false (K k)
        (λ h. not_nil (run it K i (k - i)) (it k) (run it K (suc k) (j - suc k)) (sym (around k a b h) ∙ e)),
    λ f. nothing_among (run it K i (j - i)) (λ y h.
        let a = (among_between l).0 h in true≢false (sym a.member ∙ f a.place a.after a.before)),
  )

  -- and at no other is an item
  pub record AloneAt (i j : ℕ) (y : Item) : Type 0 where
    pub at : At i j y
    pub alone : (k : ℕ) → i ≤ k → k < j → K k ≡ true → k ≡ at.place

  pub run_single : {i j : ℕ} (y : Item) → i ≤ j → (run it K i (j - i) ≡ y ∷ []) ↔ AloneAt i j y
  run_single {i} {j} y l = (to, from)
    where
      to : run it K i (j - i) ≡ y ∷ [] → AloneAt i j y
      to e =
          let a = (among_between {y = y} l).0 (rw e (first refl)) in
          let z = one_part (run it K i (a.place - i)) (it a.place) (run it K (suc a.place) (j - suc a.place))
          (sym (around a.place a.after a.before a.member) ∙ e) in
          record {
            at = a;
            alone = λ k b c h.
                let f : ¬ (k < a.place) = (λ x. true≢false (sym h ∙ (run_empty a.after).0 z.0 k b x)) in
                let g : ¬ (a.place < k) = (λ x. true≢false (sym h ∙ (run_empty a.before).0 z.1 k x c)) in
                omega arith;
          }

      from : AloneAt i j y → run it K i (j - i) ≡ y ∷ []
      from r =
          let a = r.at in
          let u = a.after in
          let v = a.before in
          let f = (run_empty u).1
          (λ k b c. is_false (K k) (λ h. let z = r.alone k b (omega arith) h in absurd (omega arith))) in
          let g = (run_empty v).1
          (λ k b c. is_false (K k) (λ h. let z = r.alone k (omega arith) c h in absurd (omega arith))) in
          around a.place u v a.member ∙ ap₂ (λ (l r : List Item). l ++ it a.place ∷ r) f g
          ∙ ap (λ (x : Item). x ∷ []) a.item

  pub run_strings : {i j : ℕ} → i ≤ j
      → (has_element (run it K i (j - i)) ≡ false) ↔ ((k e : ℕ) → i ≤ k → k < j → K k ≡ true → ¬ (it k ≡ element e))
  run_strings {i} {j} l = (to, from)
    where
      to : has_element (run it K i (j - i)) ≡ false → (k e : ℕ) → i ≤ k → k < j → K k ≡ true → ¬ (it k ≡ element e)
      to f k e a b h x =
          true≢false (sym
          (among_element ((among_between l).1 (record { place = k; after = a; before = b; member = h; item = x }))) ∙ f)

      from : ((k e : ℕ) → i ≤ k → k < j → K k ≡ true → ¬ (it k ≡ element e)) → has_element (run it K i (j - i)) ≡ false
      from f =
          is_false (has_element (run it K i (j - i))) (λ h.
          let x = element_among (run it K i (j - i)) h in
          let a = (among_between l).0 x.1 in
          f a.place x.0 a.after a.before a.member a.item)
