-- Runs: the items of a set of positions among the positions i, i + 1, .., i + n - 1.
use Prim.Native.Nat.{ℕ, zero, suc, ◌+◌, ◌-◌, ◌≤◌}
use mathlib.Core.Path.{◌≡◌, refl, ap, sym, ◌∙◌}
use mathlib.Core.Bool.{Bool, true, false}
use mathlib.Core.List.{List, [], ◌∷◌, ◌++◌, nil≢cons, head-eq_of_cons-eq, tail-eq_of_cons-eq}
use native.Mathlib.Nat.{zero-add, suc-add, add-zero, add-suc}
use native.Mathlib.Omega.{arith}
use lib.ListN.{length, get_or}
use Rattle.matching_rules.specs.Spans.{added, run}

module _ {A : Type 0} where
  -- the members of a list that pass a test
  unfoldable pub kept : (A → Bool) → List A → List A
  kept P [] = []
  kept P (x ∷ l) = added (P x) x (kept P l)

  added_append : (b : Bool) (x : A) (l r : List A) → added b x (l ++ r) ≡ added b x l ++ r
  added_append true x l r = refl
  added_append false x l r = refl

  pub kept_append : (P : A → Bool) (l r : List A) → kept P (l ++ r) ≡ kept P l ++ kept P r
  unfolding kept
  kept_append P [] r = refl
  kept_append P (x ∷ l) r = rw (kept_append P l r) (added_append (P x) x _ _)

  pub run_add : (it : ℕ → A) (K : ℕ → Bool) (i n k : ℕ) → run it K i (n + k) ≡ run it K i n ++ run it K (i + n) k
  unfolding run
  run_add it K i zero k = rw (zero-add, add-zero)
  run_add it K i (suc n) k = rw (suc-add, add-suc, run_add it K (suc i) n k, suc-add) (added_append (K i) (it i) _ _)

  -- runs between positions join
  pub run_join : (it : ℕ → A) (K : ℕ → Bool) {i h j : ℕ} → i ≤ h → h ≤ j
      → run it K i (j - i) ≡ run it K i (h - i) ++ run it K h (j - h)
  run_join it K {i} {h} {j} a b =
      let e : j - i ≡ h - i + (j - h) = omega arith in
      let f : i + (h - i) ≡ h = omega arith in
      rw e (run_add it K i (h - i) (j - h) ∙ ap (λ (k : ℕ). run it K i (h - i) ++ run it K k (j - h)) f)

  -- a split of the items is a split of the positions
  record Split (it : ℕ → A) (K : ℕ → Bool) (i n : ℕ) (l r : List A) : Type 0 where
    h : ℕ
    k : ℕ
    whole : n ≡ h + k
    first : run it K i h ≡ l
    second : run it K (i + h) k ≡ r

  split_added : (it : ℕ → A) (K : ℕ → Bool) (i n : ℕ) (l r : List A) (b : Bool)
      → K i ≡ b → added b (it i) (run it K (suc i) n) ≡ l ++ r
      → ((l r : List A) → run it K (suc i) n ≡ l ++ r → Split it K (suc i) n l r) → Split it K i (suc n) l r
  unfolding run
  split_added it K i n l r false e p ih =
      let s = ih l r p in
      record {
        h = suc s.h;
        k = s.k;
        whole = ap suc s.whole ∙ sym (suc-add _ _);
        first = rw e s.first;
        second = rw (add-suc, ← suc-add) s.second;
      }
  split_added it K i n [] r true e p ih =
      record { h = 0; k = suc n; whole = sym (zero-add _); first = refl; second = rw (add-zero, e) p }
  split_added it K i n (x ∷ l) r true e p ih =
      let s = ih l r (tail-eq_of_cons-eq p) in
      record {
        h = suc s.h;
        k = s.k;
        whole = ap suc s.whole ∙ sym (suc-add _ _);
        first = rw (e, s.first) (ap (λ (y : A). y ∷ l) (head-eq_of_cons-eq p));
        second = rw (add-suc, ← suc-add) s.second;
      }

  split : (it : ℕ → A) (K : ℕ → Bool) (i n : ℕ) (l r : List A) → run it K i n ≡ l ++ r → Split it K i n l r
  unfolding run
  split it K i zero [] r p = record { h = 0; k = 0; whole = refl; first = refl; second = p }
  split it K i zero (x ∷ l) r p = absurd (nil≢cons p)
  split it K i (suc n) l r p = split_added it K i n l r (K i) refl p (split it K (suc i) n)

  pub record SplitAt (it : ℕ → A) (K : ℕ → Bool) (i j : ℕ) (l r : List A) : Type 0 where
    pub h : ℕ
    pub after : i ≤ h
    pub before : h ≤ j
    pub first : run it K i (h - i) ≡ l
    pub second : run it K h (j - h) ≡ r

  pub run_split : (it : ℕ → A) (K : ℕ → Bool) {i j : ℕ} (l r : List A)
      → i ≤ j → run it K i (j - i) ≡ l ++ r → SplitAt it K i j l r
  run_split it K {i} {j} l r a p =
      let s = split it K i (j - i) l r p in
      let w = s.whole in
      let e : i + s.h - i ≡ s.h = omega arith in
      let f : j - (i + s.h) ≡ s.k = omega arith in
      record {
        h = i + s.h;
        after = omega arith;
        before = omega arith;
        first = rw e s.first;
        second = rw f s.second;
      }

  run_shift : (it : ℕ → A) (K : ℕ → Bool) (i n : ℕ) → run it K (suc i) n ≡ run (λ k. it (suc k)) (λ k. K (suc k)) i n
  unfolding run
  run_shift it K i zero = refl
  run_shift it K i (suc n) = ap (added (K (suc i)) (it (suc i))) (run_shift it K (suc i) n)

  -- the run over a whole list, by a test on its members
  pub run_list : (P : A → Bool) (d : A) (l : List A)
      → run (λ k. get_or l k d) (λ k. P (get_or l k d)) 0 (length l) ≡ kept P l
  unfolding run kept
  run_list P d [] = refl
  run_list P d (x ∷ l) =
      ap (added (P x) x)
      (run_shift (λ k. get_or (x ∷ l) k d) (λ k. P (get_or (x ∷ l) k d)) 0 (length l) ∙ run_list P d l)
