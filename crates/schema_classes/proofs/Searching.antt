-- The numbers to try in rising order: the fresh number, the next one, and what is known of those passed.
use Prim.Native.Nat.{ℕ, ◌+◌, ◌≤◌, ◌<◌}
use mathlib.Core.Path.{◌≡◌}
use mathlib.Core.Logic.{inl, inr, ⊎_elim}
use native.Mathlib.Decide.{dec_lt, ℕ_discrete}
use native.Mathlib.Omega.{arith}
use borrow.Author.Count.{below_more}
use Rattle.tables.specs.Answers.{Clear}
use Rattle.schema_classes.specs.Made.{Fresh, KnownOrFresh, known, fresh}
use Rattle.schema_classes.specs.Search.{no_number, NextNumber, FreshNumber}

-- the search for the fresh number has come to x
pub record Counting (P : ℕ → Type 0) (first x : ℕ) : Type 0 where
  pub low : first ≤ x
  pub least : (v : ℕ) → first ≤ v → v < x → P v

-- where the next number is the one asked from on, it has P
pub next_here : {P : ℕ → Type 0} {x r : ℕ} → NextNumber P x r → x < no_number → r ≡ x → P x
next_here {P} {x} {r} n l e = ⊎_elim (λ f. absurd (omega arith)) (λ y. rw e at y.1) n.is

-- the search goes up
pub next_more : {P : ℕ → Type 0} {n r : ℕ} → NextNumber P (n + 1) r → n < no_number → n < r
next_more n l = ⊎_elim (λ e. omega arith) (λ y. omega (arith, y.0)) n.is

module _ {P : ℕ → Type 0} {first : ℕ} where
  pub counting_start : {x : ℕ} → x ≡ first → Counting P first x
  counting_start e = record { low = omega arith; least = λ v l h. absurd (omega arith) }

  pub counting_step : {x : ℕ} → Counting P first x → P x → Counting P first (x + 1)
  counting_step {x} a p = record {
    low = omega (arith, a.low);
    least = λ v h k. below_more (λ v. first ≤ v → P v) x (λ v i j. a.least v j i) (λ _. p) v k h;
  }

  pub counting_done : {x r : ℕ} → Counting P first x → NextNumber P x r → x < no_number → ¬ (r ≡ x)
      → FreshNumber P first x
  counting_done {x} {r} a n l e = record {
    is = record { low = a.low; new = λ p. e (here p); least = a.least };
    small = l;
    fits = n.fits;
  }
    where
      here : P x → r ≡ x
      here p = ⊎_elim (λ f. absurd (omega (arith, n.lower x (omega arith) p)))
          (λ y. omega (arith, n.lower x (omega arith) p, y.0)) n.is

  fresh_one : {x y : ℕ} → Fresh P first x → Fresh P first y → x ≡ y
  fresh_one {x} {y} f g = go (dec_lt x y) (dec_lt y x)
    where
      go : Dec (x < y) → Dec (y < x) → x ≡ y
      go (yes h) d = absurd (f.new (g.least x f.low h))
      go (no h) (yes k) = absurd (g.new (f.least y g.low k))
      go (no h) (no k) = omega arith

  pub try_fits : {f : ℕ} → FreshNumber P first f → (v : ℕ) → KnownOrFresh P first v → v < no_number
  try_fits f v (known p) = f.fits v p
  try_fits f v (fresh g) = let e = fresh_one g f.is in omega (arith, f.small)

  -- up to the fresh number each is to be tried, and above it those that are mentioned
  module _ {f from : ℕ} (new : FreshNumber P first f) (low : first ≤ from) where
    pub next_up : from ≤ f → NextNumber (KnownOrFresh P first) from from
    next_up h = record {
      fits = try_fits new;
      lower = λ v i p. i;
      most = omega (arith, new.small);
      is = inr (omega arith, go (ℕ_discrete from f));
    }
      where
        go : Dec (from ≡ f) → KnownOrFresh P first from
        go (yes e) = fresh (rw e new.is)
        go (no e) = known (new.is.least from low (omega arith))

    pub next_above : {r : ℕ} → f < from → NextNumber P from r → NextNumber (KnownOrFresh P first) from r
    next_above {r} h n = record {
      fits = try_fits new;
      lower = above;
      most = n.most;
      is = ⊎_elim (λ e. inl e) (λ y. inr (y.0, known y.1)) n.is;
    }
      where
        above : (v : ℕ) → from ≤ v → KnownOrFresh P first v → r ≤ v
        above v i (known p) = n.lower v i p
        above v i (fresh g) = let e = fresh_one g new.is in absurd (omega arith)

-- the numbers to try before n have not Q
pub record Passed (P : ℕ → Type 0) (first : ℕ) (Q : ℕ → Type 0) (n : ℕ) : Type 0 where
  pub low : first ≤ n
  pub top : n ≤ no_number
  pub without : (x : ℕ) → KnownOrFresh P first x → x < n → ¬ Q x

-- for each number with Q there is one to try that has it and is not above
abbrev pub Represented : (ℕ → Type 0) → ℕ → (ℕ → Type 0) → Type 0
Represented P first Q = (v : ℕ) → Q v → (w : ℕ) × KnownOrFresh P first w × (w ≤ v) × Q w

module _ {P Q : ℕ → Type 0} {first : ℕ} where
  pub passed_start : {n : ℕ} → n ≡ first → first ≤ no_number → ((x : ℕ) → x < first → ¬ Q x) → Passed P first Q n
  passed_start e h z = record { low = omega arith; top = omega arith; without = λ x p l. z x (omega arith) }

  pub passed_step : {n r : ℕ} → Passed P first Q n → ¬ Q n → NextNumber (KnownOrFresh P first) (n + 1) r
      → Passed P first Q r
  passed_step {n} {r} a h b = record {
    low = ⊎_elim (λ e. omega (arith, a.low, a.top)) (λ y. omega (arith, a.low, y.0)) b.is;
    top = b.most;
    without = λ x p l. go x p l (dec_lt x n) (ℕ_discrete x n);
  }
    where
      go : (x : ℕ) → KnownOrFresh P first x → x < r → Dec (x < n) → Dec (x ≡ n) → ¬ Q x
      go x p l (yes i) d q = a.without x p i q
      go x p l (no i) (yes e) q = h (rw e at q)
      go x p l (no i) (no e) q = omega (arith, b.lower x (omega arith) p)

  pub passed_clear : {n : ℕ} → Passed P first Q n → Represented P first Q → Clear Q n
  passed_clear a stand v l q = let (w, p, m, q') = stand v q in a.without w p (omega arith) q'

  pub passed_all : {n f : ℕ} → Passed P first Q n → Represented P first Q → FreshNumber P first f → no_number ≤ n
      → (v : ℕ) → ¬ Q v
  passed_all a stand new h v q =
      let (w, p, m, q') = stand v q in a.without w p (let i = try_fits new w p in omega arith) q'
