-- Sets that are collected position by position.
use Rattle.std.specs.Prelude.{◌≡◌, Bool, false, ◌&&◌, ◌||◌, ℕ, ◌<◌, ◌≤◌, eqb, ltb}
use Rattle.sets.specs.Bits.{bit}

-- after has the members of before, and k too if so said
pub record MemberAdded (before k : ℕ) (said : Bool) (after : ℕ) : Type 0 where
  pub members : (j : ℕ) → bit after j ≡ (bit before j || (eqb j k && said))

-- w has the positions before n that pass a test
pub record Collects (test : ℕ → Bool) (n w : ℕ) : Type 0 where
  pub members : (k : ℕ) → bit w k ≡ (ltb k n && test k)

-- w has the positions before n for which a test says yes: it may say b of position k where says k b
pub record CollectsBy (says : ℕ → Bool → Type 0) (n w : ℕ) : Type 0 where
  pub before : (k : ℕ) → k < n → says k (bit w k)
  pub after : (k : ℕ) → n ≤ k → bit w k ≡ false
