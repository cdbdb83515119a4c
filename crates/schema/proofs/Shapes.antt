-- Ranges of kinds.
use mathlib.Core.Path.{◌≡◌}
use mathlib.Core.Bool.{true, false, ◌&&◌, and-false}
use mathlib.Core.Logic.{◌⊎◌, inl, inr}
use Prim.Native.Nat.{ℕ, ◌<◌, ◌≤◌}
use lib.Dec.{leb}
use borrow.Author.Tests.{le-leb, lt-leb}

pub inside : (a b k : ℕ) → a ≤ k → k ≤ b → (leb a k && leb k b) ≡ true
inside a b k l h = rw (le-leb a k l, le-leb k b h)

pub outside : (a b k : ℕ) → (k < a) ⊎ (b < k) → (leb a k && leb k b) ≡ false
outside a b k (inl l) = rw (lt-leb a k l)
outside a b k (inr l) = rw (lt-leb k b l) (and-false (leb a k))
