-- Interleavings (9.3.6) item by item: what becomes of members, and how a run interleaves its parts.
use Prim.Native.Nat.{ℕ, zero, suc}
use mathlib.Core.Path.{◌≡◌, refl, ap}
use mathlib.Core.Bool.{Bool, true, false, not, ◌&&◌}
use mathlib.Core.List.{List, [], ◌∷◌, ◌++◌}
use mathlib.Core.Logic.{◌⊎◌, inl, inr}
use Rattle.matching_rules.specs.Items.{Item}
use Rattle.matching_rules.specs.Rules.{Interleaves, interleaves_1, interleaves_2, interleaves_3}
use Rattle.matching_rules.proofs.Booleans.{◌∩◌, ◌∖◌}
use Rattle.matching_rules.specs.Spans.{added, run}
use Rattle.matching_rules.proofs.Runs.{kept}
use Rattle.matching_rules.proofs.Sequences.{Among, first, later}

-- each item of m goes to l or to r
pub data Shuffle : List Item → List Item → List Item → Type 0 where
  done : Shuffle [] [] []
  left : {m l r : List Item} (x : Item) → Shuffle m l r → Shuffle (x ∷ m) (x ∷ l) r
  right : {m l r : List Item} (x : Item) → Shuffle m l r → Shuffle (x ∷ m) l (x ∷ r)

pub lefts : (k : List Item) {m l r : List Item} → Shuffle m l r → Shuffle (k ++ m) (k ++ l) r
lefts [] s = s
lefts (x ∷ k) s = left x (lefts k s)

pub rights : (k : List Item) {m l r : List Item} → Shuffle m l r → Shuffle (k ++ m) l (k ++ r)
rights [] s = s
rights (x ∷ k) s = right x (rights k s)

pub shuffle : {m l r : List Item} → Interleaves m l r → Shuffle m l r
shuffle interleaves_1 = done
shuffle (interleaves_2 k s) = lefts k (shuffle s)
shuffle (interleaves_3 k s) = rights k (shuffle s)

pub interleaved : {m l r : List Item} → Shuffle m l r → Interleaves m l r
interleaved done = interleaves_1
interleaved (left x s) = interleaves_2 (x ∷ []) (interleaved s)
interleaved (right x s) = interleaves_3 (x ∷ []) (interleaved s)

pub swap : {m l r : List Item} → Shuffle m l r → Shuffle m r l
swap done = done
swap (left x s) = right x (swap s)
swap (right x s) = left x (swap s)

pub among_first : {y : Item} {m l r : List Item} → Shuffle m l r → Among y l → Among y m
among_first {y = y} done h = elim h [ ]
among_first (left x s) (first e) = first e
among_first (left x s) (later h) = later (among_first s h)
among_first (right x s) h = later (among_first s h)

pub among_either : {y : Item} {m l r : List Item} → Shuffle m l r → Among y m → Among y l ⊎ Among y r
among_either {y = y} done x5 = elim x5 [ ]
among_either (left x s) (first e) = inl (first e)
among_either (right x s) (first e) = inr (first e)
among_either (left x s) (later h) = elim (among_either s h) [ inl k ↦ inl (later k) | inr k ↦ inr k ]
among_either (right x s) (later h) = elim (among_either s h) [ inl k ↦ inl k | inr k ↦ inr (later k) ]

added_left : (b : Bool) (x : Item) {m l r : List Item} → Shuffle m l r → Shuffle (added b x m) (added b x l) r
added_left true x s = left x s
added_left false x s = s

pub kept_shuffle : (P : Item → Bool) {m l r : List Item} → Shuffle m l r → Shuffle (kept P m) (kept P l) (kept P r)
unfolding kept
kept_shuffle P done = done
kept_shuffle P (left x s) = added_left (P x) x (kept_shuffle P s)
kept_shuffle P (right x s) = swap (added_left (P x) x (swap (kept_shuffle P s)))

-- a run interleaves the runs of the two parts of its positions
pub run_shuffle : (it : ℕ → Item) (K Q : ℕ → Bool) (i n : ℕ)
    → Shuffle (run it K i n) (run it (K ∩ Q) i n) (run it (K ∖ Q) i n)
unfolding run
run_shuffle it K Q i zero = done
run_shuffle it K Q i (suc n) = go (K i) (Q i) (run_shuffle it K Q (suc i) n)
  where
    go : (b c : Bool) {m l r : List Item} → Shuffle m l r
        → Shuffle (added b (it i) m) (added (b && c) (it i) l) (added (b && not c) (it i) r)
    go true true s = left (it i) s
    go true false s = right (it i) s
    go false c s = s

-- and only these, where the test tells the sides apart
module _ (it : ℕ → Item) (K Q : ℕ → Bool) where
  abbrev Told : Bool → List Item → Type 0
  Told b m = (k : ℕ) → K k ≡ true → Among (it k) m → Q k ≡ b

  first_run : (i n : ℕ) {l r : List Item} → Shuffle (run it K i n) l r
      → Told true l → Told false r → run it (K ∩ Q) i n ≡ l
  unfolding run
  first_run i zero done f g = refl
  first_run i (suc n) {l} {r} s f g = go (K i) refl s f g (λ l r s f g. first_run (suc i) n {l = l} {r = r} s f g)
    where
      go : (b : Bool) → K i ≡ b → {l r : List Item}
          → Shuffle (added b (it i) (run it K (suc i) n)) l r → Told true l → Told false r
          → ((l r : List Item) → Shuffle (run it K (suc i) n) l r → Told true l → Told false r
          → run it (K ∩ Q) (suc i) n ≡ l) → added (b && Q i) (it i) (run it (K ∩ Q) (suc i) n) ≡ l
      go false e {l} {r} s f g rest = rest l r s f g
      go true e (left {l = l} {r = r} x s) f g rest =
          rw (f i e (first refl)) (ap (λ (t : List Item). it i ∷ t) (rest l r s (λ k h a. f k h (later a)) g))
      go true e (right {l = l} {r = r} x s) f g rest = rw (g i e (first refl)) (rest l r s f (λ k h a. g k h (later a)))

pub shuffle_run : (it : ℕ → Item) (K Q : ℕ → Bool) (i n : ℕ) {l r : List Item} → Shuffle (run it K i n) l r
    → ((k : ℕ) → K k ≡ true → Among (it k) l → Q k ≡ true) → ((k : ℕ) → K k ≡ true → Among (it k) r → Q k ≡ false)
    → (run it (K ∩ Q) i n ≡ l) × (run it (K ∖ Q) i n ≡ r)
shuffle_run it K Q i n s f g = (
  first_run it K Q i n s f g,
  first_run it K (λ k. not (Q k)) i n (swap s) (λ k h a. ap not (g k h a)) (λ k h a. ap not (f k h a)),
)
