-- Stretches of what was read, each from an entry up to the newest token, and tests that tell of them. Sequences of
-- tokens stand newest first, as what was read does.
use mathlib.Core.Path.{◌≡◌, refl, sym, ◌∙◌, subst}
use mathlib.Core.Bool.{Bool, true, false, ◌&&◌, ◌||◌, false≢true}
use mathlib.Core.Logic.{◌⊎◌, inl, inr, ◌↔◌}
use mathlib.Core.List.{List, [], ◌∷◌, ◌++◌, append-nil, append_assoc}
use Prim.Native.Nat.{ℕ}
use native.Mathlib.Omega.{arith}
use Rattle.tables.proofs.Booleans.{and_both, both_and, or_either, or_left, or_right}
use Rattle.matching_tokens.specs.Marked.{Read, read, second, again, taken}

abbrev pub Tokens : Type 0
Tokens = List (List ℕ)

first_empty : (l r : Tokens) → l ++ r ≡ [] → l ≡ []
first_empty [] r e = refl
first_empty (t ∷ l) r e = let z : ◌≡◌ {A = ℕ} 0 1 = cc in absurd (omega arith)

second_empty : (l r : Tokens) → l ++ r ≡ [] → r ≡ []
second_empty [] r e = e
second_empty (t ∷ l) r e = let z : ◌≡◌ {A = ℕ} 0 1 = cc in absurd (omega arith)

-- the tokens m are the newest of h, and the pattern was entered before the oldest of them
pub data Since : List Read → Tokens → Type 0 where
  here : {e : Bool} {t : List ℕ} {h : List Read} {m : Tokens} → e ≡ true → m ≡ [] → Since (read e t ∷ h) (t ∷ m)
  later : {e : Bool} {t : List ℕ} {h : List Read} {m : Tokens} → Since h m → Since (read e t ∷ h) (t ∷ m)

pub since_some : {h : List Read} {m : Tokens} → Since h m → ¬ (m ≡ [])
since_some (here e f) g = let z : ◌≡◌ {A = ℕ} 0 1 = cc in omega arith
since_some (later s) g = let z : ◌≡◌ {A = ℕ} 0 1 = cc in omega arith

-- two sequences of which m is made, m₁ the older
pub record Joined (P Q : Tokens → Type 0) (m : Tokens) : Type 0 where
  pub m₁ : Tokens
  pub m₂ : Tokens
  pub made : m ≡ m₂ ++ m₁
  pub first : P m₁
  pub next : Q m₂

-- one sequence after another, m₁ the oldest
pub data Repeats (P : Tokens → Type 0) : Tokens → Type 0 where
  once : {m : Tokens} → P m → Repeats P m
  onward : {m₁ m₂ : Tokens} → P m₁ → Repeats P m₂ → Repeats P (m₂ ++ m₁)

-- of nothing only nothing is made
pub joined_nothing : {P Q : Tokens → Type 0} → (P [] × Q []) ↔ Joined P Q []
joined_nothing {P} {Q} = (
  λ b. record { m₁ = []; m₂ = []; made = refl; first = b.0; next = b.1 },
  λ j. (
    subst P (second_empty j.m₂ j.m₁ (sym j.made)) j.first,
    subst Q (first_empty j.m₂ j.m₁ (sym j.made)) j.next,
  ),
)

pub repeats_nothing : {P : Tokens → Type 0} → P [] ↔ Repeats P []
repeats_nothing {P} = (λ p. once p, λ r. go r refl)
  where
    go : {m : Tokens} → Repeats P m → m ≡ [] → P []
    go (once p) e = subst P e p
    go (onward {m₁ = m₁} {m₂ = m₂} p r) e = subst P (second_empty m₂ m₁ e) p

newest : {P : Tokens → Type 0} {m₁ : Tokens} (m₂ : Tokens) → Repeats P m₁ → P m₂ → Repeats P (m₂ ++ m₁)
newest m₂ (once p) q = onward p (once q)
newest m₂ (onward p r) q = rw append_assoc at (onward p (newest m₂ r q))

-- a stretch of h of which P holds
pub record Found (h : List Read) (P : Tokens → Type 0) : Type 0 where
  pub m : Tokens
  pub since : Since h m
  pub holds : P m

-- a sequence of which P holds, and after it the tokens m up to the newest
record Before (h : List Read) (m : Tokens) (P : Tokens → Type 0) : Type 0 where
  older : Tokens
  since : Since h (m ++ older)
  holds : P older

-- the test tells, of whatever was read, whether P holds of a stretch
pub record Completes (D : List Read → Bool) (P : Tokens → Type 0) : Type 0 where
  pub sound : (h : List Read) → D h ≡ true → Found h P
  pub complete : (h : List Read) (m : Tokens) → Since h m → P m → D h ≡ true

pub completes_same : {D : List Read → Bool} {P Q : Tokens → Type 0}
    → ((m : Tokens) → P m ↔ Q m) → Completes D P → Completes D Q
completes_same same c = record {
  sound = λ h e. let f = c.sound h e in record { m = f.m; since = f.since; holds = (same f.m).0 f.holds };
  complete = λ h m s q. c.complete h m s ((same m).1 q);
}

-- nothing is completed
pub completes_empty : Completes (λ h. false) (λ m. m ≡ [])
completes_empty = record { sound = λ h e. absurd (false≢true e); complete = λ h m s e. absurd (since_some s e) }

-- one token
pub completes_leaf : (takes : List ℕ → Bool)
    → Completes (taken takes) (λ m. (t : List ℕ) × (m ≡ t ∷ []) × (takes t ≡ true))
completes_leaf takes = record { sound = found; complete = every }
  where
    found : (h : List Read) → taken takes h ≡ true → Found h (λ m. (t : List ℕ) × (m ≡ t ∷ []) × (takes t ≡ true))
    found [] e = absurd (false≢true e)
    found (read e t ∷ h) d =
        let b = and_both e (takes t) d in
        record { m = t ∷ []; since = here b.0 refl; holds = (t, refl, b.1) }

    every : (h : List Read) (m : Tokens) → Since h m
        → (t : List ℕ) × (m ≡ t ∷ []) × (takes t ≡ true) → taken takes h ≡ true
    every [] m s _ = elim s [ ]
    every (read e t ∷ h) m (here o f) (u, g, k) = both_and o (subst (λ (x : List ℕ). takes x ≡ true) (cc g) k)
    every (read e t ∷ h) m (later s) (u, g, k) = absurd (since_some s (cc g))

module _ {D E : List Read → Bool} {P Q : Tokens → Type 0} (c : Completes D P) (d : Completes E Q) where
  -- either of two
  pub completes_choice : Completes (λ h. D h || E h) (λ m. P m ⊎ Q m)
  completes_choice = record { sound = λ h e. found h (or_either (D h) (E h) e); complete = every }
    where
      found : (h : List Read) → (D h ≡ true) ⊎ (E h ≡ true) → Found h (λ m. P m ⊎ Q m)
      found h (inl e) = let f = c.sound h e in record { m = f.m; since = f.since; holds = inl f.holds }
      found h (inr e) = let f = d.sound h e in record { m = f.m; since = f.since; holds = inr f.holds }

      every : (h : List Read) (m : Tokens) → Since h m → P m ⊎ Q m → (D h || E h) ≡ true
      every h m s (inl p) = or_left (E h) (c.complete h m s p)
      every h m s (inr q) = or_right (D h) (d.complete h m s q)

  -- one after the other, where free and shut tell whether the first and the second may be empty
  module _ (free shut : Bool) (first-free : (free ≡ true) ↔ P []) (second-free : (shut ≡ true) ↔ Q []) where
    -- what the second reads lies behind a sequence of the first
    behind_first : (h : List Read) {m : Tokens} → Since (second free D h) m → Before h m P
    behind_first [] {m = m} x' = elim x' [ ]
    behind_first (read e t ∷ h) (here {m = m} o f) = go (or_either (e && free) (D h) o)
      where
        go : ((e && free) ≡ true) ⊎ (D h ≡ true) → Before (read e t ∷ h) (t ∷ m) P
        go (inl g) =
            let b = and_both e free g in
            record { older = []; since = here b.0 (append-nil m ∙ f); holds = first-free.0 b.1 }
        go (inr g) =
            let k = c.sound h g in
            record {
              older = k.m;
              since = later (subst (λ (l : Tokens). Since h (l ++ k.m)) (sym f) k.since);
              holds = k.holds;
            }
    behind_first (read e t ∷ h) (later s) =
        let b = behind_first h s in
        record { older = b.older; since = later b.since; holds = b.holds }

    enters_second : (h : List Read) (t : List ℕ) (m₂ m₁ : Tokens)
        → Since h (t ∷ m₂ ++ m₁) → P m₁ → Since (second free D h) (t ∷ m₂)
    enters_second [] u m₂ m₁ x'' p = elim x'' [ ]
    enters_second (read e t ∷ h) u m₂ m₁ (here o f) p =
        here (or_left (D h) (both_and o (first-free.1 (subst P (second_empty m₂ m₁ f) p)))) (first_empty m₂ m₁ f)
    enters_second (read e t ∷ h) u [] m₁ (later s) p = here (or_right (e && free) (c.complete h m₁ s p)) refl
    enters_second (read e t ∷ h) u (v ∷ m₂) m₁ (later s) p = later (enters_second h v m₂ m₁ s p)

    pub completes_group : Completes (λ h. D h && shut || E (second free D h)) (Joined P Q)
    completes_group = record {
      sound = λ h e. found h (or_either (D h && shut) (E (second free D h)) e);
      complete = λ h m s j. every h j.m₂ j.m₁ (rw j.made at s) j.first j.next;
    }
      where
        found : (h : List Read) → ((D h && shut) ≡ true) ⊎ (E (second free D h) ≡ true) → Found h (Joined P Q)
        found h (inl e) =
            let b = and_both (D h) shut e in
            let f = c.sound h b.0 in
            record {
              m = f.m;
              since = f.since;
              holds = record { m₁ = f.m; m₂ = []; made = refl; first = f.holds; next = second-free.0 b.1 };
            }
        found h (inr e) =
            let f = d.sound (second free D h) e in
            let b = behind_first h f.since in
            record {
              m = f.m ++ b.older;
              since = b.since;
              holds = record { m₁ = b.older; m₂ = f.m; made = refl; first = b.holds; next = f.holds };
            }

        every : (h : List Read) (m₂ m₁ : Tokens) → Since h (m₂ ++ m₁)
            → P m₁ → Q m₂ → (D h && shut || E (second free D h)) ≡ true
        every h [] m₁ s p q = or_left (E (second free D h)) (both_and (c.complete h m₁ s p) (second-free.1 q))
        every h (t ∷ m₂) m₁ s p q =
            or_right (D h && shut) (d.complete (second free D h) (t ∷ m₂) (enters_second h t m₂ m₁ s p) q)

module _ {D : List Read → Bool} {P : Tokens → Type 0} (c : Completes D P) where
  -- older sequences, or none
  abbrev Older : Tokens → Type 0
  Older m = (m ≡ []) ⊎ Repeats P m

  after_older : (m₂ m₁ : Tokens) → P m₂ → Older m₁ → Repeats P (m₂ ++ m₁)
  after_older m₂ m₁ p (inl e) = rw (e, append-nil) (once p)
  after_older m₂ m₁ p (inr r) = newest m₂ r p

  -- what the part of a oneOrMore reads lies behind older sequences of the part
  behind_older : (h : List Read) {m : Tokens} → Since (again D h) m → Before h m Older
  behind_older [] {m = m} x' = elim x' [ ]
  behind_older (read e t ∷ h) (here {m = m} o f) = go (λ l s. behind_older h s) (or_either e (D (again D h)) o)
    where
      go : ((l : Tokens) → Since (again D h) l → Before h l Older)
          → (e ≡ true) ⊎ (D (again D h) ≡ true) → Before (read e t ∷ h) (t ∷ m) Older
      go earlier (inl g) = record { older = []; since = here g (append-nil m ∙ f); holds = inl refl }
      go earlier (inr g) =
          let k = c.sound (again D h) g in
          let b = earlier k.m k.since in
          record {
            older = k.m ++ b.older;
            since = later (subst (λ (l : Tokens). Since h (l ++ (k.m ++ b.older))) (sym f) b.since);
            holds = inr (after_older k.m b.older k.holds b.holds);
          }
  behind_older (read e t ∷ h) (later s) =
      let b = behind_older h s in
      record { older = b.older; since = later b.since; holds = b.holds }

  -- an entry of the whole is one of the part, and the end of a sequence is one more
  enters_again : (h : List Read) {m : Tokens} → Since h m → Since (again D h) m
  enters_again [] {m = m} x' = elim x' [ ]
  enters_again (read e t ∷ h) (here o f) = here (or_left (D (again D h)) o) f
  enters_again (read e t ∷ h) (later s) = later (enters_again h s)

  enters_next : (h : List Read) (t : List ℕ) (m₂ m₁ : Tokens)
      → Since (again D h) (t ∷ m₂ ++ m₁) → P m₁ → Since (again D h) (t ∷ m₂)
  enters_next [] u m₂ m₁ x'' p = elim x'' [ ]
  enters_next (read e t ∷ h) u m₂ m₁ (here o f) p = here o (first_empty m₂ m₁ f)
  enters_next (read e t ∷ h) u [] m₁ (later s) p = here (or_right e (c.complete (again D h) m₁ s p)) refl
  enters_next (read e t ∷ h) u (v ∷ m₂) m₁ (later s) p = later (enters_next h v m₂ m₁ s p)

  every_repeat : (h : List Read) {m : Tokens} → Since (again D h) m → Repeats P m → D (again D h) ≡ true
  every_repeat h {m} s (once p) = c.complete (again D h) m s p
  every_repeat h s (onward {m₁ = m₁} {m₂ = []} p r) = c.complete (again D h) m₁ s p
  every_repeat h s (onward {m₁ = m₁} {m₂ = t ∷ m₂} p r) = every_repeat h (enters_next h t m₂ m₁ s p) r

  -- again and again
  pub completes_again : Completes (λ h. D (again D h)) (Repeats P)
  completes_again = record {
    sound = λ h e.
        let f = c.sound (again D h) e in
        let b = behind_older h f.since in
        record { m = f.m ++ b.older; since = b.since; holds = after_older f.m b.older f.holds b.holds };
    complete = λ h m s r. every_repeat h (enters_again h s) r;
  }
