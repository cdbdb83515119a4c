-- A key at the front of a line: what follows it, as the library strips it.
use mathlib.Core.Path.{◌≡◌, refl, ◌∙◌, ap}
use mathlib.Core.Logic.{◌≢◌}
use mathlib.Core.Bool.{Bool, true, false, cond}
use mathlib.Core.List.{List, [], ◌∷◌, ◌++◌}
use Prim.Native.Nat.{ℕ, ◌+◌}
use lib.ListN.{length, take, drop}
use lib.Dec.{eqb}
use denote.Ref.{Bor}
use borrow.Author.Tests.{eqb-true}
use Rattle.std.specs.Prelude.{Option, None, Some, MatchOption}
use Rattle.std.specs.Cmp.Lexicographic.{pointwise}
use Rattle.std.proofs.lemmas.Bool.Decides.{Decides-eqb}
use Rattle.std.proofs.lemmas.Slice.Eq.{strip_prefix_is}
use Rattle.job.specs.Lines.{after}
use Rattle.job.proofs.Texts.{after_back}

no_key : (key line : List ℕ) → ((rest : List ℕ) → line ≢ key ++ rest) → after key line ≡ None
no_key [] line n = absurd (n line refl)
no_key (k ∷ key) [] n = refl
no_key (k ∷ key) (c ∷ line) n = go (eqb c k) refl (no_key key line)
  where
    go : (t : Bool) → eqb c k ≡ t → (((rest : List ℕ) → line ≢ key ++ rest) → after key line ≡ None)
        → cond t (after key line) None ≡ None
    go true e more = more (λ rest q. n rest (let f = eqb-true c k e in rw (f, q)))
    go false e more = refl

-- the line stripped of the key is what follows the key
pub stripped : (key line : List ℕ) (o : Option (Bor (List ℕ)))
    → MatchOption o (pointwise eqb (take (length key) line) key ≡ false)
    (λ x. (pointwise eqb (take (length key) line) key ≡ true) × (x.now ≡ drop (length key) line)
    × (length x.now + length key ≡ length line))
    → MatchOption o (after key line ≡ None) (λ x. after key line ≡ Some x.now)
stripped key line o h = go o (strip_prefix_is Decides-eqb line key o h)
  where
    go : (o : Option (Bor (List ℕ))) → MatchOption o ((rest : List ℕ) → line ≢ key ++ rest) (λ x. line ≡ key ++ x.now)
        → MatchOption o (after key line ≡ None) (λ x. after key line ≡ Some x.now)
    go None n = no_key key line n
    go (Some x) e = ap (after key) e ∙ after_back key x.now
