-- A loop that stores what it reads, one value after the other, in an output that may be too short.
use mathlib.Core.Path.{◌≡◌, refl, sym, ◌∙◌, ap}
use mathlib.Core.List.{List, [], ◌∷◌, ◌++◌, append_assoc}
use Rattle.std.specs.Prelude.{Option, None, Some}
use Prim.Native.Nat.{ℕ, ◌+◌}
use native.Mathlib.Omega.{arith}
use lib.ListN.{length, set, length-append}
use lib.Seq.{sets}
use Rattle.tables.proofs.Stores.{sets_append}

-- values in front of what is read
abbrev pub prepend : List ℕ → Option (List ℕ) → Option (List ℕ)
prepend run None = None
prepend run (Some rest) = Some (run ++ rest)

prepend_none : (rest : Option (List ℕ)) → rest ≡ prepend [] rest
prepend_none None = refl
prepend_none (Some rest) = refl

prepend_more : (run : List ℕ) (v : ℕ) (rest : Option (List ℕ))
    → prepend run (prepend (v ∷ []) rest) ≡ prepend (run ++ v ∷ []) rest
prepend_more run v None = refl
prepend_more run v (Some rest) = ap Some (sym (append_assoc run (v ∷ []) rest))

-- of the whole a run is read and stored, up to a position, and the rest is to be read
pub record Storing (whole : Option (List ℕ)) (out : List ℕ) (from : ℕ)
    (now : List ℕ) (to : ℕ) (rest : Option (List ℕ)) : Type 0 where
  pub run : List ℕ
  pub is : whole ≡ prepend run rest
  pub stored : now ≡ sets out from run
  pub ends : to ≡ from + length run

pub storing_none : {whole rest : Option (List ℕ)} (out : List ℕ) (from : ℕ)
    → whole ≡ rest → Storing whole out from out from rest
storing_none {whole} {rest} out from e =
    record { run = []; is = e ∙ prepend_none rest; stored = refl; ends = omega arith }

module _ {whole : Option (List ℕ)} {out : List ℕ} {from : ℕ} {now : List ℕ}
    {to : ℕ} {rest : Option (List ℕ)} (s : Storing whole out from now to rest) where
  pub storing_more : (v : ℕ) {then : List ℕ} {end : ℕ} {after : Option (List ℕ)} → rest ≡ prepend (v ∷ []) after
      → then ≡ set now to v → end ≡ to + 1 → Storing whole out from then end after
  storing_more v {then} {end} {after} e f g = record {
    run = s.run ++ v ∷ [];
    is = s.is ∙ ap (prepend s.run) e ∙ prepend_more s.run v after;
    stored =
        f
        ∙ ap (λ (l : List ℕ). set l to v) s.stored
        ∙ ap (λ (i : ℕ). set (sets out from s.run) i v) s.ends
        ∙ sets_append out from s.run (v ∷ []);
    ends = omega (arith, g, s.ends, length-append s.run (v ∷ []));
  }

  pub storing_fails : rest ≡ None → whole ≡ None
  storing_fails e = s.is ∙ ap (prepend s.run) e
