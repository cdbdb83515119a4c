-- Texts that are one value have one lead.
use Prim.Native.Nat.{ℕ, zero, suc}
use mathlib.Core.Path.{◌≡◌, refl, sym, ◌∙◌, ap}
use mathlib.Core.Bool.{Bool, true, false}
use mathlib.Core.List.{List, [], ◌∷◌}
use mathlib.Core.Logic.{◌≢◌}
use lib.ListN.{get_or}
use Rattle.datatypes.specs.Whitespace.{space, normalize_white_space}
use Rattle.datatypes.proofs.Normal.{kept}
use Rattle.matching_rules.specs.Job.{datatype_equal}
use Rattle.matching_alone.specs.Rows.{lead_of}

normal_lead : (s : List ℕ) → get_or (normalize_white_space s) 0 0 ≡ lead_of s
normal_lead [] = refl
normal_lead (c ∷ s) = go (normal_lead s) (space c) refl
  where
    go : get_or (normalize_white_space s) 0 0 ≡ lead_of s → (b : Bool)
        → space c ≡ b → get_or (normalize_white_space (c ∷ s)) 0 0 ≡ lead_of (c ∷ s)
    go ih true e = rw e ih
    go ih false e = rw e (ap (λ (l : List ℕ). get_or l 0 0) (kept c s e))

same_lead : (d : ℕ) (a b : List ℕ) → datatype_equal d a b → lead_of a ≡ lead_of b
same_lead zero a b e = ap lead_of e
same_lead (suc d) a b e = sym (normal_lead a) ∙ ap (λ (l : List ℕ). get_or l 0 0) e ∙ normal_lead b

-- another lead
pub not_equal : (d : ℕ) (a b : List ℕ) {x y : ℕ} → x ≡ lead_of a
    → y ≡ lead_of b → x ≢ y → ¬ datatype_equal d a b
not_equal d a b f g n e = n (f ∙ same_lead d a b e ∙ sym g)
