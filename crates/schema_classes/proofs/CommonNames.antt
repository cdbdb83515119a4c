-- Names that two classes have in common: where one is, a name is that is made of numbers to try, and comes no later.
use Prim.Native.Nat.{ℕ, ◌≤◌, ◌<◌}
use mathlib.Core.Path.{◌≡◌, refl, sym, ◌∙◌, ap, ap₂}
use mathlib.Core.Bool.{Bool, true, false, ◌&&◌}
use mathlib.Core.Logic.{◌⊎◌, inl, inr}
use mathlib.Core.List.{List}
use native.Mathlib.Omega.{arith}
use lib.Dec.{ltb, eqb}
use borrow.Author.Tests.{ltb-true, eqb-true}
use Rattle.tables.proofs.Booleans.{and_both}
use Rattle.schema.specs.Kinds as kind
use Rattle.schema.specs.RowRule.{max_rows}
use Rattle.schema.specs.Rows.{rows_of, kind_of, a_of, b_of}
use Rattle.schema_classes.specs.Membership.{holds}
use Rattle.schema_classes.specs.Least.{Common}
use Rattle.schema_classes.specs.Made.{RowIn, KnownOrFresh}
use Rattle.schema_classes.specs.Search.{by_name, OneMentions}
use Rattle.schema_classes.specs.declared.Part.TheVariants.{Namespace, LocalBeside}
use Rattle.schema_classes.proofs.RowNumbers.{Spaced, namespace_row, mentions_dec, one_has}
use Rattle.schema_classes.proofs.Searching.{Represented}
use Rattle.schema_classes.proofs.SmallModel.{Alike, same_in_class}
use Rattle.schema_classes.proofs.Standing.{Stands, stands, mentioned_dec}

pub common_positive : {s : List ℕ} {c d u l : ℕ} → Common s c d u l → 0 < l
common_positive {s} {c} {d} {u} {l} h = ltb-true 0 l (and_both (ltb 0 l) (holds s u l c) h.first).0

module _ {s : List ℕ} where
  -- a row does not tell two names apart whose namespaces it does not tell apart, nor the local numbers of its own
  pub alike_by : {u l v k r : ℕ} → (Spaced s r → eqb u (a_of s r) ≡ eqb v (a_of s r))
      → (kind_of s r ≡ kind.name → u ≡ a_of s r → eqb l (b_of s r) ≡ eqb k (b_of s r)) → Alike s u l v k r
  alike_by {u} {l} {v} {k} {r} spaces locals = record { spaces = λ e. spaces (inl e); names = names }
    where
      names : kind_of s r ≡ kind.name
          → (eqb u (a_of s r) && eqb l (b_of s r)) ≡ (eqb v (a_of s r) && eqb k (b_of s r))
      names e = go (eqb u (a_of s r)) refl
        where
          go : (t : Bool) → eqb u (a_of s r) ≡ t → (t && eqb l (b_of s r)) ≡ (eqb v (a_of s r) && eqb k (b_of s r))
          go true f = ap₂ ◌&&◌ (sym f ∙ spaces (inr e)) (locals e (eqb-true u (a_of s r) f))
          go false f = ap (λ (x : Bool). x && eqb k (b_of s r)) (sym f ∙ spaces (inr e))

  pub common_alike : rows_of s ≤ max_rows → {c d u l v k : ℕ}
      → ((r : ℕ) → RowIn s r c ⊎ RowIn s r d → Alike s u l v k r) → 0 < k → Common s c d u l → Common s c d v k
  common_alike rows {c} {d} {u} {l} {v} {k} alike h x = record {
    first = sym (same_in_class s u l v k rows c (λ r i. alike r (inl i)) (common_positive x) h) ∙ x.first;
    second = sym (same_in_class s u l v k rows d (λ r i. alike r (inr i)) (common_positive x) h) ∙ x.second;
  }

  module _ (rows : rows_of s ≤ max_rows) (c d : ℕ) where
    pub namespace_stands : Represented (OneMentions s c d Namespace) 0 (λ u. (l : ℕ) × Common s c d u l)
    namespace_stands v (l, h) =
        go (stands (λ u. mentioned_dec rows (λ r. mentions_dec s u r Namespace) c d) 0 v (omega arith))
      where
        go : Stands (OneMentions s c d Namespace) 0 v
            → (w : ℕ) × KnownOrFresh (OneMentions s c d Namespace) 0 w × (w ≤ v) × ((k : ℕ) × Common s c d w k)
        go x = (x.by, x.to_try, x.most, (l, common_alike rows alike (common_positive h) h))
          where
            alike : (r : ℕ) → RowIn s r c ⊎ RowIn s r d → Alike s v l x.by l r
            alike r i = alike_by (λ e. x.alike (a_of s r) (one_has i (namespace_row (e, refl)))) (λ e f. refl)

    pub local_stands : (u : ℕ) → Represented (OneMentions s c d (LocalBeside u)) 1 (Common s c d u)
    local_stands u l h =
        go
        (stands (λ k. mentioned_dec rows (λ r. mentions_dec s k r (LocalBeside u)) c d) 1 l (common_positive h))
      where
        go : Stands (OneMentions s c d (LocalBeside u)) 1 l
            → (w : ℕ) × KnownOrFresh (OneMentions s c d (LocalBeside u)) 1 w × (w ≤ l) × Common s c d u w
        go x = (x.by, x.to_try, x.most, common_alike rows alike x.low h)
          where
            alike : (r : ℕ) → RowIn s r c ⊎ RowIn s r d → Alike s u l u x.by r
            alike r i = alike_by (λ e. refl) (λ e f. x.alike (b_of s r) (one_has i (by_name e (sym f, refl))))
