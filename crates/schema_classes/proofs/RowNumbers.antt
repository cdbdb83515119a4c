-- The numbers that a row mentions: whether it does, in the words of the search and of `Made`.
use Prim.Native.Nat.{ℕ}
use mathlib.Core.Path.{◌≡◌}
use mathlib.Core.Logic.{◌⊎◌, inl, inr}
use mathlib.Core.List.{List}
use native.Mathlib.Decide.{ℕ_discrete}
use Rattle.schema.specs.Kinds as kind
use Rattle.schema.specs.Rows.{kind_of, a_of, b_of}
use Rattle.schema_classes.specs.Made.{RowIn, Mentioned, HasNamespace, HasLocal}
use Rattle.schema_classes.specs.Search.{RowMentions, by_ns_name, by_name}
use Rattle.schema_classes.specs.declared.Part.{Part}
use Rattle.schema_classes.specs.declared.Part.TheVariants.{Namespace, LocalBeside}

-- an nsName or a name has a namespace
abbrev pub Spaced : List ℕ → ℕ → Type 0
Spaced s r = (kind_of s r ≡ kind.ns_name) ⊎ (kind_of s r ≡ kind.name)

module _ {s : List ℕ} {v r : ℕ} where
  pub namespace_row : HasNamespace s v r → RowMentions s Namespace v r
  namespace_row (inl k, e) = by_ns_name k e
  namespace_row (inr k, e) = by_name k e

  pub row_namespace : RowMentions s Namespace v r → HasNamespace s v r
  row_namespace (by_ns_name k e) = (inl k, e)
  row_namespace (by_name k e) = (inr k, e)

  pub row_local : {u : ℕ} → RowMentions s (LocalBeside u) v r → HasLocal s v r
  row_local (by_ns_name k e) = absurd e
  row_local (by_name k e) = (k, e.1)

  row_beside : {u : ℕ} → RowMentions s (LocalBeside u) v r → a_of s r ≡ u
  row_beside (by_ns_name k e) = absurd e
  row_beside (by_name k e) = e.0

module _ (s : List ℕ) (v r : ℕ) where
  spaced_dec : Dec (Spaced s r)
  spaced_dec = go (ℕ_discrete (kind_of s r) kind.ns_name) (ℕ_discrete (kind_of s r) kind.name)
    where
      go : Dec (kind_of s r ≡ kind.ns_name) → Dec (kind_of s r ≡ kind.name) → Dec (Spaced s r)
      go (yes i) e = yes (inl i)
      go (no i) (yes j) = yes (inr j)
      go (no i) (no j) = no neither
        where
          neither : Spaced s r → ⊥
          neither (inl k) = i k
          neither (inr k) = j k

  pub namespace_dec : Dec (HasNamespace s v r)
  namespace_dec = go spaced_dec (ℕ_discrete (a_of s r) v)
    where
      go : Dec (Spaced s r) → Dec (a_of s r ≡ v) → Dec (HasNamespace s v r)
      go (yes i) (yes e) = yes (i, e)
      go (yes i) (no n) = no (λ x. n x.1)
      go (no n) d = no (λ x. n x.0)

  pub local_dec : Dec (HasLocal s v r)
  local_dec = go (ℕ_discrete (kind_of s r) kind.name) (ℕ_discrete (b_of s r) v)
    where
      go : Dec (kind_of s r ≡ kind.name) → Dec (b_of s r ≡ v) → Dec (HasLocal s v r)
      go (yes k) (yes e) = yes (k, e)
      go (yes k) (no n) = no (λ x. n x.1)
      go (no n) d = no (λ x. n x.0)

  pub mentions_dec : (part : Part) → Dec (RowMentions s part v r)
  mentions_dec Namespace = go namespace_dec
    where
      go : Dec (HasNamespace s v r) → Dec (RowMentions s Namespace v r)
      go (yes x) = yes (namespace_row x)
      go (no n) = no (λ x. n (row_namespace x))
  mentions_dec (LocalBeside u) = go local_dec (ℕ_discrete (a_of s r) u)
    where
      go : Dec (HasLocal s v r) → Dec (a_of s r ≡ u) → Dec (RowMentions s (LocalBeside u) v r)
      go (yes (k, e)) (yes f) = yes (by_name k (f, e))
      go (yes x) (no n) = no (λ m. n (row_beside m))
      go (no n) d = no (λ m. n (row_local m))

-- a row of one of two classes
module _ {s : List ℕ} {c d : ℕ} where
  pub one_has : {P : ℕ → Type 0} {r : ℕ} → RowIn s r c ⊎ RowIn s r d → P r → Mentioned s c d P
  one_has {r = r} (inl i) p = inl (record { row = r; inside = i; has = p })
  one_has {r = r} (inr i) p = inr (record { row = r; inside = i; has = p })

  pub mentioned_map : {P Q : ℕ → Type 0} → ((r : ℕ) → P r → Q r) → Mentioned s c d P → Mentioned s c d Q
  mentioned_map f (inl m) = inl (record { row = m.row; inside = m.inside; has = f m.row m.has })
  mentioned_map f (inr m) = inr (record { row = m.row; inside = m.inside; has = f m.row m.has })
