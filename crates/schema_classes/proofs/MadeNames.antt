-- The least common name of two classes is the least of the made names that both hold, and there is none exactly when no
-- made name is held by both. So a reader can follow the search: take the made names in order; the first that both
-- classes hold is the answer. The numbers that the search takes make no other names.
use Prim.Native.Nat.{ℕ, ◌≤◌, ◌<◌}
use mathlib.Core.Path.{◌≡◌, refl}
use mathlib.Core.Logic.{◌⊎◌, inl, inr}
use mathlib.Core.List.{List}
use native.Mathlib.Decide.{dec_lt}
use native.Mathlib.Omega.{arith}
use Rattle.schema.specs.RowRule.{max_rows}
use Rattle.schema.specs.Rows.{rows_of, a_of, b_of}
use Rattle.schema_classes.specs.Least.{Common, NotAfter, LeastCommon}
use Rattle.schema_classes.specs.Made.{RowIn, Mentioned, HasNamespace, HasLocal}
use Rattle.schema_classes.specs.Made.{KnownOrFresh, known, fresh, Made, LeastMade}
use Rattle.schema_classes.specs.Search.{OneMentions, ToTry}
use Rattle.std.specs.Prelude.{Option, Some, None}
use Rattle.schema_classes.specs.declared.Name.{Name}
use Rattle.schema_classes.specs.declared.Part.TheVariants.{Namespace, LocalBeside}
use Rattle.schema_classes.proofs.CommonNames.{common_positive, alike_by, common_alike}
use Rattle.schema_classes.proofs.RowNumbers.{namespace_row, row_namespace, row_local, namespace_dec, local_dec}
use Rattle.schema_classes.proofs.RowNumbers.{one_has, mentioned_map}
use Rattle.schema_classes.proofs.SmallModel.{Alike}
use Rattle.schema_classes.proofs.Standing.{Stands, stands, mentioned_dec}

module _ (s : List ℕ) (c d : ℕ) where
  abbrev Namespaces : ℕ → Type 0
  Namespaces u = Mentioned s c d (HasNamespace s u)

  abbrev Locals : ℕ → Type 0
  Locals l = Mentioned s c d (HasLocal s l)

not_after_trans : {u l v k w j : ℕ} → NotAfter u l v k → NotAfter v k w j → NotAfter u l w j
not_after_trans (inl a) (inl b) = inl (omega arith)
not_after_trans (inl a) (inr b) = inl (omega arith)
not_after_trans (inr a) (inl b) = inl (omega arith)
not_after_trans (inr a) (inr b) = inr (omega arith, omega arith)

-- a made name that both classes hold, and that is not after the name v, k
record Before (s : List ℕ) (c d v k : ℕ) : Type 0 where
  namespace : ℕ
  local : ℕ
  made : Made s c d namespace local
  common : Common s c d namespace local
  low : NotAfter namespace local v k

module _ (s : List ℕ) (c d : ℕ) (rows : rows_of s ≤ max_rows) where
  local_known : (l : ℕ) → Dec (Locals s c d l)
  local_known l = mentioned_dec rows (local_dec s l) c d

  -- for each common name there is a made one that is common and not after it
  before : {v k : ℕ} → Common s c d v k → Before s c d v k
  before {v} {k} h =
      go (stands (λ u. mentioned_dec rows (namespace_dec s u) c d) 0 v (omega arith))
      (stands local_known 1 k (common_positive h))
    where
      go : Stands (Namespaces s c d) 0 v → Stands (Locals s c d) 1 k → Before s c d v k
      go x y = record {
        namespace = x.by;
        local = y.by;
        made = record { namespace = x.to_try; local = y.to_try };
        common = common_alike rows alike y.low h;
        low = not_after (dec_lt x.by v);
      }
        where
          alike : (r : ℕ) → RowIn s r c ⊎ RowIn s r d → Alike s v k x.by y.by r
          alike r i =
              alike_by (λ e. x.alike (a_of s r) (one_has i (e, refl)))
              (λ e f. y.alike (b_of s r) (one_has i (e, refl)))

          not_after : Dec (x.by < v) → NotAfter x.by y.by v k
          not_after (yes l) = inl l
          not_after (no l) = inr (omega (arith, x.most), y.most)

  pub least_is_made : (r : Option Name) → LeastCommon s c d r → LeastMade s c d r
  least_is_made (Some n) (h, t) = (made (before h), h, λ v k m. t v k)
    where
      made : Before s c d n.namespace n.local → Made s c d n.namespace n.local
      made b = go b.low (t b.namespace b.local b.common)
        where
          go : NotAfter b.namespace b.local n.namespace n.local → NotAfter n.namespace n.local b.namespace b.local
              → Made s c d n.namespace n.local
          go (inl x) (inl y) = absurd (omega arith)
          go (inl x) (inr y) = absurd (omega arith)
          go (inr x) (inl y) = absurd (omega arith)
          go (inr x) (inr y) =
              let e : b.namespace ≡ n.namespace = omega arith in
              let f : b.local ≡ n.local = omega arith in
              rw (e, f) at b.made
  least_is_made None t = λ u l m. t u l

  pub made_is_least : (r : Option Name) → LeastMade s c d r → LeastCommon s c d r
  made_is_least (Some n) (m, h, t) = (h, λ v k x. first (before x))
    where
      first : {v k : ℕ} → Before s c d v k → NotAfter n.namespace n.local v k
      first b = not_after_trans (t b.namespace b.local b.made b.common) b.low
  made_is_least None t = λ u l h. none_made (before h)
    where
      none_made : {v k : ℕ} → Before s c d v k → ⊥
      none_made b = t b.namespace b.local b.made b.common

  -- the search takes the local numbers that are mentioned beside the namespace, and the least that is not: this one is
  -- mentioned beside another namespace, or is the least that is mentioned nowhere
  pub tried_is_made : {u l : ℕ} → ToTry s c d Namespace u → ToTry s c d (LocalBeside u) l → Made s c d u l
  tried_is_made {u} {l} x y = record { namespace = space x; local = local y }
    where
      space : ToTry s c d Namespace u → KnownOrFresh (Namespaces s c d) 0 u
      space (known m) = known (mentioned_map (λ r. row_namespace) m)
      space (fresh f) = fresh (record {
        low = f.low;
        new = λ m. f.new (mentioned_map (λ r. namespace_row) m);
        least = λ w i j. mentioned_map (λ r. row_namespace) (f.least w i j);
      })

      anywhere : (k : ℕ) → OneMentions s c d (LocalBeside u) k → Locals s c d k
      anywhere k = mentioned_map (λ r. row_local)

      local : ToTry s c d (LocalBeside u) l → KnownOrFresh (Locals s c d) 1 l
      local (known m) = known (anywhere l m)
      local (fresh f) = go (local_known l)
        where
          go : Dec (Locals s c d l) → KnownOrFresh (Locals s c d) 1 l
          go (yes m) = known m
          go (no n) = fresh (record { low = f.low; new = n; least = λ w i j. anywhere w (f.least w i j) })
