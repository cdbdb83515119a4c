-- A name that two classes have in common, where the rows keep their rule: one with small numbers is common too, and
-- comes no later.
use Prim.Native.Nat.{ℕ, suc, ◌≤◌, ◌<◌}
use mathlib.Core.Path.{◌≡◌, refl, sym, ◌∙◌}
use mathlib.Core.Bool.{true, ◌&&◌}
use mathlib.Core.Logic.{inl, inr}
use mathlib.Core.List.{List}
use native.Mathlib.Decide.{dec_lt}
use native.Mathlib.Omega.{arith}
use lib.Dec.{ltb, eqb}
use borrow.Author.Tests.{ne_eqb, ltb-true}
use Rattle.tables.proofs.Booleans.{and_both}
use Rattle.schema.specs.Kinds as kind
use Rattle.schema.specs.Rows.{rows_of, kind_of, a_of, b_of, shape_of}
use Rattle.schema.specs.RowRule.{max_rows, RowsRight}
use Rattle.schema.proofs.Fields.{both_fields}
use Rattle.schema.proofs.RowLaws.{right_size, few_rows, in_table}
use Rattle.schema_classes.specs.Least.{Common}
use Rattle.schema_classes.proofs.CommonNames.{common_positive, alike_by, common_alike}
use Rattle.schema_classes.proofs.RowNumbers.{Spaced}
use Rattle.schema_classes.proofs.SmallModel.{Alike}

-- v is not above u, and no number before n tells them apart
record Near (n u v : ℕ) : Type 0 where
  low : v ≤ suc n
  most : v ≤ u
  alike : (x : ℕ) → x < n → eqb u x ≡ eqb v x
  positive : 0 < u → 0 < v

near : (n u : ℕ) → (v : ℕ) × Near n u v
near n u = go (dec_lt u (suc n))
  where
    go : Dec (u < suc n) → (v : ℕ) × Near n u v
    go (yes h) = (u, record { low = omega arith; most = omega arith; alike = λ x l. refl; positive = λ h. h })
    go (no h) = (
      suc n,
      record {
        low = omega arith;
        most = omega arith;
        alike = λ x l. ne_eqb u x (λ e. omega arith) ∙ sym (ne_eqb (suc n) x (λ e. omega arith));
        positive = λ h. omega arith;
      },
    )

pub record SmallName (strings : ℕ) (s : List ℕ) (c d u l : ℕ) : Type 0 where
  pub namespace : ℕ
  pub local : ℕ
  pub low_namespace : namespace ≤ suc strings
  pub low_local : local ≤ suc strings
  pub most_namespace : namespace ≤ u
  pub most_local : local ≤ l
  pub common : Common s c d namespace local

module _ {strings : ℕ} {s : List ℕ} (right : RowsRight strings s) where
  rows : rows_of s ≤ max_rows
  rows = few_rows (right_size right)

  -- the numbers that a row mentions are below the number of strings
  low_namespace : {r : ℕ} → r < rows_of s → Spaced s r → a_of s r < strings
  unfolding shape_of
  low_namespace {r} h (inl k) = ltb-true (a_of s r) strings (rw k at (both_fields strings s right r h).0)
  low_namespace {r} h (inr k) = ltb-true (a_of s r) strings (rw k at (both_fields strings s right r h).0)

  low_local : {r : ℕ} → r < rows_of s → kind_of s r ≡ kind.name → b_of s r < strings
  unfolding shape_of
  low_local {r} h k =
      let t : (ltb 0 (b_of s r) && ltb (b_of s r) strings) ≡ true = rw k at (both_fields strings s right r h).1 in
      ltb-true (b_of s r) strings (and_both (ltb 0 (b_of s r)) (ltb (b_of s r) strings) t).1

  -- a row with a kind is in the table
  row_low : {r k : ℕ} → kind_of s r ≡ k → 0 < k → r < rows_of s
  row_low {r} e h = in_table (right_size right) (λ z. omega arith)

  spaced_low : {r : ℕ} → Spaced s r → r < rows_of s
  spaced_low (inl e) = row_low e (omega arith)
  spaced_low (inr e) = row_low e (omega arith)

  alike_near : {u v l k : ℕ} → Near strings u v → Near strings l k → (r : ℕ) → Alike s u l v k r
  alike_near n m r =
      alike_by (λ e. n.alike (a_of s r) (low_namespace (spaced_low e) e))
      (λ e f. m.alike (b_of s r) (low_local (spaced_low (inr e)) e))

  pub small_name : (c d u l : ℕ) → Common s c d u l → SmallName strings s c d u l
  small_name c d u l h =
      let n = near strings u in
      let m = near strings l in
      record {
        namespace = n.0;
        local = m.0;
        low_namespace = n.1.low;
        low_local = m.1.low;
        most_namespace = n.1.most;
        most_local = m.1.most;
        common = common_alike rows (λ r i. alike_near n.1 m.1 r) (m.1.positive (common_positive h)) h;
      }
