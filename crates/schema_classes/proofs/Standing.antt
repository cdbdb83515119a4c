-- For each number one stands that is mentioned, or is the least that is not: no mentioned number tells the two apart.
use Prim.Native.Nat.{ℕ, zero, suc, ◌+◌, ◌-◌, ◌≤◌, ◌<◌}
use mathlib.Core.Path.{◌≡◌, refl, sym, ◌∙◌}
use mathlib.Core.Bool.{Bool, true, false, true≢false}
use mathlib.Core.Logic.{inl, inr, ⊎_elim}
use mathlib.Core.List.{List}
use native.Mathlib.Decide.{dec_lt}
use native.Mathlib.Omega.{arith}
use lib.Dec.{eqb}
use borrow.Author.Count.{below_more}
use borrow.Author.Tests.{ne_eqb}
use Rattle.schema.specs.Kinds as kind
use Rattle.schema.specs.Relations.{Child}
use Rattle.schema.specs.RowRule.{max_rows}
use Rattle.schema.specs.Rows.{rows_of, sort_of, is_class, child_a, child_b}
use Rattle.schema.proofs.Children.{child_less, child_is, child_a_lem, child_b_lem}
use Rattle.schema_classes.specs.Made.{RowIn, itself, within, SomeRow, Mentioned}
use Rattle.schema_classes.specs.Made.{Fresh, KnownOrFresh, known, fresh}
use Rattle.schema_classes.proofs.SmallModel.{class_low}

pub record Stands (P : ℕ → Type 0) (first v : ℕ) : Type 0 where
  pub by : ℕ
  pub to_try : KnownOrFresh P first by
  pub low : first ≤ by
  pub most : by ≤ v
  pub alike : (x : ℕ) → P x → eqb v x ≡ eqb by x

module _ {P : ℕ → Type 0} (decide : (v : ℕ) → Dec (P v)) (first : ℕ) where
  -- the numbers from the first to w have P, and that k above w has not
  least_new : (k w v : ℕ) → v ≡ k + w → ¬ P v → first ≤ w → ((x : ℕ) → first ≤ x → x < w → P x)
      → (x : ℕ) × Fresh P first x × (x ≤ v)
  least_new zero w v e n low h =
      let f : v ≡ w = omega arith in (w, record { low = low; new = λ p. n (rw f p); least = h }, omega arith)
  least_new (suc k) w v e n low h =
      go (decide w) (λ p. least_new k (w + 1) v (omega arith) n (omega arith)
      (λ x i j. below_more (λ y. first ≤ y → P y) w (λ y a b. h y b a) (λ _. p) x j i))
    where
      go : Dec (P w) → (P w → (x : ℕ) × Fresh P first x × (x ≤ v)) → (x : ℕ) × Fresh P first x × (x ≤ v)
      go (no m) f = (w, record { low = low; new = m; least = h }, omega arith)
      go (yes p) f = f p

  pub stands : (v : ℕ) → first ≤ v → Stands P first v
  stands v low = go (decide v)
    where
      go : Dec (P v) → Stands P first v
      go (yes p) = record { by = v; to_try = known p; low = low; most = omega arith; alike = λ x q. refl }
      go (no n) = chosen (least_new (v - first) first v (omega arith) n (omega arith) (λ x i j. absurd (omega arith)))
        where
          chosen : (x : ℕ) × Fresh P first x × (x ≤ v) → Stands P first v
          chosen (x, f, m) = record {
            by = x;
            to_try = fresh f;
            low = f.low;
            most = m;
            alike = λ y q. ne_eqb v y (λ e. n (rw e q)) ∙ sym (ne_eqb x y (λ e. f.new (rw e q)));
          }

-- whether a row of a class has P
module _ {s : List ℕ} (rows : rows_of s ≤ max_rows) {P : ℕ → Type 0} (decide : (r : ℕ) → Dec (P r)) where
  by_smaller : (c : ℕ) → ((x : ℕ) → x < c → Dec (SomeRow s x P)) → Dec (SomeRow s c P)
  by_smaller c smaller = own (decide c) (is_class (sort_of s c)) refl
    where
      own : Dec (P c) → (t : Bool) → is_class (sort_of s c) ≡ t → Dec (SomeRow s c P)
      own (yes p) t e = yes (record { row = c; inside = itself; has = p })
      own (no m) false e = no (λ x. alone x.inside x.has)
        where
          alone : {r : ℕ} → RowIn s r c → P r → ⊥
          alone itself p = m p
          alone (within k i j) p = true≢false (sym k ∙ e)
      own (no m) true e = fields (field (child_a s c)) (field (child_b s c))
        where
          low : c ≤ kind.no_row
          low = let l = class_low s c rows e in omega arith

          field : (x : ℕ) → Dec ((x < c) × SomeRow s x P)
          field x = at (dec_lt x c)
            where
              at : Dec (x < c) → Dec ((x < c) × SomeRow s x P)
              at (no l) = no (λ y. l y.0)
              at (yes l) = inner (smaller x l)
                where
                  inner : Dec (SomeRow s x P) → Dec ((x < c) × SomeRow s x P)
                  inner (yes y) = yes (l, y)
                  inner (no y) = no (λ z. y z.1)

          through : {m : ℕ} → Child s m c → SomeRow s m P → SomeRow s c P
          through i y = record { row = y.row; inside = within e i y.inside; has = y.has }

          fields : Dec ((child_a s c < c) × SomeRow s (child_a s c) P)
              → Dec ((child_b s c < c) × SomeRow s (child_b s c) P)
              → Dec (SomeRow s c P)
          fields (yes (l, y)) d = yes (through (child_a_lem s c low l) y)
          fields (no y) (yes (l, z)) = yes (through (child_b_lem s c low l) z)
          fields (no y) (no z) = no (λ x. neither x.inside x.has)
            where
              neither : {r : ℕ} → RowIn s r c → P r → ⊥
              neither itself p = m p
              neither {r} (within {m = q} k i j) p =
                  ⊎_elim (λ f. y (rw f (child_less i, record { row = r; inside = j; has = p })))
                  (λ f. z (rw f (child_less i, record { row = r; inside = j; has = p }))) (child_is i)

  below_dec : (n c : ℕ) → c < n → Dec (SomeRow s c P)
  below_dec zero c h = absurd (omega arith)
  below_dec (suc n) c h = by_smaller c (λ x l. below_dec n x (omega arith))

  pub mentioned_dec : (c d : ℕ) → Dec (Mentioned s c d P)
  mentioned_dec c d = go (below_dec (suc c) c (omega arith)) (below_dec (suc d) d (omega arith))
    where
      go : Dec (SomeRow s c P) → Dec (SomeRow s d P) → Dec (Mentioned s c d P)
      go (yes x) e = yes (inl x)
      go (no x) (yes y) = yes (inr y)
      go (no x) (no y) = no (⊎_elim x y)
