-- A class of few rows mentions few numbers, so that one of the first is fresh.
use Prim.Native.Nat.{ℕ, zero, suc, ◌+◌, ◌-◌, ◌≤◌, ◌<◌}
use mathlib.Core.Path.{◌≡◌, refl, sym, ◌∙◌, ap}
use mathlib.Core.Bool.{cond}
use mathlib.Core.Logic.{⊎_elim}
use mathlib.Core.List.{List}
use native.Mathlib.Decide.{dec_lt, ℕ_discrete}
use native.Mathlib.Omega.{arith}
use lib.Dec.{eqb}
use borrow.Author.Tests.{eq-eqb, ne_eqb}
use Rattle.schema.specs.RowRule.{max_rows}
use Rattle.schema.specs.Rows.{rows_of, a_of, b_of}
use Rattle.schema_classes.specs.Search.{RowMentions, by_ns_name, by_name, Mentions, OneMentions, least_of}
use Rattle.schema_classes.specs.declared.Part.{Part}
use Rattle.schema_classes.specs.declared.Part.TheVariants.{Namespace, LocalBeside}
use Rattle.schema_classes.proofs.Mentions.{mention_class}
use Rattle.schema_classes.proofs.Searching.{Counting}
use Rattle.schema_classes.proofs.SmallModel.{class_low}

-- f takes the value x before n
record Taken (f : ℕ → ℕ) (n x : ℕ) : Type 0 where
  at : ℕ
  before : at < n
  is : f at ≡ x

crowded : (n : ℕ) (f : ℕ → ℕ) → ((x : ℕ) → x ≤ n → Taken f n x) → ⊥
crowded zero f h = omega (arith, (h 0 (omega arith)).before)
crowded (suc n) f h = crowded n moved taken
  where
    top : Taken f (suc n) (suc n)
    top = h (suc n) (omega arith)

    moved : ℕ → ℕ
    moved i = cond (eqb i top.at) (f n) (f i)

    taken : (x : ℕ) → x ≤ n → Taken moved n x
    taken x l = go (h x (omega arith))
      where
        go : Taken f (suc n) x → Taken moved n x
        go t = pick (ℕ_discrete t.at top.at) (ℕ_discrete t.at n)
          where
            pick : Dec (t.at ≡ top.at) → Dec (t.at ≡ n) → Taken moved n x
            pick (yes e) d = absurd (omega (arith, sym t.is ∙ ap f e ∙ top.is))
            pick (no e) (yes g) =
                record {
                  at = top.at;
                  before = omega (arith, top.before);
                  is = rw (eq-eqb top.at top.at refl, ← g) t.is;
                }
            pick (no e) (no g) =
                record { at = t.at; before = omega (arith, t.before); is = rw (ne_eqb t.at top.at e) t.is }

-- the field that a row mentions a part by
number_of : List ℕ → Part → ℕ → ℕ
number_of s Namespace r = a_of s r
number_of s (LocalBeside u) r = b_of s r

number_is : {s : List ℕ} (part : Part) {v r : ℕ} → RowMentions s part v r → number_of s part r ≡ v
unfolding number_of
number_is Namespace (by_ns_name k e) = e
number_is Namespace (by_name k e) = e
number_is (LocalBeside u) (by_ns_name k e) = absurd e
number_is (LocalBeside u) (by_name k e) = e.1

module _ {s : List ℕ} (rows : rows_of s ≤ max_rows) (c d : ℕ) (part : Part) where
  by_row : (from v x : ℕ) → v ≡ from + x → OneMentions s c d part v
      → Taken (λ i. number_of s part i - from) (max_rows + 1) x
  by_row from v x e = ⊎_elim (one c) (one d)
    where
      one : (c : ℕ) → Mentions s part c v → Taken (λ i. number_of s part i - from) (max_rows + 1) x
      one c m =
          let l = class_low s m.row rows (mention_class s m.has) in
          let g = number_is part m.has in
          record { at = m.row; before = omega arith; is = omega arith }

  -- if each number from one on and before another is mentioned, these are no more than the rows
  few : (from x : ℕ) → ((v : ℕ) → from ≤ v → v < x → OneMentions s c d part v) → x ≤ from + (max_rows + 1)
  few from x h = go (dec_lt (from + (max_rows + 1)) x)
    where
      go : Dec (from + (max_rows + 1) < x) → x ≤ from + (max_rows + 1)
      go (no l) = omega arith
      go (yes l) =
          absurd (crowded (max_rows + 1) (λ i. number_of s part i - from)
          (λ y k. by_row from (from + y) y refl (h (from + y) (omega arith) (omega arith))))

  pub count_low : {x : ℕ} → Counting (OneMentions s c d part) (least_of part) x → x ≤ least_of part + (max_rows + 1)
  count_low {x} a = few (least_of part) x a.least

pub least_small : (part : Part) → least_of part ≤ 1
least_small Namespace = omega arith
least_small (LocalBeside u) = omega arith
