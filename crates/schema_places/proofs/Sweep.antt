-- A sweep over the rows from the last to the first, in which each row marks children of its own: it marks what is below
-- a source.
use Prim.Native.Nat.{ℕ, suc, ◌+◌, ◌≤◌}
use mathlib.Core.Path.{◌≡◌, refl, sym, subst}
use mathlib.Core.Bool.{false≢true}
use mathlib.Core.Logic.{◌⊎◌, inl, inr, ⊎_elim}
use mathlib.Core.List.{List}
use native.Mathlib.Nat.{eq-or-lt_of_le}
use native.Mathlib.Omega.{arith}
use lib.ListN.{get_or-eq_default}
use Rattle.tables.specs.Outputs.{zeros}
use Rattle.schema.specs.RowRule.{max_rows}
use Rattle.schema.specs.Rows.{rows_of, kind_of, shape_of}
use Rattle.schema.specs.Relations.{Child, by_a, by_b, Below, child, deeper}
use Rattle.schema.proofs.Children.{child_less}
use Rattle.schema.specs.Marks.{Marked, Adds}
use Rattle.schema.proofs.Marks.{adds_same}
use Rattle.schema_places.specs.Marks.{MarksExactly, ChildThat, Under}
use Rattle.schema_places.proofs.Marks.{marks_none, marks_same, marks_more}

-- a row that has no kind has no child
childless : {s : List ℕ} {p r : ℕ} → kind_of s p ≡ 0 → ¬ Child s r p
unfolding shape_of
childless {s} {p} e (by_a n f) = false≢true (rw e at n)
childless {s} {p} e (by_b n f) = false≢true (rw e at n)

-- no row from n on has a kind; a row may lack fields at the end of the table, so that n can be one more than the number
-- of rows
pub record RowEnd (s : List ℕ) (n : ℕ) : Type 0 where
  pub few : n ≤ suc max_rows
  pub past : (p : ℕ) → n ≤ p → kind_of s p ≡ 0

-- a row from there on starts past the last word
pub row_end : {s : List ℕ} → rows_of s ≤ max_rows → RowEnd s (rows_of s + 1)
row_end {s} h = record { few = omega arith; past = λ p k. get_or-eq_default s 0 (omega arith) }

-- r is a child of a row from m on, and the row marks it
pub record Swept (s : List ℕ) (Q : ℕ → ℕ → Type 0) (m r : ℕ) : Type 0 where
  pub row : ℕ
  pub late : m ≤ row
  pub child : Child s r row
  pub holds : Q row r

module _ {s : List ℕ} {Q : ℕ → ℕ → Type 0} where
  pub sweep_none : {n : ℕ} (k : ℕ) → RowEnd s n → MarksExactly (Swept s Q n) (zeros k)
  sweep_none k end = marks_none k (λ r w. childless (end.past w.row w.late) w.child)

  pub sweep_more : {m n : ℕ} {t u : List ℕ} → n ≡ suc m → MarksExactly (Swept s Q n) t
      → Adds (ChildThat s m (Q m)) t u → MarksExactly (Swept s Q m) u
  sweep_more {m} {n} e = marks_more left right split
    where
      left : (r : ℕ) → Swept s Q n r → Swept s Q m r
      left r w = let l = w.late in record { row = w.row; late = omega arith; child = w.child; holds = w.holds }

      right : (r : ℕ) → ChildThat s m (Q m) r → Swept s Q m r
      right r k = record { row = m; late = omega arith; child = k.child; holds = k.holds }

      split : (r : ℕ) → Swept s Q m r → Swept s Q n r ⊎ ChildThat s m (Q m) r
      split r w =
          ⊎_elim
          (λ i. inr (subst (λ (p : ℕ). ChildThat s p (Q p) r) (sym i) (record { child = w.child; holds = w.holds })))
          (λ l. inl (record { row = w.row; late = omega arith; child = w.child; holds = w.holds }))
          (eq-or-lt_of_le w.late)

-- the last step of a way down
record LastStep (s : List ℕ) (r q : ℕ) : Type 0 where
  pub row : ℕ
  pub child : Child s r row
  pub rest : (row ≡ q) ⊎ Below s row q

last_step : {s : List ℕ} {r q : ℕ} → Below s r q → LastStep s r q
last_step {s} {r} {q} (child c) = record { row = q; child = c; rest = inl refl }
last_step {s} {r} {q} (deeper c b) = go (last_step b) c
  where
    go : {m : ℕ} → LastStep s r m → Child s m q → LastStep s r q
    go l c = record {
      row = l.row;
      child = l.child;
      rest = inr (⊎_elim (λ e. child (subst (λ m. Child s m q) (sym e) c)) (λ b. deeper c b) l.rest);
    }

pub further : {s : List ℕ} {p q r : ℕ} → Below s p q → Child s r p → Below s r q
further (child c) d = deeper c (child d)
further (deeper c b) d = deeper c (further b d)

-- the children of p are below a source
abbrev pub Passed : List ℕ → (ℕ → Type 0) → ℕ → ℕ → Type 0
Passed s S p r = S p ⊎ Under s S p

module _ {s : List ℕ} {S : ℕ → Type 0} where
  swept_under : (m r : ℕ) → Swept s (Passed s S) m r → Under s S r
  swept_under m r w =
      ⊎_elim
      (λ x. record { row = w.row; source = x; below = child w.child })
      (λ u. record { row = u.row; source = u.source; below = further u.below w.child })
      w.holds

  under_swept : (m r : ℕ) → m ≤ suc r → Under s S r → Swept s (Passed s S) m r
  under_swept m r h u =
      let l = last_step u.below in
      record {
        row = l.row;
        late = omega (arith, child_less l.child);
        child = l.child;
        holds = ⊎_elim (λ e. inl (subst S (sym e) u.source))
            (λ b. inr (record { row = u.row; source = u.source; below = b })) l.rest;
      }

  -- when row m is passed, its mark says already whether it is below a source
  pub sweep_below : {m n : ℕ} {t u : List ℕ} → n ≡ suc m → MarksExactly (Swept s (Passed s S) n) t
      → Adds (ChildThat s m (λ r. S m ⊎ Marked t m)) t u → MarksExactly (Swept s (Passed s S) m) u
  sweep_below {m} {n} {t} e marks adds = sweep_more e marks (adds_same to from adds)
    where
      to : (r : ℕ) → ChildThat s m (λ r. S m ⊎ Marked t m) r → ChildThat s m (Passed s S m) r
      to r k = record {
        child = k.child;
        holds = ⊎_elim (λ x. inl x) (λ h. inr (swept_under n m (marks.sound m h))) k.holds;
      }

      from : (r : ℕ) → ChildThat s m (Passed s S m) r → ChildThat s m (λ r. S m ⊎ Marked t m) r
      from r k = record {
        child = k.child;
        holds = ⊎_elim (λ x. inl x) (λ u. inr (marks.complete m (under_swept n m (omega arith) u))) k.holds;
      }

  pub sweep_end : {m : ℕ} {t : List ℕ} → m ≡ 0 → MarksExactly (Swept s (Passed s S) m) t → MarksExactly (Under s S) t
  sweep_end {m} e = marks_same (swept_under m) (λ r. under_swept m r (omega arith))
