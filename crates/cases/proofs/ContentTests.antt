-- Code 6: the content types of rows, computed, and whether a row is at fault.
use Prim.Native.Nat.{ℕ, zero, suc, ◌<◌}
use mathlib.Core.Path.{◌≡◌, refl, sym, ◌∙◌, subst}
use mathlib.Core.Bool.{Bool, true, false, not, cond, true≢false}
use mathlib.Core.List.{List}
use native.Mathlib.Omega.{arith}
use lib.Dec.{eqb}
use borrow.Author.Tests.{eqb-true, eq-eqb}
use Rattle.tables.specs.Answers.{Decides}
use Rattle.schema.specs.Kinds as kind
use Rattle.schema.specs.Rows.{rows_of, kind_of, a_of, b_of, child_a, child_b, names_a, names_b}
use Rattle.schema.specs.Relations.{by_a, by_b, Below}
use Rattle.schema.specs.RowRule.{SizeRight}
use Rattle.schema.proofs.Children.{child_less}
use Rattle.schema.proofs.RowLaws.{few_rows, in_table}
use Rattle.schema_sequences.specs.Content.{Clash, InList, SequenceFault}
use Rattle.schema_sequences.specs.TypeTable.{no_type, type_by, clash_by, TypeIs}
use Rattle.schema_sequences.proofs.Types.{type_is, clash_decides}
use Rattle.schema_sequences.proofs.TypeTables.{no_row_type}
use Rattle.cases.proofs.Tests.{some_below, some_below_lem, below_some, guarded, unguarded}
use Rattle.cases.proofs.DescentTests.{below_test, below_test_lem, test_below}

module _ (s : List ℕ) where
  -- the type of a child that a field names, by the types of smaller rows
  abbrev type_if : Bool → (ℕ → ℕ) → ℕ → ℕ
  type_if named types q = elim named [ true ↦ types q | false ↦ no_type ]

  -- the content type of a row before n, no_type where it has none
  unfoldable pub type_below : ℕ → ℕ → ℕ
  type_below zero r = no_type
  type_below (suc n) r =
      type_by (kind_of s r) (b_of s r) (type_if (names_a s r) (type_below n) (child_a s r))
      (type_if (names_b s r) (type_below n) (child_b s r))

  -- the operands of row r do not go together
  unfoldable pub clash_test : ℕ → Bool
  clash_test r =
      clash_by (kind_of s r) (type_if (names_a s r) (type_below r) (child_a s r))
      (type_if (names_b s r) (type_below r) (child_b s r))

  -- row r is below the list p, and below a list
  abbrev list_above : ℕ → ℕ → Bool
  list_above r p = elim (eqb (kind_of s p) kind.list) [ true ↦ below_test s (eqb r) (rows_of s) p | false ↦ false ]

  unfoldable pub in_list_test : ℕ → Bool
  in_list_test r = some_below (list_above r) (rows_of s)

  -- row r is at fault
  unfoldable pub sequence_test : ℕ → Bool
  sequence_test r = elim (clash_test r) [ true ↦ not (in_list_test r) | false ↦ false ]

  module _ (right : SizeRight s) where
    none_type : TypeIs s kind.no_row no_type
    none_type = no_row_type s kind.no_row right (let l = few_rows right in omega arith)

    -- the child of a row through a field that names one, and through one that does not
    type_if_lem : (named : Bool) (x n : ℕ) → ((q : ℕ) → q < n → TypeIs s q (type_below n q)) → (named ≡ true → x < n)
        → TypeIs s (cond named x kind.no_row) (type_if named (type_below n) (cond named x kind.no_row))
    type_if_lem true x n rest h = rest x (h refl)
    type_if_lem false x n rest h = none_type

    types : (n r : ℕ) → r < n → TypeIs s r (type_below n r)
    unfolding type_below
    types zero r l = absurd (omega arith)
    types (suc n) r l =
        type_is s r _ _
        (type_if_lem (names_a s r) (a_of s r) n (types n)
        (λ e. let h = child_less {s = s} {p = r} (by_a e refl) in omega arith))
        (type_if_lem (names_b s r) (b_of s r) n (types n)
        (λ e. let h = child_less {s = s} {p = r} (by_b e refl) in omega arith))

    clash_test_lem : (r : ℕ) → Decides (Clash s r) (clash_test r)
    unfolding clash_test
    clash_test_lem r =
        clash_decides s r _ _
        (type_if_lem (names_a s r) (a_of s r) r (types r) (λ e. child_less {s = s} {p = r} (by_a e refl)))
        (type_if_lem (names_b s r) (b_of s r) r (types r) (λ e. child_less {s = s} {p = r} (by_b e refl)))

    in_list_test_lem : (r : ℕ) → InList s r → in_list_test r ≡ true
    unfolding in_list_test
    in_list_test_lem r u =
        let l = in_table right {r = u.row} (λ z. omega (arith, u.source, z)) in
        some_below_lem (list_above r) (rows_of s) u.row l (guarded (eqb (kind_of s u.row) kind.list)
        (eq-eqb _ _ u.source) (below_test_lem s (eqb r) (rows_of s) (omega arith) u.below (eq-eqb r r refl)))

    test_in_list : (r : ℕ) → in_list_test r ≡ true → InList s r
    unfolding in_list_test
    test_in_list r h =
        let x = below_some (list_above r) (rows_of s) h in
        let g = unguarded (eqb (kind_of s x.0) kind.list) (below_test s (eqb r) (rows_of s) x.0) x.2 in
        let b = test_below s (eqb r) (rows_of s) x.0 g.1 in
        record {
          row = x.0;
          source = eqb-true _ _ g.0;
          below = subst (λ (q : ℕ). Below s q x.0) (sym (eqb-true r b.0 b.2)) b.1;
        }

    pub sequence_test_lem : (r : ℕ) → Decides (SequenceFault s r) (sequence_test r)
    unfolding sequence_test
    sequence_test_lem r = go (clash_test r) (clash_test_lem r) (in_list_test r) refl
      where
        go : (a : Bool) → Decides (Clash s r) a → (b : Bool) → in_list_test r ≡ b
            → Decides (SequenceFault s r) (elim a as (λ c. Bool) [ true ↦ not b | false ↦ false ])
        go true c true e = λ f. f.outside (test_in_list r e)
        go true c false e = record { clash = c; outside = λ u. true≢false (sym (in_list_test_lem r u) ∙ e) }
        go false c b e = λ f. c f.clash
