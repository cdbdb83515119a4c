-- In a schema that passes: what stands in a list may stand there (10.2.4), what stands in an except is plain (10.2.5),
-- and below start stand choice, ref and notAllowed alone (10.2.6).
use mathlib.Core.Path.{◌≡◌, refl, sym, subst}
use mathlib.Core.Logic.{◌≢◌}
use mathlib.Core.Bool.{true, false, true≢false}
use mathlib.Core.List.{List}
use Prim.Native.Nat.{ℕ, zero, suc, ◌-◌, ◌<◌}
use native.Mathlib.Omega.{arith}
use Rattle.tables.specs.Tables.{Tables}
use Rattle.tables.proofs.Booleans.{is_false}
use Rattle.schema.specs.Kinds as kind
use Rattle.schema.specs.Rows.{rows_of, kind_of, a_of, shape_of, sort_of, is_pattern}
use Rattle.schema.specs.RowRule.{without_row}
use Rattle.schema.specs.Relations.{Child, by_a, Below, child}
use Rattle.schema.specs.Views.{Pattern, pattern_of, data_except, list}
use Rattle.schema.proofs.Children.{child_less}
use Rattle.schema.proofs.Fields.{pattern_a, pattern_kind, PatternKind}
use Rattle.schema.proofs.RowLaws.{right_size}
use Rattle.schema.proofs.Sorts.{last_kind}
use Rattle.schema_places.specs.Paths.{not_in_list, not_in_except, not_in_start, in_start}
use Rattle.schema_places.proofs.Sweep.{further}
use Rattle.schema_restrictions.specs.Schema.{SchemaPasses}
use Rattle.schema_restrictions.proofs.Passes.{list_flat, list_no_not_allowed, except_plain}
use Rattle.matching_rules.specs.Items.{Lookups}
use Rattle.matching_rules.specs.Job.{lookups, start_row}
use Rattle.matching_rules.specs.Reach.{Subpattern, operand, repeated, choice_first, choice_second}
use Rattle.matching_rules.specs.Reach.{group_first, group_second, of_list, of_except}
use Rattle.matching_rules.specs.Restricted.{Plain, plain_not_allowed, plain_value, plain_data, plain_except}
use Rattle.matching_rules.specs.Restricted.{plain_choice, Starts, starts_not_allowed, starts_ref, starts_choice}
use Rattle.matching_rules.specs.Restricted.{Listable, listable_empty, listable_value, listable_data}
use Rattle.matching_rules.specs.Restricted.{listable_except, listable_one_or_more, listable_choice, listable_group}
use Rattle.matching_rules.proofs.RowPatterns.{has_kind, Makes, makes_empty, makes_not_allowed, makes_text}
use Rattle.matching_rules.proofs.RowPatterns.{makes_data, makes_except, makes_value, makes_list}
use Rattle.matching_rules.proofs.RowPatterns.{makes_attribute, makes_ref, makes_one_or_more, makes_choice}
use Rattle.matching_rules.proofs.RowPatterns.{makes_group, makes_interleave, makes_none, row_makes}
use Rattle.matching_rules.proofs.RowPatterns.{from_except, from_list, part_child, part_pattern}

module _ (L : Lookups) where
  -- a pattern whose kind may stand in an except is plain if its parts are
  plain_made : {k a b : ℕ} {x : Pattern} → Makes k a b x → PatternKind k
      → not_in_except k ≡ false → ((q : ℕ) → Subpattern q x → Plain L (L.pattern q)) → Plain L x
  plain_made (makes_empty e) i f below = absurd (true≢false (rw e at f))
  plain_made (makes_not_allowed e) i f below = plain_not_allowed
  plain_made (makes_text e) i f below = absurd (true≢false (rw e at f))
  plain_made (makes_data e g) i f below = plain_data
  plain_made (makes_except e g) i f below = plain_except (below _ of_except)
  plain_made (makes_value e) i f below = plain_value
  plain_made (makes_list e) i f below = absurd (true≢false (rw e at f))
  plain_made (makes_attribute e) i f below = absurd (true≢false (rw e at f))
  plain_made (makes_ref e) i f below = absurd (true≢false (rw e at f))
  plain_made (makes_one_or_more e) i f below = absurd (true≢false (rw e at f))
  plain_made (makes_choice e) i f below =
      plain_choice (below _ (operand choice_first)) (below _ (operand choice_second))
  plain_made (makes_group e) i f below = absurd (true≢false (rw e at f))
  plain_made (makes_interleave e) i f below = absurd (true≢false (rw e at f))
  plain_made (makes_none n) i f below = absurd (n i)

  -- the same below start
  starts_made : {k a b : ℕ} {x : Pattern} → Makes k a b x → PatternKind k
      → not_in_start k ≡ false → ((q : ℕ) → Subpattern q x → Starts L (L.pattern q)) → Starts L x
  starts_made (makes_empty e) i f below = absurd (true≢false (rw e at f))
  starts_made (makes_not_allowed e) i f below = starts_not_allowed
  starts_made (makes_text e) i f below = absurd (true≢false (rw e at f))
  starts_made (makes_data e g) i f below = absurd (true≢false (rw e at f))
  starts_made (makes_except e g) i f below = absurd (true≢false (rw e at f))
  starts_made (makes_value e) i f below = absurd (true≢false (rw e at f))
  starts_made (makes_list e) i f below = absurd (true≢false (rw e at f))
  starts_made (makes_attribute e) i f below = absurd (true≢false (rw e at f))
  starts_made (makes_ref e) i f below = starts_ref
  starts_made (makes_one_or_more e) i f below = absurd (true≢false (rw e at f))
  starts_made (makes_choice e) i f below =
      starts_choice (below _ (operand choice_first)) (below _ (operand choice_second))
  starts_made (makes_group e) i f below = absurd (true≢false (rw e at f))
  starts_made (makes_interleave e) i f below = absurd (true≢false (rw e at f))
  starts_made (makes_none n) i f below = absurd (n i)

  -- and below a list, where an except is plain
  listable_made :
      {k a b : ℕ} {x : Pattern} → Makes k a b x → PatternKind k → not_in_list k ≡ false
      → k ≢ kind.not_allowed → ((t q : ℕ) → x ≡ data_except t q → Plain L (L.pattern q))
      → ((q : ℕ) → Subpattern q x → Listable L (L.pattern q)) → Listable L x
  listable_made (makes_empty e) i f n plain below = listable_empty
  listable_made (makes_not_allowed e) i f n plain below = absurd (n e)
  listable_made (makes_text e) i f n plain below = absurd (true≢false (rw e at f))
  listable_made (makes_data e g) i f n plain below = listable_data
  listable_made (makes_except e g) i f n plain below = listable_except (plain _ _ refl)
  listable_made (makes_value e) i f n plain below = listable_value
  listable_made (makes_list e) i f n plain below = absurd (true≢false (rw e at f))
  listable_made (makes_attribute e) i f n plain below = absurd (true≢false (rw e at f))
  listable_made (makes_ref e) i f n plain below = absurd (true≢false (rw e at f))
  listable_made (makes_one_or_more e) i f n plain below = listable_one_or_more (below _ (operand repeated))
  listable_made (makes_choice e) i f n plain below =
      listable_choice (below _ (operand choice_first)) (below _ (operand choice_second))
  listable_made (makes_group e) i f n plain below =
      listable_group (below _ (operand group_first)) (below _ (operand group_second))
  listable_made (makes_interleave e) i f n plain below = absurd (true≢false (rw e at f))
  listable_made (makes_none m) i f n plain below = absurd (m i)

module _ {strings : ℕ} {s : List ℕ} (pass : SchemaPasses strings s) where
  -- P holds of every pattern below row p, where it holds of a row by the patterns below the row
  below_all : (P : ℕ → Type 0) (p : ℕ)
      → ((r : ℕ) → Below s r p → is_pattern (sort_of s r) ≡ true → ((q : ℕ) → Subpattern q (pattern_of s r) → P q)
      → P r)
      → (n r : ℕ) → r < n → Below s r p → is_pattern (sort_of s r) ≡ true → P r
  below_all P p step zero r h b i = absurd (omega arith)
  below_all P p step (suc n) r h b i =
      step r b i (λ q d. let c = part_child pass.rows r d in let l = child_less c in
      below_all P p step n q (omega arith) (further b c) (part_pattern pass.rows r d))

  some_row : rows_of s ≢ 0
  some_row e = right_size pass.rows 0 (without_row e refl)

  -- the last row is start, and its pattern a child
  pub start_kind : kind_of s (rows_of s - 1) ≡ kind.start
  start_kind =
      let n = some_row in
      last_kind strings s pass.rows (rows_of s - 1) (omega arith) (omega arith)

  start_pattern : Child s (a_of s (rows_of s - 1)) (rows_of s - 1)
      × (is_pattern (sort_of s (a_of s (rows_of s - 1))) ≡ true)
  unfolding shape_of
  start_pattern =
      let i = pattern_a strings s pass.rows (rows_of s - 1)
      (has_kind pass.rows start_kind (λ z. omega arith)) kind.start start_kind refl in
      (by_a i.0 refl, i.1)

  pub start_child : Child s (a_of s (rows_of s - 1)) (rows_of s - 1)
  start_child = start_pattern.0

  in_start_right : (r : ℕ) → Below s r (rows_of s - 1) → not_in_start (kind_of s r) ≡ false
  in_start_right r b =
      is_false (not_in_start (kind_of s r)) (λ f. pass.paths r (in_start (rows_of s - 1) f start_kind b))

module _ {strings : ℕ} (J : Tables) (pass : SchemaPasses strings J.schema) where
  pub excepts_plain : (p d q : ℕ) → pattern_of J.schema p ≡ data_except d q
      → Plain (lookups J) (pattern_of J.schema q)
  excepts_plain p d q e =
      let m = from_except (row_makes J.schema p e) in
      let part : Subpattern q (pattern_of J.schema p) = subst (Subpattern q) (sym e) of_except in
      below_all pass (λ (r : ℕ). Plain (lookups J) (pattern_of J.schema r)) p
      (λ r b i below. plain_made (lookups J) (row_makes J.schema r refl)
      (pattern_kind (kind_of J.schema r) i) (except_plain pass r p m.0 b) below)
      (suc q) q (omega arith) (child (part_child pass.rows p part)) (part_pattern pass.rows p part)

  pub lists_listable : (p q : ℕ) → pattern_of J.schema p ≡ list q → Listable (lookups J) (pattern_of J.schema q)
  lists_listable p q e =
      let k = (from_list (row_makes J.schema p e)).0 in
      let part : Subpattern q (pattern_of J.schema p) = subst (Subpattern q) (sym e) of_list in
      below_all pass (λ (r : ℕ). Listable (lookups J) (pattern_of J.schema r)) p
      (λ r b i below. listable_made (lookups J) (row_makes J.schema r refl) (pattern_kind (kind_of J.schema r) i)
      (list_flat pass r p k b) (list_no_not_allowed pass r p k b) (excepts_plain r) below)
      (suc q) q (omega arith) (child (part_child pass.rows p part)) (part_pattern pass.rows p part)

  pub start_starts : Starts (lookups J) (pattern_of J.schema (a_of J.schema (start_row J)))
  start_starts =
      below_all pass (λ (r : ℕ). Starts (lookups J) (pattern_of J.schema r)) (rows_of J.schema - 1)
      (λ r b i below. starts_made (lookups J) (row_makes J.schema r refl)
      (pattern_kind (kind_of J.schema r) i) (in_start_right pass r b) below)
      (suc (a_of J.schema (rows_of J.schema - 1))) (a_of J.schema (rows_of J.schema - 1))
      (omega arith) (child (start_child pass)) (start_pattern pass).1
