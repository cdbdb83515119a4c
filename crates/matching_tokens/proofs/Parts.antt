-- No row stands in two parts of a tree that a schema shows: a row has one parent.
use mathlib.Core.Path.{◌≡◌, refl, sym, subst}
use mathlib.Core.Logic.{◌≢◌}
use mathlib.Core.List.{List}
use Prim.Native.Nat.{ℕ}
use native.Mathlib.Omega.{arith}
use Rattle.tables.specs.Tables.{Tables}
use Rattle.schema.specs.Rows.{kind_of, a_of, b_of, shape_of}
use Rattle.schema.specs.RowRule.{RowsRight}
use Rattle.schema.specs.Relations.{Child, by_a, by_b}
use Rattle.schema.specs.Views.{pattern_of}
use Rattle.schema.specs.Views as pattern
use Rattle.schema.specs.declared.Field.TheVariants.{APattern}
use Rattle.schema.proofs.Fields.{pattern_a, pattern_b}
use Rattle.schema.proofs.OneParent.{two_children, Upward, arrived, upward_more, apart_below}
use Rattle.matching_rules.specs.Job.{lookups}
use Rattle.matching_rules.specs.Reach.{Subpattern, operand, repeated}
use Rattle.matching_rules.proofs.RowPatterns.{row_makes, from_choice, from_group, has_kind, part_child}
use Rattle.matching_tokens.specs.Marked.{Tree, Shows, shows_empty, shows_leaf, shows_one_or_more}
use Rattle.matching_tokens.specs.Marked.{shows_choice, shows_group, In, in_root, in_part, in_choice_1}
use Rattle.matching_tokens.specs.Marked.{in_choice_2, in_group_1, in_group_2, Apart, Proper}

module _ {strings : ℕ} (J : Tables) (right : RowsRight strings J.schema) where
  abbrev s : List ℕ
  s = J.schema

  -- the two parts of a choice or group
  record Parts (r a b : ℕ) : Type 0 where
    first : Child s a r
    second : Child s b r
    two : a ≢ b

  two_parts : (r : ℕ) {k : ℕ} → kind_of s r ≡ k → k ≢ 0 → (shape_of k).a ≡ APattern
      → (shape_of k).b ≡ APattern → Parts r (a_of s r) (b_of s r)
  two_parts r {k} e n f g =
      let h = has_kind right e n in
      let a = (pattern_a strings s right r h k e f).0 in
      let b = (pattern_b strings s right r h k e g).0 in
      record { first = by_a a refl; second = by_b b refl; two = two_children right r a b }

  choice_parts : {r a b : ℕ} → pattern_of s r ≡ pattern.choice a b → Parts r a b
  unfolding shape_of
  choice_parts {r} e =
      let m = from_choice (row_makes s r e) in
      rw (m.1, m.2) at (two_parts r m.0 (λ z. omega arith) refl refl)

  group_parts : {r a b : ℕ} → pattern_of s r ≡ pattern.group a b → Parts r a b
  unfolding shape_of
  group_parts {r} e =
      let m = from_group (row_makes s r e) in
      rw (m.1, m.2) at (two_parts r m.0 (λ z. omega arith) refl refl)

  module _ (NotMatch : List ℕ → ℕ → Type 0) where
    root_upward : {r i : ℕ} → r ≡ i → Upward s r i
    root_upward {r} e = subst (Upward s r) e arrived

    -- a row of a tree is the tree's own or below it
    in_upward : {r i : ℕ} {p : Tree} → Shows (lookups J) NotMatch r p → In i p → Upward s r i
    in_upward (shows_empty e) (in_root f) = root_upward f
    in_upward (shows_leaf d t) (in_root f) = root_upward f
    in_upward (shows_one_or_more e h u) (in_root f) = root_upward f
    in_upward (shows_one_or_more {r = r} {a = a} e h u) (in_part j) =
        upward_more (part_child right r (subst (Subpattern a) (sym e) (operand repeated))) (in_upward u j)
    in_upward (shows_choice e h k u v) (in_root f) = root_upward f
    in_upward (shows_choice e h k u v) (in_choice_1 j) = upward_more (choice_parts e).first (in_upward u j)
    in_upward (shows_choice e h k u v) (in_choice_2 j) = upward_more (choice_parts e).second (in_upward v j)
    in_upward (shows_group e h k u v) (in_root f) = root_upward f
    in_upward (shows_group e h k u v) (in_group_1 j) = upward_more (group_parts e).first (in_upward u j)
    in_upward (shows_group e h k u v) (in_group_2 j) = upward_more (group_parts e).second (in_upward v j)

    apart : {r a b : ℕ} {p q : Tree} → Parts r a b → Shows (lookups J) NotMatch a p
        → Shows (lookups J) NotMatch b q → Apart p q
    apart w u v i j k = apart_below right w.first w.second w.two (in_upward u j) (in_upward v k)

    pub proper : {r : ℕ} {p : Tree} → Shows (lookups J) NotMatch r p → Proper p
    proper (shows_empty e) = tt
    proper (shows_leaf d t) = tt
    proper (shows_one_or_more e h u) = proper u
    proper (shows_choice e h k u v) = (apart (choice_parts e) u v, proper u, proper v)
    proper (shows_group e h k u v) = (apart (group_parts e) u v, proper u, proper v)
