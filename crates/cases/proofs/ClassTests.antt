-- Names common to two classes: whether there is one, and which is least.
use Prim.Native.Nat.{ℕ, suc, ◌<◌, ◌≤◌}
use mathlib.Core.Path.{◌≡◌}
use mathlib.Core.Bool.{Bool, true, not, ◌&&◌, ◌||◌}
use mathlib.Core.List.{List}
use mathlib.Core.Logic.{inl, inr}
use native.Mathlib.Decide.{dec_lt}
use native.Mathlib.Omega.{arith}
use lib.Dec.{eqb, ltb}
use borrow.Author.Tests.{eqb-true, lt-ltb, ltb-true}
use Rattle.tables.proofs.Numbers.{not_less}
use Rattle.schema.specs.RowRule.{RowsRight}
use Rattle.schema_classes.specs.Membership.{in_class}
use Rattle.schema_classes.specs.Least.{Common, NotAfter, LeastCommon}
use Rattle.std.specs.Prelude.{Some}
use Rattle.schema_classes.proofs.SmallNames.{small_name}
use Rattle.tables.proofs.Booleans.{or_either, and_left, and_right, both_and}
use Rattle.cases.proofs.Tests.{every_below, every_below_lem, some_below, some_below_lem, below_some, no_of}

-- the numbers of small names are less than this
abbrev bound : ℕ → ℕ
bound strings = suc (suc strings)

module _ (strings : ℕ) (s : List ℕ) (c d : ℕ) where
  abbrev both_hold : ℕ → ℕ → Bool
  both_hold u l = in_class s u l c && in_class s u l d

  -- the classes at rows c and d have a name in common
  unfoldable pub meet_test : Bool
  meet_test = some_below (λ u. some_below (both_hold u) (bound strings)) (bound strings)

  pub test_meet : meet_test ≡ true → (u : ℕ) × (l : ℕ) × Common s c d u l
  unfolding meet_test
  test_meet e =
      let x = below_some (λ u. some_below (both_hold u) (bound strings)) (bound strings) e in
      let y = below_some (both_hold x.0) (bound strings) x.2 in (
        x.0,
        y.0,
        record {
          first = and_left (in_class s x.0 y.0 c) (in_class s x.0 y.0 d) y.2;
          second = and_right (in_class s x.0 y.0 c) (in_class s x.0 y.0 d) y.2;
        },
      )

  pub meet_test_lem : RowsRight strings s → (u l : ℕ) → Common s c d u l → meet_test ≡ true
  unfolding meet_test
  meet_test_lem right u l h =
      let n = small_name right c d u l h in
      let a = n.low_namespace in
      let b = n.low_local in
      some_below_lem (λ u. some_below (both_hold u) (bound strings)) (bound strings) n.namespace (omega arith)
      (some_below_lem (both_hold n.namespace) (bound strings) n.local
      (omega arith) (both_and n.common.first n.common.second))

  -- the name u, l is common, and no small one that is comes before it
  module _ (u l : ℕ) where
    abbrev not_before : ℕ → ℕ → Bool
    not_before v k = ltb u v || eqb u v && not (ltb k l)

    abbrev later_test : ℕ → ℕ → Bool
    later_test v k = not (both_hold v k) || not_before v k

    abbrev all_later : Bool
    all_later = every_below (λ v. every_below (later_test v) (bound strings)) (bound strings)

    unfoldable pub least_test : Bool
    least_test = both_hold u l && all_later

    not_before_lem : (v k : ℕ) → not_before v k ≡ true → NotAfter u l v k
    not_before_lem v k e =
        elim (or_either (ltb u v) (eqb u v && not (ltb k l)) e) [
          | inl z ↦ inl (ltb-true u v z)
          | inr z ↦ inr (
            eqb-true u v (and_left (eqb u v) (not (ltb k l)) z),
            not_less (λ h. no_of (and_right (eqb u v) (not (ltb k l)) z) (lt-ltb k l h)),
          )
        ]

    later : (v k x y : ℕ) → x ≤ v → y ≤ k → NotAfter u l x y → NotAfter u l v k
    later v k x y i j (inl h) = inl (omega arith)
    later v k x y i j (inr h) = go (dec_lt u v)
      where
        go : Dec (u < v) → NotAfter u l v k
        go (yes z) = inl z
        go (no z) = let a = h.0 in let b = h.1 in inr (omega arith, omega arith)

    pub least_test_lem : RowsRight strings s → least_test ≡ true
        → LeastCommon s c d (Some (record { namespace = u; local = l }))
    unfolding least_test
    least_test_lem right pass = (
      record {
        first = and_left (in_class s u l c) (in_class s u l d) here;
        second = and_right (in_class s u l c) (in_class s u l d) here;
      },
      first,
    )
      where
        here : both_hold u l ≡ true
        here = and_left (both_hold u l) all_later pass

        tested : (v k : ℕ) → v < bound strings → k < bound strings → later_test v k ≡ true
        tested v k i j =
            every_below_lem (later_test v) (bound strings)
            (every_below_lem (λ v. every_below (later_test v) (bound strings))
            (bound strings) (and_right (both_hold u l) all_later pass) v i) k j

        first : (v k : ℕ) → Common s c d v k → NotAfter u l v k
        first v k h =
            let n = small_name right c d v k h in
            let a = n.low_namespace in
            let b = n.low_local in
            let x : ℕ = n.namespace in
            let y : ℕ = n.local in
            later v k x y n.most_namespace n.most_local
            (elim (or_either (not (both_hold x y)) (not_before x y) (tested x y (omega arith) (omega arith))) [
              | inl e ↦ absurd (no_of e (both_and n.common.first n.common.second))
              | inr e ↦ not_before_lem x y e
            ])
