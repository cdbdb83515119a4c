-- A test of a row of the table of cases, and that a row that succeeds holds.
use Prim.Native.Nat.{ℕ, ◌<◌}
use mathlib.Core.Path.{◌≡◌, sym, subst}
use mathlib.Core.Bool.{Bool, true, false, not, ◌&&◌, ◌||◌, false≢true}
use mathlib.Core.List.{List, [], ◌∷◌, Memᴰ}
use mathlib.Core.Logic.Iff
use mathlib.Core.Logic.{inl, inr, ◌↔◌}
use native.Mathlib.Omega.{arith}
use lib.Dec.{eqb, ltb}
use borrow.Author.Tests.{eqb-true, ltb-true}
use Rattle.tables.specs.Tables.{StringTable}
use Rattle.std.specs.Prelude.{Ok}
use Rattle.tables.specs.Codes.{goes_on, Passes}
use Rattle.schema.specs.Rows as schema
use Rattle.schema.proofs.RowLaws.{in_table, right_size}
use Rattle.schema.proofs.Sorts.{definition_kind}
use Rattle.strings.specs.Strings.{StringsRight, schema_strings, instance_strings}
use Rattle.instance.specs.Nodes.{nodes_of}
use Rattle.instance.specs.NodeRule.{NodesRight}
use Rattle.instance.proofs.Size.{some_node}
use Rattle.instance.specs.Elements.{is_element}
use Rattle.schema_restrictions.specs.Schema.{SchemaPasses}
use Rattle.schema_restrictions.proofs.Passes.{passes}
use Rattle.relaxng.specs.Promises.{SchemaRefusal}
use Rattle.matching_rules.specs.Job.{lookups, Pair, Valid}
use Rattle.matching_rules.specs.Listed.{Precedes, Rising, rising_none, rising_one, rising_more, Lists}
use Rattle.matching_rules.specs.Rules.{Proved, NotMatchBy}
use Rattle.tables.proofs.Booleans.{or_either, and_left, and_right}
use Rattle.matching_rules.proofs.Inversion.{against}
use Rattle.cases.specs.Meaning.{tables_at, Expected, matches, least, refused, Row, IsValid}
use Rattle.cases.specs.Meaning.{NotRefused, Matching, CaseSays, CaseHolds, AllHold, none_left, holds}
use Rattle.cases.proofs.Tests.{every_below, every_below_lem, no_of}
use Rattle.cases.proofs.ClassTests.{least_test, least_test_lem}
use Rattle.cases.proofs.InstanceTests.{nodes_test, nodes_right, width_test, not_wide}
use Rattle.cases.proofs.PairTests.{pair_test, pair_decided, valid_test, valid_decided}
use Rattle.cases.proofs.SchemaVerdicts.{pass_test, schema_rows, schema_passes, refused_test, schema_refused}

-- each pair precedes the next
abbrev precedes : ℕ × ℕ → ℕ × ℕ → Bool
precedes x y = ltb x.0 y.0 || eqb x.0 y.0 && ltb x.1 y.1

abbrev rising_test : List (ℕ × ℕ) → Bool
rising_test [] = true
rising_test (x ∷ []) = true
rising_test (x ∷ y ∷ l) = precedes x y && rising_test (y ∷ l)

rising_test_lem : (l : List (ℕ × ℕ)) → rising_test l ≡ true → Rising l
rising_test_lem [] e = rising_none
rising_test_lem (x ∷ []) e = rising_one
rising_test_lem (x ∷ y ∷ l) e =
    rising_more (before (and_left (precedes x y) (rising_test (y ∷ l)) e))
    (rising_test_lem (y ∷ l) (and_right (precedes x y) (rising_test (y ∷ l)) e))
  where
    before : precedes x y ≡ true → Precedes x y
    before h =
        elim (or_either (ltb x.0 y.0) (eqb x.0 y.0 && ltb x.1 y.1) h) [
          | inl z ↦ inl (ltb-true x.0 y.0 z)
          | inr z ↦ inr (
            eqb-true x.0 y.0 (and_left (eqb x.0 y.0) (ltb x.1 y.1) z),
            ltb-true x.1 y.1 (and_right (eqb x.0 y.0) (ltb x.1 y.1) z),
          )
        ]

-- every pair of a list passes a test, and a pair is listed
abbrev every_pair : (ℕ → ℕ → Bool) → List (ℕ × ℕ) → Bool
every_pair t [] = true
every_pair t (x ∷ l) = t x.0 x.1 && every_pair t l

every_pair_lem : (t : ℕ → ℕ → Bool) (l : List (ℕ × ℕ)) → every_pair t l ≡ true
    → (e d : ℕ) → Memᴰ (e, d) l → t e d ≡ true
every_pair_lem t [] h e d x'' = elim x'' [ ]
every_pair_lem t (x ∷ l) h e d (Memᴰ.head z) =
    subst (λ (y : ℕ × ℕ). t y.0 y.1 ≡ true) (sym z) (and_left (t x.0 x.1) (every_pair t l) h)
every_pair_lem t (x ∷ l) h e d (Memᴰ.tail m) = every_pair_lem t l (and_right (t x.0 x.1) (every_pair t l) h) e d m

abbrev listed_test : ℕ → ℕ → List (ℕ × ℕ) → Bool
listed_test e d [] = false
listed_test e d (x ∷ l) = eqb e x.0 && eqb d x.1 || listed_test e d l

listed_test_lem : (e d : ℕ) (l : List (ℕ × ℕ)) → listed_test e d l ≡ true → Memᴰ (e, d) l
listed_test_lem e d [] h = absurd (false≢true h)
listed_test_lem e d (x ∷ l) h =
    elim (or_either (eqb e x.0 && eqb d x.1) (listed_test e d l) h) [
      | inl z ↦ Memᴰ.head (same (eqb-true e x.0 (and_left (eqb e x.0) (eqb d x.1) z))
          (eqb-true d x.1 (and_right (eqb e x.0) (eqb d x.1) z)))
      | inr z ↦ Memᴰ.tail (listed_test_lem e d l z)
    ]
  where
    same : e ≡ x.0 → d ≡ x.1 → (e, d) ≡ x
    same f g = rw (f, g)

module _ (r : Row) where
  abbrev s : List ℕ
  s = r.schema

  abbrev t : List ℕ
  t = r.instance

  abbrev paired : ℕ → ℕ → Bool
  paired = pair_test (tables_at r) (nodes_of r.instance)

  -- what the list says is so, and what is so the list says
  abbrev sound_test : ℕ → ℕ → Bool
  sound_test e d = ltb e (nodes_of t) && (is_element t e && paired e d)

  abbrev complete_test : List (ℕ × ℕ) → ℕ → ℕ → Bool
  complete_test pairs e d =
      elim (is_element t e) [ true ↦ elim (paired e d) [ true ↦ listed_test e d pairs | false ↦ true ] | false ↦ true ]

  abbrev all_listed : List (ℕ × ℕ) → Bool
  all_listed pairs = every_below (λ e. every_below (complete_test pairs e) (schema.rows_of s)) (nodes_of t)

  abbrev valid_is : Bool → Bool
  valid_is true = valid_test (tables_at r)
  valid_is false = not (valid_test (tables_at r))

  abbrev job_test : Bool
  job_test =
      pass_test (tables_at r).strings s
      && (nodes_test (instance_strings (tables_at r).strings) t
      && width_test (instance_strings (tables_at r).strings) t)

  abbrev list_test : List (ℕ × ℕ) → Bool
  list_test pairs = rising_test pairs && (every_pair sound_test pairs && all_listed pairs)

  abbrev matches_test : List (ℕ × ℕ) → Bool → Bool
  matches_test pairs valid = job_test && (list_test pairs && valid_is valid)

  -- from the verdict on the tables
  strings_of : {T : StringTable} {s : List ℕ} → SchemaRefusal T s Passes (Ok tt) → StringsRight T
  strings_of (goes_on strings x) = strings

  passes_of : {T : StringTable} {s : List ℕ} → SchemaRefusal T s Passes (Ok tt) → SchemaPasses (schema_strings T) s
  passes_of (goes_on strings x) = passes x

  module _ (refusal : NotRefused r) (nodes : NodesRight (instance_strings (tables_at r).strings) t) where
    proved_iff : (e d : ℕ) → e < nodes_of t → (paired e d ≡ true) ↔ Proved (lookups (tables_at r)) e d
    proved_iff e d h =
        Iff.trans (pair_decided (tables_at r) (strings_of refusal)
        (passes_of refusal) nodes (nodes_of t) e d h (omega arith))
        (Iff.symm (against (lookups (tables_at r)) (NotMatchBy (lookups (tables_at r)) (schema.rows_of s)) e d))

    lists : (pairs : List (ℕ × ℕ)) → every_pair sound_test pairs ≡ true
        → all_listed pairs ≡ true → Lists (Pair (tables_at r)) pairs
    lists pairs f g = record { sound = sound; complete = complete }
      where
        sound : (e d : ℕ) → Memᴰ (e, d) pairs → Pair (tables_at r) e d
        sound e d m =
            let h = every_pair_lem sound_test pairs f e d m in
            let l = ltb-true e (nodes_of t) (and_left (ltb e (nodes_of t)) (is_element t e && paired e d) h) in
            let k = and_right (ltb e (nodes_of t)) (is_element t e && paired e d) h in (
              l,
              and_left (is_element t e) (paired e d) k,
              (proved_iff e d l).0 (and_right (is_element t e) (paired e d) k),
            )

        go : (e d : ℕ) (a b : Bool) → a ≡ true → b ≡ true
            → elim a [ true ↦ elim b [ true ↦ listed_test e d pairs | false ↦ true ] | false ↦ true ] ≡ true
            → listed_test e d pairs ≡ true
        go e d true true i j h = h
        go e d true false i j h = absurd (false≢true j)
        go e d false b i j h = absurd (false≢true i)

        complete : (e d : ℕ) → Pair (tables_at r) e d → Memᴰ (e, d) pairs
        complete e d p =
            let q = (against (lookups (tables_at r))
            (NotMatchBy (lookups (tables_at r)) (schema.rows_of s)) e d).0 p.2 in
            let k = definition_kind s d q.defined in
            let l = in_table (right_size (passes_of refusal).rows) {r = d} (λ z. omega (arith, k, z)) in
            let h = every_below_lem (complete_test pairs e) (schema.rows_of s)
            (every_below_lem (λ e. every_below (complete_test pairs e) (schema.rows_of s)) (nodes_of t) g e p.0) d l in
            listed_test_lem e d pairs (go e d (is_element t e) (paired e d) p.1 ((proved_iff e d p.0).1 p.2) h)

    valid_is_lem : (valid : Bool) → valid_is valid ≡ true → IsValid valid (tables_at r)
    valid_is_lem valid h =
        go valid h (valid_decided (tables_at r) (strings_of refusal) (passes_of refusal) nodes (some_node nodes))
      where
        go : (valid : Bool) → valid_is valid ≡ true
            → (valid_test (tables_at r) ≡ true) ↔ Valid (tables_at r) → IsValid valid (tables_at r)
        go true h f = f.0 h
        go false h f = λ v. no_of h (f.1 v)

  matching : (pairs : List (ℕ × ℕ)) (valid : Bool) → matches_test pairs valid ≡ true → Matching r pairs valid
  matching pairs valid h = record {
    schema_passes = refusal;
    nodes_right = nodes;
    not_wide = not_wide (instance_strings (tables_at r).strings) t
        (and_right (nodes_test (instance_strings (tables_at r).strings) t)
        (width_test (instance_strings (tables_at r).strings) t) instance_pass);
    rising =
        rising_test_lem pairs (and_left (rising_test pairs) (every_pair sound_test pairs && all_listed pairs) list);
    listed = lists refusal nodes pairs (and_left (every_pair sound_test pairs) (all_listed pairs) members)
        (and_right (every_pair sound_test pairs) (all_listed pairs) members);
    validity = valid_is_lem refusal nodes valid (and_right (list_test pairs) (valid_is valid) rest);
  }
    where
      tables : job_test ≡ true
      tables = and_left job_test (list_test pairs && valid_is valid) h

      rest : (list_test pairs && valid_is valid) ≡ true
      rest = and_right job_test (list_test pairs && valid_is valid) h

      instance_pass : (nodes_test (instance_strings (tables_at r).strings) t
          && width_test (instance_strings (tables_at r).strings) t) ≡ true
      instance_pass =
          and_right (pass_test (tables_at r).strings s) (nodes_test (instance_strings (tables_at r).strings) t
          && width_test (instance_strings (tables_at r).strings) t) tables

      list : list_test pairs ≡ true
      list = and_left (list_test pairs) (valid_is valid) rest

      members : (every_pair sound_test pairs && all_listed pairs) ≡ true
      members = and_right (rising_test pairs) (every_pair sound_test pairs && all_listed pairs) list

      refusal : NotRefused r
      refusal =
          schema_passes (tables_at r).strings s
          (and_left (pass_test (tables_at r).strings s) (nodes_test (instance_strings (tables_at r).strings) t
          && width_test (instance_strings (tables_at r).strings) t) tables)

      nodes : NodesRight (instance_strings (tables_at r).strings) t
      nodes =
          nodes_right (instance_strings (tables_at r).strings) t
          (and_left (nodes_test (instance_strings (tables_at r).strings) t)
          (width_test (instance_strings (tables_at r).strings) t) instance_pass)

  abbrev least_is : ℕ → ℕ → ℕ → ℕ → Bool
  least_is c d u l = pass_test (tables_at r).strings s && least_test (instance_strings (tables_at r).strings) s c d u l

  abbrev expected_test : Expected → Bool
  expected_test (matches pairs valid) = matches_test pairs valid
  expected_test (least c d u l) = least_is c d u l
  expected_test (refused code place) = refused_test (tables_at r).strings s code place

  says : (x : Expected) → expected_test x ≡ true → CaseSays r x
  says (matches pairs valid) h = matching pairs valid h
  says (least c d u l) h =
      let p = and_left (pass_test (tables_at r).strings s)
      (least_test (instance_strings (tables_at r).strings) s c d u l) h in (
        schema_passes (tables_at r).strings s p,
        least_test_lem (instance_strings (tables_at r).strings) s c d u l (schema_rows (tables_at r).strings s p)
            (and_right
            (pass_test (tables_at r).strings s) (least_test (instance_strings (tables_at r).strings) s c d u l) h),
      )
  says (refused code place) h =
      let x = schema_refused (tables_at r).strings s code place h in
      record { by = x.0; numbered = x.1; refusal = x.2 }

-- the test of a row, and of a table
unfoldable pub check : Row → Bool
check r = expected_test r r.expected

pub check_holds : (r : Row) → check r ≡ true → CaseHolds r
unfolding check
check_holds r h = says r r.expected h

abbrev pub check_all : List Row → Bool
check_all [] = true
check_all (r ∷ rows) = check r && check_all rows

pub all_checked : (rows : List Row) → check_all rows ≡ true → AllHold rows
all_checked [] h = none_left
all_checked (r ∷ rows) h =
    holds (check_holds r (and_left (check r) (check_all rows) h))
    (all_checked rows (and_right (check r) (check_all rows) h))
