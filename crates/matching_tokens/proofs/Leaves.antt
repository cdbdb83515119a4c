-- What a plain pattern, one that may stand in an except, does with a token, by its kind.
use Prim.Native.Nat.{ℕ, ◌≤◌, ◌<◌}
use mathlib.Core.Path.{◌≡◌, refl, subst}
use mathlib.Core.Bool.{Bool, true, false, not}
use mathlib.Core.Logic.{◌↔◌, ◌≢◌, ⊎_elim}
use mathlib.Core.List.{List, [], ◌∷◌}
use native.Mathlib.Decide.{ℕ_discrete}
use native.Mathlib.Omega.{arith}
use Rattle.tables.specs.Answers.{Decides}
use Rattle.tables.specs.Tables.{StringTable, tables_of}
use Rattle.tables.proofs.Answers.{decides_same}
use Rattle.strings.specs.Strings.{text_of, schema_strings}
use Rattle.schema.specs.Kinds as kind
use Rattle.schema.specs.Rows.{kind_of, a_of, b_of}
use Rattle.schema.specs.Views.{Pattern, pattern_of}
use Rattle.schema.specs.Views as pattern
use Rattle.schema_restrictions.specs.Schema.{SchemaPasses}
use Rattle.matching_rules.specs.Items.{string, no_attributes, Lookups}
use Rattle.matching_rules.specs.Rules.{Match, NotMatchBy, data_1, data_2, value, choice_1, choice_2}
use Rattle.matching_rules.specs.Job.{lookups, datatype_equal}
use Rattle.matching_rules.specs.Reach.{Subpattern, operand, choice_first, choice_second}
use Rattle.matching_rules.specs.Reach.{group_first, group_second, repeated, of_except}
use Rattle.matching_rules.specs.Restricted.{Plain, plain_not_allowed, plain_value}
use Rattle.matching_rules.specs.Restricted.{plain_data, plain_except, plain_choice}
use Rattle.matching_rules.proofs.Inversion.{One, stepwise}
use Rattle.matching_rules.proofs.Passing.{restricted}
use Rattle.matching_rules.proofs.RowPatterns.{Makes, makes_data, makes_except, makes_value, makes_choice, row_makes}
use Rattle.matching_rules.proofs.Strata.{not_match}
use Rattle.matching_tokens.specs.Marked.{is_data}
use Rattle.matching_tokens.specs.MarkTable.{PlainAt}
use Rattle.matching_tokens.specs.Tokens.{DecidesAt}
use Rattle.schema.proofs.Patterns.{data_at, except_at, value_at, one_or_more_at, choice_at, group_at}

the_one : {w : List ℕ} {P : List ℕ → Type 0} → One P (string w ∷ []) → P w
the_one {w} {P} o = let e : o.0 ≡ w = cc o.1 in rw (← e) o.2

module _ (T : StringTable) (s t : List ℕ) where
  abbrev L : Lookups
  L = lookups (tables_of T s t)

  abbrev N : List ℕ → ℕ → Type 0
  N = NotMatchBy L L.rows

-- a part of a pattern is at a smaller row
module _ (T : StringTable) (s : List ℕ) (passes : SchemaPasses (schema_strings T) s) (row : ℕ) where
  falls : {q : ℕ} {x : Pattern} → pattern_of s row ≡ x → Subpattern q x → q < row
  falls {q} e h = (restricted (tables_of T s []) passes).falls row q (rw e h)

  pub except_falls : kind_of s row ≡ kind.«data» → b_of s row ≢ kind.no_row → b_of s row < row
  except_falls e f = falls (except_at s row e f) of_except

  pub repeat_falls : kind_of s row ≡ kind.one_or_more → a_of s row < row
  repeat_falls e = falls (one_or_more_at s row e) (operand repeated)

  pub choice_falls_a : kind_of s row ≡ kind.choice → a_of s row < row
  choice_falls_a e = falls (choice_at s row e) (operand choice_first)

  pub choice_falls_b : kind_of s row ≡ kind.choice → b_of s row < row
  choice_falls_b e = falls (choice_at s row e) (operand choice_second)

  pub group_falls_a : kind_of s row ≡ kind.group → a_of s row < row
  group_falls_a e = falls (group_at s row e) (operand group_first)

  pub group_falls_b : kind_of s row ≡ kind.group → b_of s row < row
  group_falls_b e = falls (group_at s row e) (operand group_second)

  -- an except is plain, so data and value are
  pub except_plain : kind_of s row ≡ kind.«data» → b_of s row ≢ kind.no_row → PlainAt T s (b_of s row)
  except_plain e f t = (restricted (tables_of T s t) passes).excepts row (a_of s row) (b_of s row) (except_at s row e f)

  data_plain : kind_of s row ≡ kind.«data» → PlainAt T s row
  data_plain e t = go (ℕ_discrete (b_of s row) kind.no_row)
    where
      go : Dec (b_of s row ≡ kind.no_row) → Plain (lookups (tables_of T s t)) (pattern_of s row)
      go (yes f) = rw (data_at s row e f) plain_data
      go (no f) = rw (except_at s row e f) (plain_except (except_plain e f t))

  value_plain : kind_of s row ≡ kind.value → PlainAt T s row
  value_plain e t = rw (value_at s row e) plain_value

  pub leaf_plain : kind.«data» ≤ kind_of s row → kind_of s row ≤ kind.value → PlainAt T s row
  leaf_plain h l = go (ℕ_discrete (kind_of s row) kind.«data»)
    where
      go : Dec (kind_of s row ≡ kind.«data») → PlainAt T s row
      go (yes e) = data_plain e
      go (no e) = value_plain (omega arith)

-- a row that is data or a value
module _ (s : List ℕ) (row : ℕ) where
  data_leaf : kind_of s row ≡ kind.«data» → is_data (pattern_of s row) ≡ true
  data_leaf e = go (ℕ_discrete (b_of s row) kind.no_row)
    where
      go : Dec (b_of s row ≡ kind.no_row) → is_data (pattern_of s row) ≡ true
      go (yes f) = rw (data_at s row e f)
      go (no f) = rw (except_at s row e f)

  pub leaf_kind : kind.«data» ≤ kind_of s row → kind_of s row ≤ kind.value → is_data (pattern_of s row) ≡ true
  leaf_kind h l = go (ℕ_discrete (kind_of s row) kind.«data»)
    where
      go : Dec (kind_of s row ≡ kind.«data») → is_data (pattern_of s row) ≡ true
      go (yes e) = data_leaf e
      go (no e) = rw (value_at s row (omega arith))

choice_parts : (K : Lookups) {x : Pattern} → Plain K x → (p q : ℕ)
    → x ≡ pattern.choice p q → Plain K (K.pattern p) × Plain K (K.pattern q)
choice_parts K plain_not_allowed p q e = let z : ◌≡◌ {A = ℕ} 0 1 = cc in absurd (omega arith)
choice_parts K plain_value p q e = let z : ◌≡◌ {A = ℕ} 0 1 = cc in absurd (omega arith)
choice_parts K plain_data p q e = let z : ◌≡◌ {A = ℕ} 0 1 = cc in absurd (omega arith)
choice_parts K (plain_except k) p q e = let z : ◌≡◌ {A = ℕ} 0 1 = cc in absurd (omega arith)
choice_parts K (plain_choice {p₁ = a} {p₂ = b} k l) p q e =
    let f : a ≡ p = cc in
    let g : b ≡ q = cc in
    (subst (λ (r : ℕ). Plain K (K.pattern r)) f k, subst (λ (r : ℕ). Plain K (K.pattern r)) g l)

module _ (T : StringTable) (s : List ℕ) (row : ℕ) where
  pub choice_plain : PlainAt T s row → kind_of s row ≡ kind.choice → PlainAt T s (a_of s row) × PlainAt T s (b_of s row)
  choice_plain k e = (
    λ t. (choice_parts (lookups (tables_of T s t)) (k t) (a_of s row) (b_of s row) (choice_at s row e)).0,
    λ t. (choice_parts (lookups (tables_of T s t)) (k t) (a_of s row) (b_of s row) (choice_at s row e)).1,
  )

  module _ (token : List ℕ) where
    pub fits_all : kind_of s row ≡ kind.«data» → b_of s row ≡ kind.no_row → DecidesAt T s row (string token ∷ []) true
    fits_all e f t = rw (data_at s row e f) data_1

    pub fits_value : kind_of s row ≡ kind.value → (r : Bool)
        → Decides (datatype_equal (a_of s row) token (text_of T (b_of s row))) r
        → DecidesAt T s row (string token ∷ []) r
    fits_value e r d t =
        let y = stepwise (L T s t) (N T s t) (pattern.value (a_of s row) (b_of s row)) in
        decides_same r (λ z. rw (value_at s row e) (value z)) (λ z. the_one (y.0 (rw (value_at s row e) at z)).1) d

    pub fits_but : SchemaPasses (schema_strings T) s → kind_of s row ≡ kind.«data» → b_of s row ≢ kind.no_row
        → (r : Bool) → DecidesAt T s (b_of s row) (string token ∷ []) r → DecidesAt T s row (string token ∷ []) (not r)
    fits_but passes e f r d t = go r (d t)
      where
        denied : N T s t token (b_of s row)
            ↔ ¬ Match (L T s t) (N T s t) no_attributes (string token ∷ []) (pattern_of s (b_of s row))
        denied =
            not_match (restricted (tables_of T s t) passes) row (a_of s row) (b_of s row) (except_at s row e f) token

        go : (r : Bool)
            → Decides (Match (L T s t) (N T s t) no_attributes (string token ∷ []) (pattern_of s (b_of s row)))
            r → Decides (Match (L T s t) (N T s t) no_attributes (string token ∷ []) (pattern_of s row)) (not r)
        go true m =
            λ n. denied.0 (the_one ((stepwise (L T s t) (N T s t)
            (pattern.data_except (a_of s row) (b_of s row))).0 (rw (except_at s row e f) at n)).1) m
        go false n = rw (except_at s row e f) (data_2 (denied.1 n))

    pub fits_first : kind_of s row ≡ kind.choice → {r : Bool} → DecidesAt T s (a_of s row) (string token ∷ []) r
        → r ≡ true → DecidesAt T s row (string token ∷ []) true
    fits_first e d f t = rw (choice_at s row e) (choice_1 (subst (Decides _) f (d t)))

    pub fits_second : kind_of s row ≡ kind.choice → {q : Bool} → DecidesAt T s (a_of s row) (string token ∷ []) q → q
        ≡ false → (r : Bool) → DecidesAt T s (b_of s row) (string token ∷ []) r
        → DecidesAt T s row (string token ∷ []) r
    fits_second e {q} c f r d t =
        let y = stepwise (L T s t) (N T s t) {a = no_attributes}
        {m = string token ∷ []} (pattern.choice (a_of s row) (b_of s row)) in
        decides_same r (λ z. rw (choice_at s row e) (choice_2 z))
        (λ z. ⊎_elim (λ m. absurd (subst (Decides _) f (c t) m)) (λ m. m) (y.0 (rw (choice_at s row e) at z)))
        (d t)

    pub fits_none : PlainAt T s row → kind_of s row ≢ kind.«data» → kind_of s row ≢ kind.value
        → kind_of s row ≢ kind.choice → DecidesAt T s row (string token ∷ []) false
    fits_none k nd nv nc t m = go (k t) (row_makes s row refl) m
      where
        go : {x : Pattern} → Plain (L T s t) x → Makes (kind_of s row) (a_of s row) (b_of s row) x
            → ¬ Match (L T s t) (N T s t) no_attributes (string token ∷ []) x
        go plain_not_allowed h d = (stepwise (L T s t) (N T s t) pattern.not_allowed).0 d
        go plain_value (makes_value e) d = nv e
        go plain_data (makes_data e f) d = nd e
        go (plain_except p) (makes_except e f) d = nd e
        go (plain_choice p q) (makes_choice e) d = nc e
