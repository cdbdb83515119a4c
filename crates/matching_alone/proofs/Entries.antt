-- The entries of a row from those of the rows before it.
use Prim.Native.Nat.{ℕ, ◌<◌}
use mathlib.Core.Path.{◌≡◌, refl, sym, ◌∙◌, ap, ap₂}
use mathlib.Core.Bool.{Bool, true, false, true≢false}
use mathlib.Core.List.{List, [], ◌∷◌, nil≢cons, cons≢nil}
use mathlib.Core.Logic.Iff
use mathlib.Core.Logic.{◌⊎◌, inl, ⊎_map, ⊎_elim, ◌↔◌, ◌≢◌}
use native.Mathlib.Decide.{ℕ_discrete}
use native.Mathlib.Omega.{arith}
use lib.ListN.{get_or}
use Rattle.tables.specs.Answers.{Decides}
use Rattle.tables.specs.Tables.{StringTable, tables_of}
use Rattle.tables.proofs.Answers.{decides_eqb}
use Rattle.strings.specs.Strings.{text_of, schema_strings, instance_strings}
use Rattle.schema.specs.Kinds as kind
use Rattle.schema.specs.Rows.{kind_of, a_of, b_of}
use Rattle.schema.specs.Views.{Pattern, pattern_of}
use Rattle.schema.specs.Views as pattern
use Rattle.schema.proofs.Patterns.{empty_at, text_at, data_at, except_at, value_at, list_at}
use Rattle.schema.proofs.Patterns.{one_or_more_at, choice_at, group_at, interleave_at}
use Rattle.schema_restrictions.specs.Schema.{SchemaPasses}
use Rattle.matching_rules.specs.Items.{string, no_attributes, Lookups}
use Rattle.matching_rules.specs.Rules.{Match, NotMatchBy, text_1, empty, text_2}
use Rattle.matching_rules.specs.Job.{lookups}
use Rattle.matching_rules.proofs.Inversion.{One, stepwise}
use Rattle.matching_rules.proofs.Passing.{restricted}
use Rattle.matching_rules.specs.Reach.{Subpattern, operand, repeated, choice_first, choice_second, group_first}
use Rattle.matching_rules.specs.Reach.{group_second, interleave_first, interleave_second, of_list, of_except}
use Rattle.matching_rules.proofs.RowPatterns.{Makes, makes_empty, makes_not_allowed, makes_text}
use Rattle.matching_rules.proofs.RowPatterns.{makes_data, makes_except, makes_value, makes_list}
use Rattle.matching_rules.proofs.RowPatterns.{makes_attribute, makes_ref, makes_one_or_more, makes_choice}
use Rattle.matching_rules.proofs.RowPatterns.{makes_group, makes_interleave, makes_none, row_makes}
use Rattle.matching_rules.proofs.Strata.{not_match}
use Rattle.matching_tokens.specs.MarkTable.{mark, marked}
use Rattle.matching_tokens.specs.Tokens.{TokenPlaces, ListReady}
use Rattle.matching_alone.specs.Alone.{TellsString, Alone}
use Rattle.matching_alone.specs.Rows.{EitherOf, DataEntry, OneSide, OneOf, EqualTo}
use Rattle.matching_alone.specs.Rows.{TokensTo, SameRow, FillableList, NothingAt, StringAt}
use Rattle.matching_alone.proofs.Short.{Either, null_group, null_interleave, lone_group}
use Rattle.matching_alone.proofs.Short.{lone_interleave, null_one_or_more, lone_one_or_more, null_choice}
use Rattle.matching_alone.proofs.Short.{lone_choice, not_none, no_element, some_element}

or_iff : {A B C D : Type 0} → A ↔ C → B ↔ D → (A ⊎ B) ↔ (C ⊎ D)
or_iff f g = (⊎_map f.0 g.0, ⊎_map f.1 g.1)

and_iff : {A B C D : Type 0} → A ↔ C → B ↔ D → (A × B) ↔ (C × D)
and_iff f g = (λ x. (f.0 x.0, g.0 x.1), λ x. (f.1 x.0, g.1 x.1))

pub one_iff : {A : Type 0} → (A ⊎ A) ↔ A
one_iff = (λ x. ⊎_elim (λ a. a) (λ a. a) x, inl)

pub not_one : ¬ (◌≡◌ {A = ℕ} 0 1)
not_one e = omega arith

-- the byte that is stored for an answer
pub byte_told : {A : Type 0} (b : Bool) → Decides A b → (mark b ≡ 1) ↔ A
byte_told true a = (λ e. a, λ x. refl)
byte_told false n = (λ e. absurd (not_one e), λ a. absurd (n a))

-- a test that is true exactly where the answer is yes
pub test_told : {test : Bool} (b : Bool) → b ≡ test → Decides (test ≡ true) b
test_told true e = sym e
test_told false e = λ z. absurd (true≢false (sym z ∙ sym e))

-- what the table says of a row, where it has been read
pub marked_told : (nothing : List ℕ) {p q : ℕ} {b : Bool} → b ≡ marked nothing p → p ≡ q
    → Decides (get_or nothing q 0 ≡ 1) b
marked_told nothing {q = q} e f = rw (e, f) (decides_eqb (get_or nothing q 0) 1)

module _ (s : List ℕ) (p : ℕ) where
  -- a row of no other kind
  pub record Rest : Type 0 where
    pub no_text : kind_of s p ≢ kind.text
    pub no_repeat : kind_of s p ≢ kind.one_or_more
    pub no_choice : kind_of s p ≢ kind.choice
    pub no_group : kind_of s p ≢ kind.group
    pub no_interleave : kind_of s p ≢ kind.interleave

module _ (T : StringTable) (s t : List ℕ) where
  abbrev L : Lookups
  L = lookups (tables_of T s t)

  abbrev N : List ℕ → ℕ → Type 0
  N = NotMatchBy L L.rows

  -- what is left takes something
  no_null : (p : ℕ) {x : Pattern} → Rest s p → kind_of s p ≢ kind.empty
      → Makes (kind_of s p) (a_of s p) (b_of s p) x → ¬ Match L N no_attributes [] x
  no_null p r f (makes_empty e) d = f e
  no_null p r f (makes_not_allowed e) d = (stepwise L N pattern.not_allowed).0 d
  no_null p r f (makes_text e) d = r.no_text e
  no_null p r f (makes_data e g) d = nil≢cons ((stepwise L N (pattern.data_all _)).0 d).1.1
  no_null p r f (makes_except e g) d = nil≢cons ((stepwise L N (pattern.data_except _ _)).0 d).1.1
  no_null p r f (makes_value e) d = nil≢cons ((stepwise L N (pattern.value _ _)).0 d).1.1
  no_null p r f (makes_list e) d = nil≢cons ((stepwise L N (pattern.list _)).0 d).1.1
  no_null p r f (makes_attribute e) d =
      let g = (stepwise L N (pattern.attribute (a_of s p) (b_of s p))).0 d in
      not_none g.row g.set
  no_null p r f (makes_ref e) d =
      let g = (stepwise L N (pattern.ref (a_of s p))).0 d in
      some_element g.ws₁ g.ws₂ g.row g.sequence
  no_null p r f (makes_one_or_more e) d = r.no_repeat e
  no_null p r f (makes_choice e) d = r.no_choice e
  no_null p r f (makes_group e) d = r.no_group e
  no_null p r f (makes_interleave e) d = r.no_interleave e
  no_null p r f (makes_none e) d = (stepwise L N pattern.no_pattern).0 d

  no_lone : (p : ℕ) {x : Pattern} {w : List ℕ} → Rest s p → kind_of s p ≢ kind.«data» → kind_of s p ≢ kind.value
      → kind_of s p ≢ kind.list → Makes (kind_of s p) (a_of s p) (b_of s p) x
      → ¬ Match L N no_attributes (string w ∷ []) x
  no_lone p r f v l (makes_empty e) d = cons≢nil ((stepwise L N pattern.empty).0 d).1
  no_lone p r f v l (makes_not_allowed e) d = (stepwise L N pattern.not_allowed).0 d
  no_lone p r f v l (makes_text e) d = r.no_text e
  no_lone p r f v l (makes_data e g) d = f e
  no_lone p r f v l (makes_except e g) d = f e
  no_lone p r f v l (makes_value e) d = v e
  no_lone p r f v l (makes_list e) d = l e
  no_lone p r f v l (makes_attribute e) d =
      let g = (stepwise L N (pattern.attribute (a_of s p) (b_of s p))).0 d in
      not_none g.row g.set
  no_lone p {w = w} r f v l (makes_ref e) d =
      let g = (stepwise L N (pattern.ref (a_of s p))).0 d in
      no_element g.ws₁ g.ws₂ g.row w g.sequence
  no_lone p r f v l (makes_one_or_more e) d = r.no_repeat e
  no_lone p r f v l (makes_choice e) d = r.no_choice e
  no_lone p r f v l (makes_group e) d = r.no_group e
  no_lone p r f v l (makes_interleave e) d = r.no_interleave e
  no_lone p r f v l (makes_none e) d = (stepwise L N pattern.no_pattern).0 d

-- a part of a pattern comes before it
module _ (s : List ℕ) (p : ℕ) where
  pub falls : (T : StringTable) (t : List ℕ) → SchemaPasses (schema_strings T) s
      → {q : ℕ} {x : Pattern} → pattern_of s p ≡ x → Subpattern q x → q < p
  falls T t c {q} e h = (restricted (tables_of T s t) c).falls p q (rw e h)

-- the empty sequence
module _ (s nothing : List ℕ) (p : ℕ) {v : ℕ} where
  pub nothing_empty : kind_of s p ≡ kind.empty → v ≡ 1 → NothingAt s nothing p v
  nothing_empty e f T t alone c b = (λ x. rw (empty_at s p e) empty, λ x. f)

  pub nothing_text : kind_of s p ≡ kind.text → v ≡ 1 → NothingAt s nothing p v
  nothing_text e f T t alone c b = (λ x. rw (text_at s p e) text_1, λ x. f)

  pub nothing_one_or_more : kind_of s p ≡ kind.one_or_more
      → (v ≡ 1) ↔ (get_or nothing (a_of s p) 0 ≡ 1) → NothingAt s nothing p v
  nothing_one_or_more e f T t alone c b =
      let x = one_or_more_at s p e in
      Iff.trans f (Iff.trans (b.empty t (a_of s p) (falls s p T t c x (operand repeated)))
      (Iff.symm (null_one_or_more (L T s t) (N T s t) x)))

  pub nothing_choice : kind_of s p ≡ kind.choice
      → (v ≡ 1) ↔ ((get_or nothing (a_of s p) 0 ≡ 1) ⊎ (get_or nothing (b_of s p) 0 ≡ 1)) → NothingAt s nothing p v
  nothing_choice e f T t alone c b =
      let x = choice_at s p e in
      Iff.trans f (Iff.trans (or_iff (b.empty t (a_of s p) (falls s p T t c x (operand choice_first))) (b.empty t
      (b_of s p) (falls s p T t c x (operand choice_second)))) (Iff.symm (null_choice (L T s t) (N T s t) x)))

  nothing_group : kind_of s p ≡ kind.group
      → (v ≡ 1) ↔ ((get_or nothing (a_of s p) 0 ≡ 1) × (get_or nothing (b_of s p) 0 ≡ 1)) → NothingAt s nothing p v
  nothing_group e f T t alone c b =
      let x = group_at s p e in
      Iff.trans f (Iff.trans (and_iff (b.empty t (a_of s p) (falls s p T t c x (operand group_first)))
      (b.empty t (b_of s p) (falls s p T t c x (operand group_second))))
      (Iff.symm (null_group (L T s t) (N T s t) p (a_of s p) (b_of s p) x)))

  nothing_interleave : kind_of s p ≡ kind.interleave
      → (v ≡ 1) ↔ ((get_or nothing (a_of s p) 0 ≡ 1) × (get_or nothing (b_of s p) 0 ≡ 1)) → NothingAt s nothing p v
  nothing_interleave e f T t alone c b =
      let x = interleave_at s p e in
      Iff.trans f (Iff.trans (and_iff (b.empty t (a_of s p) (falls s p T t c x (operand interleave_first)))
      (b.empty t (b_of s p) (falls s p T t c x (operand interleave_second))))
      (Iff.symm (null_interleave (L T s t) (N T s t) p (a_of s p) (b_of s p) x)))

  -- a group or an interleave
  pub nothing_both : (kind_of s p ≢ kind.group → kind_of s p ≡ kind.interleave)
      → (v ≡ 1) ↔ ((get_or nothing (a_of s p) 0 ≡ 1) × (get_or nothing (b_of s p) 0 ≡ 1)) → NothingAt s nothing p v
  nothing_both e f = go (ℕ_discrete (kind_of s p) kind.group)
    where
      go : Dec (kind_of s p ≡ kind.group) → NothingAt s nothing p v
      go (yes g) = nothing_group g f
      go (no n) = nothing_interleave (e n) f

  pub nothing_rest : Rest s p → kind_of s p ≢ kind.empty → v ≡ 0 → NothingAt s nothing p v
  nothing_rest r f z T t alone c b =
      (λ e. absurd (not_one (sym z ∙ e)), λ d. absurd (no_null T s t p r f (row_makes s p refl) d))

one_string_lem : {w : List ℕ} {P : List ℕ → Type 0} → One P (string w ∷ []) → P w
one_string_lem {w} {P} o = let e : o.0 ≡ w = cc o.1 in rw (← e) o.2

one_denied : {w : List ℕ} {P : List ℕ → Type 0} → One P (string w ∷ []) → ¬ (P w → ⊥)
one_denied o h = h (one_string_lem o)

-- the string goes to one side of a group or interleave
sides : (T : StringTable) (s alone nothing : List ℕ) (p k : ℕ) (t : List ℕ)
    → Alone T s alone nothing p → a_of s p < p → b_of s p < p → k < instance_strings T
    → OneSide alone nothing (a_of s p) (b_of s p) k ↔ Either (L T s t) (N T s t) (a_of s p) (b_of s p) (text_of T k)
sides T s alone nothing p k t b l r h =
    or_iff (and_iff (b.strings t (a_of s p) k l h) (b.empty t (b_of s p) r))
    (and_iff (b.empty t (a_of s p) l) (b.strings t (b_of s p) k r h))

-- one string
module _ (T : StringTable) (s alone nothing : List ℕ) (p k : ℕ) {v : ℕ} where
  pub string_text : kind_of s p ≡ kind.text → v ≡ 1 → StringAt T s alone nothing p k v
  string_text e f t c b h = (λ x. rw (text_at s p e) (text_2 (text_of T k) text_1), λ x. f)

  pub string_data : kind_of s p ≡ kind.«data» → DataEntry alone (b_of s p) k v → StringAt T s alone nothing p k v
  string_data e f t c b h = elim (ℕ_discrete (b_of s p) kind.no_row) [ yes z ↦ all z | no z ↦ except z ]
    where
      all : b_of s p ≡ kind.no_row → TellsString (tables_of T s t) p k v
      all z = (
        λ x. rw (data_at s p e z)
            ((stepwise (L T s t) (N T s t) (pattern.data_all (a_of s p))).1 (refl, (text_of T k, refl, tt))),
        λ x. f.all z,
      )

      except : b_of s p ≢ kind.no_row → TellsString (tables_of T s t) p k v
      except z =
          let x = except_at s p e z in
          let R = restricted (tables_of T s t) c in
          let n = not_match R p (a_of s p) (b_of s p) x (text_of T k) in
          let l = b.strings t (b_of s p) k (falls s p T t c x of_except) h in (
            λ y. rw x ((stepwise (L T s t) (N T s t) (pattern.data_except (a_of s p) (b_of s p))).1
                (refl, (text_of T k, refl, n.1 (λ d. (f.but z).0 y (l.1 d))))),
            λ d. (f.but z).1 (λ y. one_denied ((stepwise (L T s t) (N T s t)
                (pattern.data_except (a_of s p) (b_of s p))).0 (rw x at d)).1 (λ q. n.0 q (l.0 y))),
          )

  pub string_value : kind_of s p ≡ kind.value → EqualTo T (a_of s p) (b_of s p) k v → StringAt T s alone nothing p k v
  string_value e f t c b h =
      let x = value_at s p e in
      let y = stepwise (L T s t) (N T s t) (pattern.value (a_of s p) (b_of s p)) in
      (λ z. rw x (y.1 (refl, (text_of T k, refl, f.0 z))), λ d. f.1 (one_string_lem (y.0 (rw x at d)).1))

  pub string_list : kind_of s p ≡ kind.list → TokensTo T s (a_of s p) k v → StringAt T s alone nothing p k v
  string_list e f t c b h =
      let x = list_at s p e in
      let y = stepwise (L T s t) (N T s t) (pattern.list (a_of s p)) in
      (λ z. rw x (y.1 (refl, (text_of T k, refl, (f t).0 z))), λ d. (f t).1 (one_string_lem (y.0 (rw x at d)).1))

  -- a value has the entries of an earlier one with the same fields
  pub string_same : {q : ℕ} → kind_of s p ≡ kind.value → SameRow s q p
      → EitherOf alone q q k v → StringAt T s alone nothing p k v
  string_same {q} e r f t c b h =
      let x : pattern_of s p ≡ pattern_of s q = value_at s p e
      ∙ ap₂ pattern.value (sym r.same_datatype) (sym r.same_string) ∙ sym (value_at s q r.is_value) in
      rw x (Iff.trans f (Iff.trans one_iff (b.strings t q k r.before h)))

  pub string_one_or_more : kind_of s p ≡ kind.one_or_more
      → EitherOf alone (a_of s p) (a_of s p) k v → StringAt T s alone nothing p k v
  string_one_or_more e f t c b h =
      let x = one_or_more_at s p e in
      Iff.trans f (Iff.trans one_iff (Iff.trans (b.strings t (a_of s p) k (falls s p T t c x (operand repeated)) h)
      (Iff.symm (lone_one_or_more (L T s t) (N T s t) x))))

  pub string_choice : kind_of s p ≡ kind.choice
      → EitherOf alone (a_of s p) (b_of s p) k v → StringAt T s alone nothing p k v
  string_choice e f t c b h =
      let x = choice_at s p e in
      Iff.trans f (Iff.trans (or_iff (b.strings t (a_of s p) k (falls s p T t c x (operand choice_first)) h) (b.strings
      t (b_of s p) k (falls s p T t c x (operand choice_second)) h)) (Iff.symm (lone_choice (L T s t) (N T s t) x)))

  pub string_group : kind_of s p ≡ kind.group
      → OneOf alone nothing (a_of s p) (b_of s p) k v → StringAt T s alone nothing p k v
  string_group e f t c b h =
      let x = group_at s p e in
      Iff.trans f (Iff.trans (sides T s alone nothing p k t b (falls s p T t c x (operand group_first)) (falls s p
      T t c x (operand group_second)) h) (Iff.symm (lone_group (L T s t) (N T s t) p (a_of s p) (b_of s p) x)))

  pub string_interleave : kind_of s p ≡ kind.interleave
      → OneOf alone nothing (a_of s p) (b_of s p) k v → StringAt T s alone nothing p k v
  string_interleave e f t c b h =
      let x = interleave_at s p e in
      Iff.trans f (Iff.trans (sides T s alone nothing p k t b
      (falls s p T t c x (operand interleave_first)) (falls s p T t c x (operand interleave_second)) h)
      (Iff.symm (lone_interleave (L T s t) (N T s t) p (a_of s p) (b_of s p) x)))

  pub string_rest : Rest s p → kind_of s p ≢ kind.«data» → kind_of s p ≢ kind.value
      → kind_of s p ≢ kind.list → v ≡ 0 → StringAt T s alone nothing p k v
  string_rest r f g l z t c b h =
      (λ e. absurd (not_one (sym z ∙ e)), λ d. absurd (no_lone T s t p r f g l (row_makes s p refl) d))

-- the pattern of a list may be held against tokens
pub list_ready : {T : StringTable} {s alone nothing places : List ℕ} {p a : ℕ}
    → FillableList T s alone nothing p a → TokenPlaces T places → ListReady T s places nothing a
list_ready {T} {s} {alone} {nothing} {places} {p} {a} asked placed =
    let c = asked.row.passes in
    let x : pattern_of s p ≡ pattern.list a = list_at s p asked.is_list ∙ ap pattern.list (sym asked.field) in
    record {
      passes = c;
      placed = placed;
      nulls = λ t q h. let l = falls s p T t c x of_list in asked.row.before.empty t q (omega arith);
      listable = λ t. (restricted (tables_of T s t) c).lists p a x;
    }
