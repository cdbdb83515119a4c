-- The rows by their kinds: each is right where its entries are as its kind asks.
use Prim.Native.Nat.{ℕ, ◌<◌}
use mathlib.Core.Path.{◌≡◌, ◌∙◌}
use mathlib.Core.List.{List, []}
use mathlib.Core.Logic.{◌≢◌}
use Rattle.tables.specs.Tables.{StringTable}
use Rattle.strings.specs.Strings.{schema_strings, instance_strings}
use Rattle.schema.specs.Kinds as kind
use Rattle.schema.specs.Rows.{kind_of, a_of, b_of}
use Rattle.schema.proofs.Patterns.{except_at, one_or_more_at, choice_at, group_at, interleave_at}
use Rattle.schema_restrictions.specs.Schema.{SchemaPasses}
use Rattle.matching_rules.specs.Reach.{operand, repeated, choice_first, choice_second, group_first}
use Rattle.matching_rules.specs.Reach.{group_second, interleave_first, interleave_second, of_except}
use Rattle.matching_alone.specs.Rows.{EitherOf, DataEntry, OneOf, EqualTo}
use Rattle.matching_alone.specs.Rows.{TokensTo, SameRow, StringAt, RowOf, RowMade}
use Rattle.matching_alone.proofs.Filling.{row_map}
use Rattle.matching_alone.proofs.Entries.{Rest, falls, string_text, string_data}
use Rattle.matching_alone.proofs.Entries.{string_value, string_same, string_list, string_one_or_more}
use Rattle.matching_alone.proofs.Entries.{string_choice, string_group, string_interleave, string_rest}

-- data without an except
pub data_all : {before after : List ℕ} {p n except : ℕ} → except ≡ kind.no_row
    → RowOf (λ k v. v ≡ 1) before after p n → RowOf (DataEntry before except) before after p n
data_all z = row_map (λ k v h e. record { all = λ y. e; but = λ f. absurd (f z) })

-- a row that is filled by its kind
module _ (T : StringTable) (s before nothing : List ℕ) {after : List ℕ} (p : ℕ) where
  made : {f : ℕ → ℕ → Type 0} → ((k v : ℕ) → f k v → StringAt T s before nothing p k v)
      → (SchemaPasses (schema_strings T) s → RowOf f before after p (instance_strings T))
      → RowMade T s before nothing after p
  made law r c b = row_map (λ k v h x t. law k v x t c b h) (r c)

  pub made_text : kind_of s p ≡ kind.text → RowOf (λ k v. v ≡ 1) before after p (instance_strings T)
      → RowMade T s before nothing after p
  made_text e r = made (λ k v. string_text T s before nothing p k e) (λ c. r)

  pub made_rest : Rest s p → kind_of s p ≢ kind.«data» → kind_of s p ≢ kind.value → kind_of s p ≢ kind.list
      → RowOf (λ k v. v ≡ 0) before after p (instance_strings T) → RowMade T s before nothing after p
  made_rest e f g l r = made (λ k v. string_rest T s before nothing p k e f g l) (λ c. r)

  pub made_same : {q : ℕ} → kind_of s p ≡ kind.value → SameRow s q p
      → (q < p → q < p → RowOf (EitherOf before q q) before after p (instance_strings T))
      → RowMade T s before nothing after p
  made_same e w r = made (λ k v. string_same T s before nothing p k e w) (λ c. r w.before w.before)

  -- the fields of the row, as they were read
  module _ {a b : ℕ} (ae : a ≡ a_of s p) (be : b ≡ b_of s p) where
    pub made_data : kind_of s p ≡ kind.«data»
        → ((b ≢ kind.no_row → b < p) → RowOf (DataEntry before b) before after p (instance_strings T))
        → RowMade T s before nothing after p
    made_data e r =
        made (λ k v x. string_data T s before nothing p k e (rw be at x))
        (λ c. r (λ z. rw be (falls s p T [] c (except_at s p e (λ n. z (be ∙ n))) of_except)))

    pub made_value : kind_of s p ≡ kind.value
        → RowOf (EqualTo T a b) before after p (instance_strings T) → RowMade T s before nothing after p
    made_value e r = made (λ k v x. string_value T s before nothing p k e (rw (ae, be) at x)) (λ c. r)

    pub made_list : kind_of s p ≡ kind.list → RowOf (TokensTo T s a) before after p (instance_strings T)
        → RowMade T s before nothing after p
    made_list e r = made (λ k v x. string_list T s before nothing p k e (rw ae at x)) (λ c. r)

    pub made_one_or_more : kind_of s p ≡ kind.one_or_more
        → (a < p → a < p → RowOf (EitherOf before a a) before after p (instance_strings T))
        → RowMade T s before nothing after p
    made_one_or_more e r =
        made (λ k v x. string_one_or_more T s before nothing p k e (rw ae at x))
        (λ c. let h : a < p = rw ae (falls s p T [] c (one_or_more_at s p e) (operand repeated)) in r h h)

    pub made_choice : kind_of s p ≡ kind.choice
        → (a < p → b < p → RowOf (EitherOf before a b) before after p (instance_strings T))
        → RowMade T s before nothing after p
    made_choice e r =
        made (λ k v x. string_choice T s before nothing p k e (rw (ae, be) at x))
        (λ c. r (rw ae (falls s p T [] c (choice_at s p e) (operand choice_first)))
        (rw be (falls s p T [] c (choice_at s p e) (operand choice_second))))

    pub made_group : kind_of s p ≡ kind.group
        → (a < p → b < p → RowOf (OneOf before nothing a b) before after p (instance_strings T))
        → RowMade T s before nothing after p
    made_group e r =
        made (λ k v x. string_group T s before nothing p k e (rw (ae, be) at x))
        (λ c. r (rw ae (falls s p T [] c (group_at s p e) (operand group_first)))
        (rw be (falls s p T [] c (group_at s p e) (operand group_second))))

    pub made_interleave : kind_of s p ≡ kind.interleave
        → (a < p → b < p → RowOf (OneOf before nothing a b) before after p (instance_strings T))
        → RowMade T s before nothing after p
    made_interleave e r =
        made (λ k v x. string_interleave T s before nothing p k e (rw (ae, be) at x))
        (λ c. r (rw ae (falls s p T [] c (interleave_at s p e) (operand interleave_first)))
        (rw be (falls s p T [] c (interleave_at s p e) (operand interleave_second))))
