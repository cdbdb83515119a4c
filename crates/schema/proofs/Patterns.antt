-- The pattern of a row by its kind.
use Prim.Native.Nat.{ℕ}
use mathlib.Core.Path.{◌≡◌}
use mathlib.Core.Logic.{◌≢◌}
use mathlib.Core.List.{List}
use borrow.Author.Tests.{eq-eqb, ne_eqb}
use Rattle.schema.specs.Kinds as kind
use Rattle.schema.specs.Rows.{kind_of, a_of, b_of}
use Rattle.schema.specs.Views.{pattern_by, pattern_of}
use Rattle.schema.specs.Views as pattern

module _ (s : List ℕ) (p : ℕ) where
  pub empty_at : kind_of s p ≡ kind.empty → pattern_of s p ≡ pattern.empty
  unfolding pattern_by
  empty_at e = rw e

  pub text_at : kind_of s p ≡ kind.text → pattern_of s p ≡ pattern.text
  unfolding pattern_by
  text_at e = rw e

  pub data_at : kind_of s p ≡ kind.«data» → b_of s p ≡ kind.no_row → pattern_of s p ≡ pattern.data_all (a_of s p)
  unfolding pattern_by
  data_at e f = rw (e, eq-eqb (b_of s p) kind.no_row f)

  pub except_at : kind_of s p ≡ kind.«data» → b_of s p ≢ kind.no_row
      → pattern_of s p ≡ pattern.data_except (a_of s p) (b_of s p)
  unfolding pattern_by
  except_at e f = rw (e, ne_eqb (b_of s p) kind.no_row f)

  pub value_at : kind_of s p ≡ kind.value → pattern_of s p ≡ pattern.value (a_of s p) (b_of s p)
  unfolding pattern_by
  value_at e = rw e

  pub list_at : kind_of s p ≡ kind.list → pattern_of s p ≡ pattern.list (a_of s p)
  unfolding pattern_by
  list_at e = rw e

  pub attribute_at : kind_of s p ≡ kind.attribute → pattern_of s p ≡ pattern.attribute (a_of s p) (b_of s p)
  unfolding pattern_by
  attribute_at e = rw e

  pub ref_at : kind_of s p ≡ kind.ref → pattern_of s p ≡ pattern.ref (a_of s p)
  unfolding pattern_by
  ref_at e = rw e

  pub one_or_more_at : kind_of s p ≡ kind.one_or_more → pattern_of s p ≡ pattern.one_or_more (a_of s p)
  unfolding pattern_by
  one_or_more_at e = rw e

  pub choice_at : kind_of s p ≡ kind.choice → pattern_of s p ≡ pattern.choice (a_of s p) (b_of s p)
  unfolding pattern_by
  choice_at e = rw e

  pub group_at : kind_of s p ≡ kind.group → pattern_of s p ≡ pattern.group (a_of s p) (b_of s p)
  unfolding pattern_by
  group_at e = rw e

  pub interleave_at : kind_of s p ≡ kind.interleave → pattern_of s p ≡ pattern.interleave (a_of s p) (b_of s p)
  unfolding pattern_by
  interleave_at e = rw e
