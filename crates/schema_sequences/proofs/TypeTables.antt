-- The table of content types as it is filled.
use mathlib.Core.Path.{◌≡◌, refl, sym, ◌∙◌, ap}
use mathlib.Core.Bool.{Bool, true, false, not, false≢true}
use mathlib.Core.List.{List}
use Prim.Native.Nat.{ℕ, ◌+◌, ◌≤◌, ◌<◌}
use native.Mathlib.Omega.{arith}
use lib.ListN.{get_or, set, length-set}
use lib.Seq.{get_or-set_same, get_or-set_other}
use borrow.Author.Count.{below_more}
use lib.Dec.{eqb}
use borrow.Author.Tests.{eqb-true, eqb-false}
use Rattle.tables.specs.Answers.{Decides}
use Rattle.std.specs.Prelude.{Option, None}
use Rattle.schema.specs.Rows.{rows_of, kind_of}
use Rattle.schema.specs.RowRule.{max_rows, SizeRight}
use Rattle.schema.proofs.Children.{kind_past}
use Rattle.schema.proofs.RowLaws.{whole_rows, in_table}
use Rattle.schema_places.specs.Marks.{MarksExactly}
use Rattle.schema_places.specs.Paths.{sharing_kind}
use Rattle.schema_sequences.specs.Content.{HasType, value_type, data_type_1, data_type_2, list_type}
use Rattle.schema_sequences.specs.Content.{text_type, ref_type, type_of_empty, attribute_type}
use Rattle.schema_sequences.specs.Content.{sharing_type, one_or_more_type, choice_type, Clash, InList}
use Rattle.schema_sequences.specs.Content.{SequenceFault, sharing_not_groupable, repeat_not_groupable}
use Rattle.schema_sequences.specs.declared.ContentType.{ContentType}
use Rattle.schema_sequences.specs.TypeTable.{no_type, numbered, TypeIs, Types}

pub types_more : {s : List ℕ} {types : List (Option ContentType)} {n : ℕ} (t : Option ContentType) → Types s types n
    → n < max_rows → TypeIs s n (numbered t) → Types s (set types n t) (n + 1)
types_more {s} {types} {n} t table h i = record {
  size = length-set types n t ∙ table.size;
  known =
      below_more (λ (r : ℕ). TypeIs s r (numbered (get_or (set types n t) r None))) n
      (λ r l. rw (get_or-set_other types n r t None (λ e. omega arith)) (table.known r l))
      (rw (get_or-set_same types n t None (omega (arith, table.size))) i);
}

-- what is no row of the table has no content type
untyped : {s : List ℕ} {r c : ℕ} → kind_of s r ≡ 0 → HasType s r c → ⊥
untyped z (value_type e) = omega (arith, z, e)
untyped z (data_type_1 e f) = omega (arith, z, e)
untyped z (data_type_2 e t) = omega (arith, z, e)
untyped z (list_type e) = omega (arith, z, e)
untyped z (text_type e) = omega (arith, z, e)
untyped z (ref_type e) = omega (arith, z, e)
untyped z (type_of_empty e) = omega (arith, z, e)
untyped z (attribute_type e t) = omega (arith, z, e)
untyped z (sharing_type e t u g) = false≢true (sym (ap sharing_kind z) ∙ e)
untyped z (one_or_more_type e t g) = omega (arith, z, e)
untyped z (choice_type e t u) = omega (arith, z, e)

pub no_row_type : (s : List ℕ) (r : ℕ) → SizeRight s → rows_of s ≤ r → TypeIs s r no_type
no_row_type s r w h =
    record { has = λ e. absurd (false≢true e); only = λ c t. absurd (untyped (kind_past s r (whole_rows w) h) t) }

-- a clash is at a row of the table
clash_row : {s : List ℕ} {r : ℕ} → SizeRight s → Clash s r → r < rows_of s
clash_row {s} {r} w (sharing_not_groupable c d e t u g) = in_table w (λ z. false≢true (sym (ap sharing_kind z) ∙ e))
clash_row {s} {r} w (repeat_not_groupable c e t g) = in_table w (λ z. omega (arith, e, z))

-- and so is a fault
pub sequence_row : {s : List ℕ} {r : ℕ} → SizeRight s → SequenceFault s r → r < rows_of s
sequence_row w f = clash_row w f.clash

-- a clash is a fault where the row has no mark of being below a list
pub clash_judged : {s listed : List ℕ} {r w : ℕ} → MarksExactly (InList s) listed
    → Clash s r → w ≡ get_or listed r 0 → Decides (SequenceFault s r) (not (eqb w 1))
clash_judged {s} {listed} {r} {w} marks clash e = go (eqb w 1) refl
  where
    go : (b : Bool) → eqb w 1 ≡ b → Decides (SequenceFault s r) (not b)
    go true f = λ fault. fault.outside (marks.sound r (sym e ∙ eqb-true w 1 f))
    go false f = record { clash = clash; outside = λ i. eqb-false w 1 f (e ∙ marks.complete r i) }
