-- Codes 1 to 8 in their order: a test whose success shows the verdict on a schema.
use Prim.Native.Nat.{ℕ}
use mathlib.Core.Path.{◌≡◌, refl, sym}
use mathlib.Core.Bool.{Bool, true, false, not, ◌&&◌, false≢true}
use mathlib.Core.List.{List}
use lib.Dec.{eqb}
use borrow.Author.Tests.{eqb-true}
use Rattle.tables.specs.Tables.{StringTable}
use Rattle.tables.specs.Answers.{Decides, Clear}
use Rattle.std.specs.Prelude.{Result, Ok, Err}
use Rattle.tables.specs.Codes.{number_of, refusal_at, Tries, refused, goes_on, Passes}
use Rattle.tables.specs.declared.refusals.Code.{Code}
use Rattle.tables.specs.declared.refusals.Code.TheVariants as code
use Rattle.tables.specs.declared.refusals.Refusal.{Refusal}
use Rattle.strings.specs.Strings.{StringFault, StringsRight, schema_strings}
use Rattle.schema.specs.Rows.{rows_of}
use Rattle.schema.specs.RowRule.{RowFault, RowsRight}
use Rattle.schema.proofs.RowLaws.{right_size}
use Rattle.schema_places.specs.Places.{PlaceFault}
use Rattle.schema_places.specs.Names.{NameFault}
use Rattle.schema_places.specs.Paths.{PathFault}
use Rattle.schema_sequences.specs.Content.{SequenceFault}
use Rattle.schema_occurrences.specs.Attributes.{AttributeFault}
use Rattle.schema_occurrences.specs.Interleaves.{InterleaveFault}
use Rattle.schema_sequences.proofs.TypeTables.{sequence_row}
use Rattle.schema_occurrences.proofs.Clashes.{attribute_row, interleave_row}
use Rattle.relaxng.specs.Promises.{SchemaRefusal}
use Rattle.tables.proofs.Booleans.{and_left, and_right}
use Rattle.cases.proofs.Tests.{every_below, every_below_lem}
use Rattle.cases.proofs.StringTests.{strings_test, strings_right}
use Rattle.cases.proofs.PlaceTests.{rows_test, rows_right, places_test, places_right}
use Rattle.cases.proofs.PlaceTests.{names_test, names_right, paths_test, paths_right}
use Rattle.cases.proofs.ContentTests.{sequence_test, sequence_test_lem}
use Rattle.cases.proofs.RestrictionTests.{attributes_test, attributes_right, duplicate_test, attribute_fault}
use Rattle.cases.proofs.RestrictionTests.{interleave_test, interleave_right, interleave_fault}

module _ (T : StringTable) (s : List ℕ) where
  abbrev strings : ℕ
  strings = schema_strings T

  abbrev sequence_right : ℕ → Bool
  sequence_right r = not (sequence_test s r)

  abbrev no_sharing : ℕ → Bool
  no_sharing r = not (interleave_test strings s r)

  -- codes 1 and 2, and 3 to 5, find no fault
  abbrev tables_test : Bool
  tables_test = strings_test T && rows_test strings s

  abbrev path_tests : Bool
  path_tests = names_test s && paths_test s

  abbrev placed : Bool
  placed = tables_test && (places_test s && path_tests)

  -- nor do the codes up to 6, to 7 and to 8, the last of them before row n
  abbrev sequenced : ℕ → Bool
  sequenced n = placed && every_below sequence_right n

  abbrev attributed : ℕ → Bool
  attributed n = sequenced (rows_of s) && every_below (attributes_test strings s) n

  abbrev interleaved : ℕ → Bool
  interleaved n = attributed (rows_of s) && every_below no_sharing n

  unfoldable pub pass_test : Bool
  pass_test = interleaved (rows_of s)

  -- the first fault is by a code from 6 to 8, at row r
  unfoldable pub refused_test : ℕ → ℕ → Bool
  refused_test n r =
      elim (eqb n 6) [
        | true ↦ sequenced r && sequence_test s r
        | false ↦ elim (eqb n 7) [
          | true ↦ attributed r && duplicate_test strings s r
          | false ↦ elim (eqb n 8) [ true ↦ interleaved r && interleave_test strings s r | false ↦ false ]
        ]
      ]

  strings_pass : placed ≡ true → StringsRight T
  strings_pass pass =
      strings_right T
      (and_left (strings_test T) (rows_test strings s) (and_left tables_test (places_test s && path_tests) pass))

  rows_pass : placed ≡ true → RowsRight strings s
  rows_pass pass =
      rows_right strings s
      (and_right (strings_test T) (rows_test strings s) (and_left tables_test (places_test s && path_tests) pass))

  -- codes 1 to 5 go on
  goes_placed : {next : Result Unit Refusal → Type 0} {v : Result Unit Refusal} → placed ≡ true
      → Tries code.Content (SequenceFault s) next v
      → Tries code.Strings (StringFault T) (Tries code.Rows (RowFault strings s)
      (Tries code.Places (PlaceFault s) (Tries code.Names (NameFault s) (Tries code.Paths (PathFault s)
      (Tries code.Content (SequenceFault s) next))))) v
  goes_placed pass rest =
      let right = rows_pass pass in
      let places = and_right tables_test (places_test s && path_tests) pass in
      let paths = and_right (places_test s) path_tests places in
      goes_on (strings_pass pass)
      (goes_on right
      (goes_on (places_right s right (and_left (places_test s) path_tests places))
      (goes_on (names_right s right (and_left (names_test s) (paths_test s) paths))
      (goes_on (paths_right s right (and_right (names_test s) (paths_test s) paths)) rest))))

  -- what a test of each row before n shows of a code
  sequences_right : placed ≡ true → (n : ℕ) → every_below sequence_right n ≡ true → Clear (SequenceFault s) n
  sequences_right pass n e r h f =
      go (sequence_test s r) (sequence_test_lem s (right_size (rows_pass pass)) r)
      (every_below_lem sequence_right n e r h)
    where
      go : (b : Bool) → Decides (SequenceFault s r) b → ¬ (not b ≡ true)
      go true d i = false≢true i
      go false d i = d f

  module _ (n : ℕ) (pass : sequenced n ≡ true) where
    placed_of : placed ≡ true
    placed_of = and_left placed (every_below sequence_right n) pass

    clear_6 : Clear (SequenceFault s) n
    clear_6 = sequences_right placed_of n (and_right placed (every_below sequence_right n) pass)

  module _ (n : ℕ) (pass : attributed n ≡ true) where
    sequenced_of : sequenced (rows_of s) ≡ true
    sequenced_of = and_left (sequenced (rows_of s)) (every_below (attributes_test strings s) n) pass

    right_7 : RowsRight strings s
    right_7 = rows_pass (placed_of (rows_of s) sequenced_of)

    clear_7 : Clear (AttributeFault s) n
    clear_7 r h =
        attributes_right strings s right_7 r (every_below_lem (attributes_test strings s) n
        (and_right (sequenced (rows_of s)) (every_below (attributes_test strings s) n) pass) r h)

    none_6 : (r : ℕ) → ¬ SequenceFault s r
    none_6 r f = clear_6 (rows_of s) sequenced_of r (sequence_row (right_size right_7) f) f

  module _ (n : ℕ) (pass : interleaved n ≡ true) where
    attributed_of : attributed (rows_of s) ≡ true
    attributed_of = and_left (attributed (rows_of s)) (every_below no_sharing n) pass

    right_8 : RowsRight strings s
    right_8 = right_7 (rows_of s) attributed_of

    clear_8 : Clear (InterleaveFault s) n
    clear_8 r h =
        interleave_right strings s right_8 r
        (every_below_lem no_sharing n (and_right (attributed (rows_of s)) (every_below no_sharing n) pass) r h)

    none_7 : (r : ℕ) → ¬ AttributeFault s r
    none_7 r f = clear_7 (rows_of s) attributed_of r (attribute_row (right_size right_8) f) f

  placed_7 : (n : ℕ) → attributed n ≡ true → placed ≡ true
  placed_7 n pass = placed_of (rows_of s) (sequenced_of n pass)

  pub schema_rows : pass_test ≡ true → RowsRight strings s
  unfolding pass_test
  schema_rows pass = right_8 (rows_of s) pass

  pub schema_passes : pass_test ≡ true → SchemaRefusal T s Passes (Ok tt)
  unfolding pass_test
  schema_passes pass =
      let a = attributed_of (rows_of s) pass in
      goes_placed (placed_7 (rows_of s) a) (goes_on (none_6 (rows_of s) a) (goes_on (none_7 (rows_of s) pass)
      (goes_on (λ r f. clear_8 (rows_of s) pass r (interleave_row (right_size (right_8 (rows_of s) pass)) f) f) refl)))

  refused_6 : (r : ℕ) → (sequenced r && sequence_test s r) ≡ true
      → SchemaRefusal T s Passes (Err (refusal_at code.Content r))
  refused_6 r e =
      goes_placed (placed_of r pass) (refused r (go (sequence_test s r) (sequence_test_lem s
      (right_size (rows_pass (placed_of r pass))) r) (and_right (sequenced r) (sequence_test s r) e)) (clear_6 r pass))
    where
      pass : sequenced r ≡ true
      pass = and_left (sequenced r) (sequence_test s r) e

      go : (b : Bool) → Decides (SequenceFault s r) b → b ≡ true → SequenceFault s r
      go true d i = d
      go false d i = absurd (false≢true i)

  refused_7 : (r : ℕ) → (attributed r && duplicate_test strings s r) ≡ true
      → SchemaRefusal T s Passes (Err (refusal_at code.Attributes r))
  refused_7 r e =
      let pass = and_left (attributed r) (duplicate_test strings s r) e in
      goes_placed (placed_7 r pass) (goes_on (none_6 r pass) (refused r
      (attribute_fault strings s r (and_right (attributed r) (duplicate_test strings s r) e)) (clear_7 r pass)))

  refused_8 : (r : ℕ) → (interleaved r && interleave_test strings s r) ≡ true
      → SchemaRefusal T s Passes (Err (refusal_at code.Interleaves r))
  refused_8 r e =
      let pass = and_left (interleaved r) (interleave_test strings s r) e in
      let a = attributed_of r pass in
      goes_placed (placed_7 (rows_of s) a) (goes_on (none_6 (rows_of s) a) (goes_on (none_7 r pass) (refused r
      (interleave_fault strings s r (and_right (interleaved r) (interleave_test strings s r) e)) (clear_8 r pass))))

  -- the verdict by a code with that number
  abbrev pub RefusedBy : ℕ → ℕ → Type 0
  RefusedBy n r = (c : Code) × (number_of c ≡ n) × SchemaRefusal T s Passes (Err (refusal_at c r))

  pub schema_refused : (n r : ℕ) → refused_test n r ≡ true → RefusedBy n r
  unfolding refused_test
  schema_refused n r = go (eqb n 6) refl (eqb n 7) refl (eqb n 8) refl
    where
      go : (a : Bool) → eqb n 6 ≡ a → (b : Bool) → eqb n 7 ≡ b → (c : Bool) → eqb n 8 ≡ c
          → elim a [
            | true ↦ sequenced r && sequence_test s r
            | false ↦ elim b [
              | true ↦ attributed r && duplicate_test strings s r
              | false ↦ elim c [ true ↦ interleaved r && interleave_test strings s r | false ↦ false ]
            ]
          ] ≡ true → RefusedBy n r
      go true f b g c h e = (code.Content, sym (eqb-true n 6 f), refused_6 r e)
      go false f true g c h e = (code.Attributes, sym (eqb-true n 7 g), refused_7 r e)
      go false f false g true h e = (code.Interleaves, sym (eqb-true n 8 h), refused_8 r e)
      go false f false g false h e = absurd (false≢true e)
