-- A chain of seven checks; rows that keep their rule have the size that the later checks ask.
use mathlib.Core.Bool.{false≢true}
use mathlib.Core.Path.{◌≡◌, sym, ◌∙◌, ap}
use mathlib.Core.List.{List}
use Prim.Native.Nat.{ℕ}
use Rattle.std.specs.Prelude.{Result, Ok, Err, is_ok}
use Rattle.tables.specs.Checks.{Finds}
use Rattle.tables.specs.Codes.{refused_by, Tries}
use Rattle.tables.specs.declared.refusals.Refusal.{Refusal}
use Rattle.tables.specs.declared.refusals.Code.TheVariants.{Rows, Places, Names, Paths, Content, Attributes}
use Rattle.tables.proofs.Codes.{on, stops, last_code}
use Rattle.schema.specs.RowRule.{RowFault, SizeRight}
use Rattle.schema.proofs.RowLaws.{right_size}
use Rattle.schema.proofs.Sizes.{sized_finds}
use Rattle.schema_places.specs.Places.{PlaceFault}
use Rattle.schema_places.specs.Names.{NameFault}
use Rattle.schema_places.specs.Paths.{PathFault}
use Rattle.schema_sequences.specs.Content.{SequenceFault}
use Rattle.schema_occurrences.specs.Attributes.{AttributeFault}
use Rattle.schema_restrictions.proofs.check_schema.Goals as goal
use Rattle.schema_restrictions.proofs.check_schema.Goals.{In_ok-judge, In_ok-judge-2, In_ok-judge-3, In_ok-judge-4}
use Rattle.schema_restrictions.proofs.check_schema.Goals.{In_ok-judge-5, In_ok-judge-6}

-- where the rows are judged right, the table has the right size
size : (strings : ℕ) (s : List ℕ) (c : Result Unit ℕ) {v : Result Unit Refusal} {x : Unit}
    → Finds (RowFault strings s) c → v ≡ refused_by Rows c → v ≡ Ok x → SizeRight s
size strings s (Ok x) f e o = right_size f
size strings s (Err place) f e o = absurd (false≢true (ap is_ok (sym e ∙ o)))

-- each check that says yes lets the chain go on
past_rows : (c : In_ok-judge) {next : Result Unit Refusal → Type 0} {w : Result Unit Refusal}
    → next w → Tries Rows (RowFault c.args.strings c.args.schema.now) next w
past_rows c = on c.check_rows.result c.check_rows.ensures c.judge.ensures c.in_ok-judge.was

right : (c : In_ok-judge) → SizeRight c.args.schema.now
right c = size _ _ c.check_rows.result c.check_rows.ensures c.judge.ensures c.in_ok-judge.was

past_places : (c : In_ok-judge-2) → SizeRight c.args.schema.now → {next : Result Unit Refusal → Type 0}
    → {w : Result Unit Refusal} → next w → Tries Places (PlaceFault c.args.schema.now) next w
past_places c r =
    let check = c.check_places in
    on check.result (sized_finds _ _ r check.result check.ensures) c.judge-2.ensures c.in_ok-judge-2.was

past_names : (c : In_ok-judge-3) → SizeRight c.args.schema.now → {next : Result Unit Refusal → Type 0}
    → {w : Result Unit Refusal} → next w → Tries Names (NameFault c.args.schema.now) next w
past_names c r =
    let check = c.check_names in
    on check.result (sized_finds _ _ r check.result check.ensures) c.judge-3.ensures c.in_ok-judge-3.was

past_paths : (c : In_ok-judge-4) → SizeRight c.args.schema.now → {next : Result Unit Refusal → Type 0}
    → {w : Result Unit Refusal} → next w → Tries Paths (PathFault c.args.schema.now) next w
past_paths c r =
    let check = c.check_paths in
    on check.result (sized_finds _ _ r check.result check.ensures) c.judge-4.ensures c.in_ok-judge-4.was

past_content : (c : In_ok-judge-5) → SizeRight c.args.schema.now → {next : Result Unit Refusal → Type 0}
    → {w : Result Unit Refusal} → next w → Tries Content (SequenceFault c.args.schema.now) next w
past_content c r =
    let check = c.check_content in
    on check.result (sized_finds _ _ r check.result check.ensures) c.judge-5.ensures c.in_ok-judge-5.was

past_attributes : (c : In_ok-judge-6) → SizeRight c.args.schema.now → {next : Result Unit Refusal → Type 0}
    → {w : Result Unit Refusal} → next w → Tries Attributes (AttributeFault c.args.schema.now) next w
past_attributes c r =
    let check = c.check_attributes in
    on check.result (sized_finds _ _ r check.result check.ensures) c.judge-6.ensures c.in_ok-judge-6.was

pub returns-in_err-judge : goal.returns-in_err-judge
returns-in_err-judge c =
    stops c.check_rows.result c.check_rows.ensures c.judge.ensures c.in_err-judge.was c.from_residual.ensures.1

pub returns-in_err-judge-2 : goal.returns-in_err-judge-2
returns-in_err-judge-2 c =
    let at = goal.at.returns-in_err-judge-2 c in
    let r = right at.In_ok-judge in
    let check = c.check_places in
    past_rows at.In_ok-judge
    (stops check.result (sized_finds _ _ r check.result check.ensures) c.judge-2.ensures
    c.in_err-judge-2.was c.from_residual-in_err-judge-2.ensures.1)

pub returns-in_err-judge-3 : goal.returns-in_err-judge-3
returns-in_err-judge-3 c =
    let at = goal.at.returns-in_err-judge-3 c in
    let r = right at.In_ok-judge in
    let check = c.check_names in
    past_rows at.In_ok-judge
    (past_places at.In_ok-judge-2 r
    (stops check.result (sized_finds _ _ r check.result check.ensures) c.judge-3.ensures
    c.in_err-judge-3.was c.from_residual-in_err-judge-3.ensures.1))

pub returns-in_err-judge-4 : goal.returns-in_err-judge-4
returns-in_err-judge-4 c =
    let at = goal.at.returns-in_err-judge-4 c in
    let r = right at.In_ok-judge in
    let check = c.check_paths in
    past_rows at.In_ok-judge
    (past_places at.In_ok-judge-2 r
    (past_names at.In_ok-judge-3 r
    (stops check.result (sized_finds _ _ r check.result check.ensures) c.judge-4.ensures
    c.in_err-judge-4.was c.from_residual-in_err-judge-4.ensures.1)))

pub returns-in_err-judge-5 : goal.returns-in_err-judge-5
returns-in_err-judge-5 c =
    let at = goal.at.returns-in_err-judge-5 c in
    let r = right at.In_ok-judge in
    let check = c.check_content in
    past_rows at.In_ok-judge
    (past_places at.In_ok-judge-2 r
    (past_names at.In_ok-judge-3 r
    (past_paths at.In_ok-judge-4 r
    (stops check.result (sized_finds _ _ r check.result check.ensures) c.judge-5.ensures
    c.in_err-judge-5.was c.from_residual-in_err-judge-5.ensures.1))))

pub returns-in_err-judge-6 : goal.returns-in_err-judge-6
returns-in_err-judge-6 c =
    let at = goal.at.returns-in_err-judge-6 c in
    let r = right at.In_ok-judge in
    let check = c.check_attributes in
    past_rows at.In_ok-judge
    (past_places at.In_ok-judge-2 r
    (past_names at.In_ok-judge-3 r
    (past_paths at.In_ok-judge-4 r
    (past_content at.In_ok-judge-5 r
    (stops check.result (sized_finds _ _ r check.result check.ensures) c.judge-6.ensures
    c.in_err-judge-6.was c.from_residual-in_err-judge-6.ensures.1)))))

pub returns : goal.returns
returns c =
    let at = goal.at.returns c in
    let r = right at.In_ok-judge in
    let check = c.check_interleaves in
    past_rows at.In_ok-judge
    (past_places at.In_ok-judge-2 r
    (past_names at.In_ok-judge-3 r
    (past_paths at.In_ok-judge-4 r
    (past_content at.In_ok-judge-5 r
    (past_attributes at.In_ok-judge-6 r
    (last_code check.result (sized_finds _ _ r check.result check.ensures) c.judge-7.ensures))))))
