-- What follows from the verdict on a schema for the calls that go on from there.
use mathlib.Core.Path.{◌≡◌, refl, sym, ◌∙◌, subst}
use mathlib.Core.Bool.{Bool, true, false, ◌&&◌, true≢false}
use mathlib.Core.List.{List}
use Prim.Native.Nat.{ℕ, ◌<◌}
use native.Mathlib.Omega.{arith}
use lib.Dec.{eqb}
use borrow.Author.Tests.{ne_eqb}
use Rattle.std.specs.Prelude.{Result, Ok, Err, IsErrAnd, Option}
use Rattle.tables.specs.Tables.{StringTable}
use Rattle.strings.specs.Strings.{schema_strings}
use Rattle.tables.specs.Codes.{number_of, refusal_at, Tries, refused, goes_on, Passes}
use Rattle.tables.specs.declared.refusals.Code.TheVariants as code
use Rattle.tables.specs.declared.refusals.Refusal.{Refusal}
use Rattle.tables.proofs.Codes.{tries_map, tries_go, number_positive, exit, ok_err}
use Rattle.schema.specs.Rows.{sort_of, is_class}
use Rattle.schema.specs.RowRule.{RowsRight}
use Rattle.schema_classes.specs.WhichRow.{Judged}
use Rattle.schema_classes.specs.declared.Member.{Member}
use Rattle.schema_classes.specs.declared.Member.TheVariants.{Yes, No}
use Rattle.schema_classes.specs.declared.Name.{Name}
use Rattle.relaxng.specs.Promises.{SchemaRefusal, NotClass, NoClass, not_first, not_second}
use Rattle.relaxng.specs.Promises.{NameInClass, LeastCommonName}

module _ {T : StringTable} {s : List ℕ} {next : Result Unit Refusal → Type 0} where
  -- a refusal by a code up to 8 stands whatever comes after
  pub schema_refused : {v : Result Unit Refusal} {r : Refusal} → v ≡ Err r
      → SchemaRefusal T s Passes v → SchemaRefusal T s next v
  schema_refused {v} e =
      tries_map (tries_map (tries_map (tries_map (tries_map (tries_map (tries_map (tries_map never)))))))
    where
      never : v ≡ Ok tt → next v
      never p = absurd (ok_err (sym p ∙ e))

  -- a schema that passes leaves the rest to what comes after
  pub schema_passed : {v w : Result Unit Refusal} → v ≡ Ok tt → SchemaRefusal T s Passes v → next w
      → SchemaRefusal T s next w
  schema_passed {v} {w} e r x = go (subst (SchemaRefusal T s Passes) e r)
    where
      go : SchemaRefusal T s Passes (Ok tt) → SchemaRefusal T s next w
      go = tries_go (tries_go (tries_go (tries_go (tries_go (tries_go (tries_go (tries_go (λ p. x))))))))

rows_of : {T : StringTable} {s : List ℕ} → SchemaRefusal T s Passes (Ok tt) → RowsRight (schema_strings T) s
rows_of (goes_on strings (goes_on rows x)) = rows

pub passed_rows : {T : StringTable} {s : List ℕ} {v : Result Unit Refusal} → v ≡ Ok tt
    → SchemaRefusal T s Passes v → RowsRight (schema_strings T) s
passed_rows {T} {s} e r = rows_of (subst (SchemaRefusal T s Passes) e r)

-- a code is no 0
pub no_code : {A : Type 0} (r : Refusal) → number_of r.code ≡ 0 → A
no_code r e = absurd (omega (arith, e, number_positive r.code))

pub no_yes : {a : ℕ} (b : Bool) → 0 < a → false ≡ (eqb a 0 && b)
no_yes {a} b h = rw (ne_eqb a 0 (λ e. omega arith))

-- code 11
module _ (s : List ℕ) (row : ℕ) where
  pub no_class : is_class (sort_of s row) ≡ false
      → Tries code.NoClass (NotClass s row) Passes (Err (refusal_at code.NoClass row))
  no_class e = refused row (e, refl) (λ i h f. omega (arith, f.1))

  pub a_class : is_class (sort_of s row) ≡ true → Tries code.NoClass (NotClass s row) Passes (Ok tt)
  a_class e = goes_on (λ i f. true≢false (sym e ∙ f.0)) refl

module _ (s : List ℕ) (first second : ℕ) where
  pub no_first : is_class (sort_of s first) ≡ false
      → Tries code.NoClass (NoClass s first second) Passes (Err (refusal_at code.NoClass first))
  no_first e = refused first (not_first (e, refl)) before
    where
      before : (i : ℕ) → i < first → ¬ NoClass s first second i
      before i h (not_first f) = omega (arith, f.1)
      before i h (not_second c f) = true≢false (sym c ∙ e)

  module _ (c : is_class (sort_of s first) ≡ true) where
    pub no_second : is_class (sort_of s second) ≡ false
        → Tries code.NoClass (NoClass s first second) Passes (Err (refusal_at code.NoClass second))
    no_second e = refused second (not_second c (e, refl)) before
      where
        before : (i : ℕ) → i < second → ¬ NoClass s first second i
        before i h (not_first f) = true≢false (sym c ∙ f.0)
        before i h (not_second g f) = omega (arith, f.1)

    pub both_classes : is_class (sort_of s second) ≡ true → Tries code.NoClass (NoClass s first second) Passes (Ok tt)
    both_classes e = goes_on none refl
      where
        none : (i : ℕ) → ¬ NoClass s first second i
        none i (not_first f) = true≢false (sym c ∙ f.0)
        none i (not_second g f) = true≢false (sym e ∙ f.0)

module _ {T : StringTable} {s : List ℕ} {v : Result Unit Refusal} (checked : SchemaRefusal T s Passes v) where
  -- a refusal of the schema stands at the exit of a call
  module _ {r : Refusal} (e : v ≡ Err r) where
    refusal : {next : Result Unit Refusal → Type 0} → SchemaRefusal T s next (Err r)
    refusal {next} = subst (SchemaRefusal T s next) e (schema_refused e checked)

    pub refused_member : {class u l : ℕ} {w : Result Member Refusal} → IsErrAnd w (λ y. y ≡ r)
        → NameInClass T s class u l w
    refused_member {w = w} x = rw (exit w x) (record {
      refusal = refusal;
      answer = no_yes _ (number_positive r.code);
      row = λ q. no_code r q;
      without_row = λ q. refl;
    })

    pub refused_name : {first second : ℕ} {w : Result (Option Name) Refusal} → IsErrAnd w (λ y. y ≡ r)
        → LeastCommonName T s first second w
    refused_name {w = w} x = rw (exit w x) (record { refusal = refusal; answer = λ q. no_code r q })

  -- a class that is asked refuses nothing, and the answer is what it says
  pub says : {class u l : ℕ} → v ≡ Ok tt → is_class (sort_of s class) ≡ true → (m : Member)
      → Judged s u l class m → NameInClass T s class u l (Ok m)
  says {class} e is (Yes row) j = record {
    refusal = schema_passed e checked (a_class s class is);
    answer = j.answer;
    row = λ q. j.row;
    without_row = λ q. absurd (q refl);
  }
  says {class} e is (No row) j = record {
    refusal = schema_passed e checked (a_class s class is);
    answer = j.answer;
    row = λ q. j.row;
    without_row = λ q. absurd (q refl);
  }
