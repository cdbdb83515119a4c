-- A chain of checks, each of which stops it or lets it go on.
use mathlib.Core.Bool.{true≢false, false≢true}
use mathlib.Core.Path.{◌≡◌, sym, ◌∙◌, ap, subst⁻¹}
use Prim.Native.Nat.{ℕ, ◌<◌}
use Rattle.std.specs.Prelude.{Result, Ok, Err, is_ok, IsErrAnd}
use Rattle.std.proofs.lemmas.Result.{err_from_is_err_and}
use Rattle.tables.specs.Checks.{Finds}
use Rattle.tables.specs.Codes.{number_of, refused_by, Tries, refused, goes_on, Passes}
use Rattle.tables.specs.declared.refusals.Code.{Code}
use Rattle.tables.specs.declared.refusals.Code.TheVariants.{Strings, Rows, Places, Names, Paths, Content, Attributes}
use Rattle.tables.specs.declared.refusals.Code.TheVariants.{Interleaves, Nodes, Width, NoClass, Room, Line}
use native.Mathlib.Omega.{arith}
use Rattle.tables.specs.declared.refusals.Refusal.{Refusal}

-- a check that says no stops the chain with its refusal, and one that says yes lets it go on
module _ {code : Code} {P : ℕ → Type 0} {next : Result Unit Refusal → Type 0} where
  pub stops : (c : Result Unit ℕ) {v w : Result Unit Refusal} {r : Refusal} → Finds P c → v ≡ refused_by code c
      → v ≡ Err r → IsErrAnd w (λ y. y ≡ r) → Tries code P next w
  stops (Ok x) f e s l = absurd (true≢false (ap is_ok (sym e ∙ s)))
  stops (Err place) {v} {w} f e s l =
      let p = err_from_is_err_and w l in
      subst⁻¹ (Tries code P next) (p.1 ∙ ap Err p.2 ∙ sym s ∙ e) (refused place f.0 f.1)

  pub on : (c : Result Unit ℕ) {v w : Result Unit Refusal} → Finds P c → v ≡ refused_by code c
      → v ≡ Ok tt → next w → Tries code P next w
  on (Ok x) f e s n = goes_on f n
  on (Err place) f e s n = absurd (false≢true (ap is_ok (sym e ∙ s)))
  -- the last code of a chain

pub last_code : {code : Code} {P : ℕ → Type 0} (c : Result Unit ℕ) {v : Result Unit Refusal}
    → Finds P c → v ≡ refused_by code c → Tries code P Passes v
last_code {code} {P} (Ok tt) f e = goes_on f e
last_code {code} {P} (Err place) f e = subst⁻¹ (Tries code P Passes) e (refused place f.0 f.1)

-- what comes after a code may be replaced: for a verdict that has it, and, where the code let the chain go on, for any
-- other verdict
module _ {code : Code} {P : ℕ → Type 0} {next next' : Result Unit Refusal → Type 0} where
  pub tries_map : {v : Result Unit Refusal} → (next v → next' v) → Tries code P next v → Tries code P next' v
  tries_map f (refused place p c) = refused place p c
  tries_map f (goes_on n x) = goes_on n (f x)

  pub tries_go : {w : Result Unit Refusal} → (next (Ok tt) → next' w) → Tries code P next (Ok tt) → Tries code P next' w
  tries_go f (goes_on n x) = goes_on n (f x)

-- a refusal has a code from 1 on
pub number_positive : (c : Code) → 0 < number_of c
number_positive Strings = omega arith
number_positive Rows = omega arith
number_positive Places = omega arith
number_positive Names = omega arith
number_positive Paths = omega arith
number_positive Content = omega arith
number_positive Attributes = omega arith
number_positive Interleaves = omega arith
number_positive Nodes = omega arith
number_positive Width = omega arith
number_positive NoClass = omega arith
number_positive Room = omega arith
number_positive Line = omega arith

-- what the exit of a `?` returns
pub exit : {A : Type 0} {r : Refusal} (w : Result A Refusal) → IsErrAnd w (λ y. y ≡ r) → w ≡ Err r
exit w l = let p = err_from_is_err_and w l in p.1 ∙ ap Err p.2

-- two answers that are equal say the same
module _ {A : Type 0} where
  pub ok_err : {x : A} {r : Refusal} → Ok x ≡ Err r → ⊥
  ok_err e = true≢false (ap is_ok e)

  pub ok_same : {x y : A} → ◌≡◌ {A = Result A Refusal} (Ok x) (Ok y) → x ≡ y
  ok_same {x} {y} e = ap answer e
    where
      answer : Result A Refusal → A
      answer (Ok a) = a
      answer (Err r) = x

  pub err_same : {r q : Refusal} → ◌≡◌ {A = Result A Refusal} (Err r) (Err q) → r ≡ q
  err_same {r} {q} e = ap refusal e
    where
      refusal : Result A Refusal → Refusal
      refusal (Ok a) = r
      refusal (Err f) = f
