-- The least common name: of classes that have none, of an nsName and a class, and of two classes, namespace by
-- namespace.
use Prim.Native.Nat.{ℕ, ◌≤◌, ◌<◌}
use mathlib.Core.Path.{◌≡◌, refl, sym, ◌∙◌}
use mathlib.Core.Bool.{Bool, true, false, not, ◌&&◌, false≢true}
use mathlib.Core.Logic.{inl, inr, ⊎_elim}
use mathlib.Core.List.{List}
use native.Mathlib.Decide.{dec_lt, ℕ_discrete}
use native.Mathlib.Omega.{arith}
use lib.Dec.{ltb, eqb}
use borrow.Author.Tests.{eqb-true}
use Rattle.tables.specs.Answers.{Decides}
use Rattle.tables.proofs.Booleans.{and_both}
use Rattle.tables.proofs.Numbers.{not_less}
use Rattle.schema.specs.Falling.{upto}
use Rattle.schema.specs.Kinds as kind
use Rattle.schema.specs.RowRule.{max_rows}
use Rattle.schema.specs.Rows.{rows_of, kind_of, a_of, b_of}
use Rattle.schema_classes.specs.Membership.{holds, in_class}
use Rattle.schema_classes.specs.Least.{Common, NotAfter, LeastCommon}
use Rattle.schema_classes.specs.Search.{OneMentions, ToldApart, SmallerToldApart, LeastBeside}
use Rattle.std.specs.Prelude.{Option, Some, None}
use Rattle.schema_classes.specs.declared.Name.{Name}
use Rattle.schema_classes.specs.declared.Part.TheVariants.{Namespace}
use Rattle.schema_classes.proofs.ClassRows.{class_held}
use Rattle.schema_classes.proofs.Holds.{step, Read, holds_name, holds_ns_name}
use Rattle.schema_classes.proofs.CommonNames.{common_positive, namespace_stands}
use Rattle.schema_classes.proofs.Judging.{choice_member}
use Rattle.schema_classes.proofs.Searching.{Passed, passed_clear}
use Rattle.schema_classes.proofs.SmallModel.{class_low}

-- a name is common where the second class has it too
module _ (s : List ℕ) (c d u l : ℕ) where
  pub common_decided : in_class s u l c ≡ true → (t : Bool) → t ≡ in_class s u l d → Decides (Common s c d u l) t
  common_decided e true f = record { first = e; second = sym f }
  common_decided e false f = λ h. false≢true (f ∙ h.second)

  pub not_common : in_class s u l c ≡ false → ¬ Common s c d u l
  not_common e h = false≢true (sym e ∙ h.first)

  pub swap_common : Common s c d u l → Common s d c u l
  swap_common h = record { first = h.second; second = h.first }

-- no class has a name whose local number is 0
pub no_local_zero : {s : List ℕ} {c d u : ℕ} → (l : ℕ) → l < 1 → ¬ Common s c d u l
no_local_zero l h x = omega (arith, common_positive x)

-- a name, or a choice of names, none of which the class d holds
module _ (s : List ℕ) (c d : ℕ) {k a b : ℕ} (read : Read s c k a b) where
  pub name_apart : k ≡ kind.name → (t : Bool) → t ≡ in_class s a b d → ToldApart s c d (not t)
  name_apart e true h = tt
  name_apart e false h = other
    where
      other : (u l : ℕ) → ¬ Common s c d u l
      other u l x =
          let g = (and_both (ltb 0 l) (holds s u l c) x.first).1 in
          let i = and_both (eqb u a) (eqb l b) (sym (holds_name s u l c read e) ∙ g) in
          false≢true (h ∙ rw (← eqb-true u a i.0, ← eqb-true l b i.1) x.second)

  pub choice_apart : k ≡ kind.name_choice → SmallerToldApart s c a d true → (t : Bool) → SmallerToldApart s c b d t
      → ToldApart s c d t
  choice_apart e f false g = tt
  choice_apart e f true g = members
    where
      members : (u l : ℕ) → ¬ Common s c d u l
      members u l x =
          ⊎_elim (λ i. f i.0 u l (record { first = i.1; second = x.second }))
          (λ i. g i.0 u l (record { first = i.1; second = x.second }))
          (choice_member s u l (common_positive x) read e x.first)

pub member_apart : (s : List ℕ) (p c d : ℕ) (t : Bool) → ToldApart s c d t → SmallerToldApart s p c d t
member_apart s p c d true h = λ l. h
member_apart s p c d false h = tt

-- a class whose names are of one namespace
abbrev pub OneNamespace : List ℕ → ℕ → ℕ → Type 0
OneNamespace s c a = (u l : ℕ) → in_class s u l c ≡ true → u ≡ a

pub ns_namespace : (s : List ℕ) (c : ℕ) → rows_of s ≤ max_rows → {a : ℕ} → a ≡ a_of s c → kind_of s c ≡ kind.ns_name
    → OneNamespace s c a
ns_namespace s c rows {a} e k u l h = eqb-true u a (and_both (eqb u a) (not (upto (step s u l) c (b_of s c))) held).0
  where
    held : (eqb u a && not (upto (step s u l) c (b_of s c))) ≡ true
    held =
        sym (holds_ns_name s u l c (record { kind = refl; first = e; second = refl })
        (let i = class_low s c rows (class_held s u l c h) in omega arith) k)
        ∙ (and_both (ltb 0 l) (holds s u l c) h).1

module _ (s : List ℕ) (c d a : ℕ) where
  pub one_least : ((u l : ℕ) → Common s c d u l → u ≡ a) → (r : Option Name) → LeastBeside s c d a r
      → LeastCommon s c d r
  one_least one (Some n) (e, h, clear) = (
    rw e h,
    λ v k x. inr (e ∙ sym (one v k x), not_less (λ i. clear k i (rw (one v k x) at x))),
  )
  one_least one None t = λ u l x. t l (rw (one u l x) at x)

-- the namespaces passed have no common name, and what is found in the next is the least in it
pub found_least : {s : List ℕ} → rows_of s ≤ max_rows → (c d : ℕ) {n : ℕ} {r : Name}
    → Passed (OneMentions s c d Namespace) 0 (λ v. (k : ℕ) × Common s c d v k) n
    → LeastBeside s c d n (Some r) → LeastCommon s c d (Some r)
found_least {s} rows c d {n} {r} a (e, h, clear) = (rw e h, λ v k x. go v k x (dec_lt v n) (ℕ_discrete v n))
  where
    go : (v k : ℕ) → Common s c d v k → Dec (v < n) → Dec (v ≡ n) → NotAfter r.namespace r.local v k
    go v k x (yes i) f = absurd (passed_clear a (namespace_stands rows c d) v i (k, x))
    go v k x (no i) (yes f) = inr (e ∙ sym f, not_less (λ i. clear k i (rw f at x)))
    go v k x (no i) (no f) = inl (omega arith)
