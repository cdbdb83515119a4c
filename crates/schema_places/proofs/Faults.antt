-- From the searches to the codes: the first of two faults, and the faults of codes 4 and 5 by what each search finds.
use Prim.Native.Nat.{ℕ, min}
use mathlib.Core.Path.{◌≡◌, refl}
use mathlib.Core.Bool.{Bool, true, false}
use mathlib.Core.Logic.{◌⊎◌, inl, inr, ⊎_elim}
use mathlib.Core.List.{List}
use native.Mathlib.Omega.{arith}
use lib.Dec.{leb}
use borrow.Author.Tests.{leb-true, leb-false, eqb-true, eq-eqb}
use Rattle.std.specs.Prelude.{Result, Ok, Err}
use Rattle.tables.specs.Checks.{Finds}
use Rattle.tables.proofs.Checks.{finds_same}
use Rattle.tables.proofs.Booleans.{or_either}
use Rattle.schema.specs.Kinds as kind
use Rattle.schema_places.specs.Marks.{MarksExactly, Under}
use Rattle.schema_places.specs.Sources.{HasKind, SharingIn}
use Rattle.schema_places.specs.Prohibited.{RepeatedSharing, MarkedKind, Prohibited, earliest}
use Rattle.schema_places.specs.declared.Prohibition.{Prohibition}
use Rattle.schema_places.specs.declared.Prohibition.TheVariants.{NotInAnyName, NotInNsName}
use Rattle.schema_places.specs.declared.Prohibition.TheVariants.{NotInAttribute, NotInRepeated}
use Rattle.schema_places.specs.declared.Prohibition.TheVariants.{NotInList, NotInExcept, NotInStart}
use Rattle.schema_places.specs.Names.{NameFault, any_name_in_any_name, any_name_in_ns_name, ns_name_in_ns_name}
use Rattle.schema_places.specs.Paths.{PathFault, in_attribute, in_repeated_sharing, in_list, in_except, in_start}
use Rattle.schema_places.proofs.Marks.{marks_same}

abbrev pub Either : (ℕ → Type 0) → (ℕ → Type 0) → ℕ → Type 0
Either P Q r = P r ⊎ Q r

module _ (P Q : ℕ → Type 0) where
  finds_either : (a b : Result Unit ℕ) → Finds P a → Finds Q b → Finds (Either P Q) (earliest a b)
  finds_either (Ok t) (Ok u) f g = λ r. ⊎_elim (f r) (g r)
  finds_either (Ok t) (Err y) f g = (inr g.0, λ r h. ⊎_elim (f r) (g.1 r h))
  finds_either (Err x) (Ok u) f g = (inl f.0, λ r h. ⊎_elim (f.1 r h) (g r))
  finds_either (Err x) (Err y) f g = go (leb x y) refl
    where
      go : (b : Bool) → leb x y ≡ b → Finds (Either P Q) (earliest (Err x) (Err y))
      go true e =
          let l = leb-true x y e in
          let m : min x y ≡ x = omega arith in
          rw m (inl f.0, λ r h. ⊎_elim (f.1 r h) (g.1 r (omega arith)))
      go false e =
          let l = leb-false x y e in
          let m : min x y ≡ y = omega arith in
          rw m (inr g.0, λ r h. ⊎_elim (f.1 r (omega arith)) (g.1 r h))

  pub finds_earliest : (a b : Result Unit ℕ) {r : Result Unit ℕ} → r ≡ earliest a b → Finds P a → Finds Q b
      → Finds (Either P Q) r
  finds_earliest a b e f g = rw e (finds_either a b f g)

-- the search of a table that marks the rows below S
module _ {s : List ℕ} {S : ℕ → Type 0} {t : List ℕ} (prohibition : Prohibition) where
  pub finds_below : (c : Result Unit ℕ) → MarksExactly (Under s S) t
      → Finds (MarkedKind s t prohibition) c → Finds (Prohibited s S prohibition) c
  finds_below c m =
      finds_same c
      (λ r f. record { under = m.sound r f.mark; prohibited = f.prohibited })
      (λ r f. record { mark = m.complete r f.under; prohibited = f.prohibited })

pub marks_repeated : {s t : List ℕ} {u : List ℕ} → MarksExactly (Under s (HasKind s kind.one_or_more)) t
    → MarksExactly (Under s (SharingIn s t)) u → MarksExactly (Under s (RepeatedSharing s)) u
marks_repeated m =
    marks_same
    (λ r u. record {
      row = u.row;
      source = record { sharing = u.source.sharing; repeated = m.sound u.row u.source.mark };
      below = u.below;
    })
    (λ r u. record {
      row = u.row;
      source = record { sharing = u.source.sharing; mark = m.complete u.row u.source.repeated };
      below = u.below;
    })

-- code 4, by the anyNames and by the nsNames
abbrev pub NameProhibited : List ℕ → ℕ → Type 0
NameProhibited s =
    Either (Prohibited s (HasKind s kind.any_name) NotInAnyName) (Prohibited s (HasKind s kind.ns_name) NotInNsName)

module _ {s : List ℕ} where
  pub name_fault : (r : ℕ) → NameProhibited s r → NameFault s r
  name_fault r (inl f) =
      let u = f.under in
      any_name_in_any_name u.row (eqb-true _ _ f.prohibited) u.source u.below
  name_fault r (inr f) =
      let u = f.under in
      ⊎_elim
      (λ e. any_name_in_ns_name u.row (eqb-true _ _ e) u.source u.below)
      (λ e. ns_name_in_ns_name u.row (eqb-true _ _ e) u.source u.below)
      (or_either _ _ f.prohibited)

  pub fault_name : (r : ℕ) → NameFault s r → NameProhibited s r
  fault_name r (any_name_in_any_name p e k b) =
      inl (record { under = record { row = p; source = k; below = b }; prohibited = eq-eqb _ _ e })
  fault_name r (any_name_in_ns_name p e k b) =
      inr (record { under = record { row = p; source = k; below = b }; prohibited = rw e })
  fault_name r (ns_name_in_ns_name p e k b) =
      inr (record { under = record { row = p; source = k; below = b }; prohibited = rw e })

-- code 5, by its five paths
abbrev pub PathProhibited : List ℕ → ℕ → Type 0
PathProhibited s =
    Either
    (Either (Prohibited s (HasKind s kind.attribute) NotInAttribute) (Prohibited s (RepeatedSharing s) NotInRepeated))
    (Either (Prohibited s (HasKind s kind.list) NotInList)
    (Either (Prohibited s (HasKind s kind.«data») NotInExcept) (Prohibited s (HasKind s kind.start) NotInStart)))

module _ {s : List ℕ} where
  pub path_fault : (r : ℕ) → PathProhibited s r → PathFault s r
  path_fault r (inl (inl f)) = let u = f.under in in_attribute u.row f.prohibited u.source u.below
  path_fault r (inl (inr f)) =
      let u = f.under in
      let q = u.source.repeated in
      in_repeated_sharing u.row q.row (eqb-true _ _ f.prohibited)
      u.source.sharing u.below q.source q.below
  path_fault r (inr (inl f)) = let u = f.under in in_list u.row f.prohibited u.source u.below
  path_fault r (inr (inr (inl f))) = let u = f.under in in_except u.row f.prohibited u.source u.below
  path_fault r (inr (inr (inr f))) = let u = f.under in in_start u.row f.prohibited u.source u.below

  pub fault_path : (r : ℕ) → PathFault s r → PathProhibited s r
  fault_path r (in_attribute p n k b) =
      inl (inl (record { under = record { row = p; source = k; below = b }; prohibited = n }))
  fault_path r (in_repeated_sharing p q e n b k d) =
      inl (inr (record {
        under = record {
          row = p;
          source = record { sharing = n; repeated = record { row = q; source = k; below = d } };
          below = b;
        };
        prohibited = eq-eqb _ _ e;
      }))
  fault_path r (in_list p n k b) =
      inr (inl (record { under = record { row = p; source = k; below = b }; prohibited = n }))
  fault_path r (in_except p n k b) =
      inr (inr (inl (record { under = record { row = p; source = k; below = b }; prohibited = n })))
  fault_path r (in_start p n k b) =
      inr (inr (inr (record { under = record { row = p; source = k; below = b }; prohibited = n })))
