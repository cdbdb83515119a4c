-- Laws of tables of marks, and of the marks that one row gives its children.
use Prim.Native.Nat.{ℕ, ◌≤◌}
use mathlib.Core.Path.{◌≡◌, refl, sym, ◌∙◌, subst}
use mathlib.Core.Bool.{Bool, true, false}
use mathlib.Core.Logic.{◌⊎◌, ⊎_elim}
use mathlib.Core.List.{List}
use native.Mathlib.Decide.{ℕ_discrete}
use native.Mathlib.Omega.{arith}
use lib.ListN.{length, get_or}
use lib.Seq.{ext_get_or}
use Rattle.tables.specs.Answers.{Decides}
use Rattle.tables.specs.Outputs.{zeros}
use Rattle.tables.proofs.Answers.{said_yes}
use Rattle.tables.proofs.Fill.{get_or_zeros}
use Rattle.schema.specs.Kinds.{no_row}
use Rattle.schema.specs.Marks.{Marked, children_marked, Adds}
use Rattle.schema.specs.Rows.{child_a, child_b}
use Rattle.schema.specs.RowRule.{max_rows}
use Rattle.schema.proofs.Children.{child_less, child_is, child_a_lem, child_b_lem}
use Rattle.schema.proofs.Marks.{PickedChild, picked_a, picked_b, adds_same, adds_children}
use Rattle.schema_places.specs.Marks.{MarksExactly, ChildThat}

module _ {P : ℕ → Type 0} where
  pub marks_none : (n : ℕ) → ((r : ℕ) → ¬ P r) → MarksExactly P (zeros n)
  marks_none n no_row = record {
    sound = λ r m. absurd (omega (arith, get_or_zeros n r));
    complete = λ r p. absurd (no_row r p);
    rest = λ r m. get_or_zeros n r;
  }

  -- every word is fixed by the rows that are marked
  pub marks_unique : (t u : List ℕ) → length t ≡ length u → MarksExactly P t → MarksExactly P u → t ≡ u
  marks_unique t u e m n = ext_get_or 0 t u e (λ k h. go k (ℕ_discrete (get_or t k 0) 1))
    where
      go : (k : ℕ) → Dec (Marked t k) → get_or t k 0 ≡ get_or u k 0
      go k (yes d) = d ∙ sym (n.complete k (m.sound k d))
      go k (no d) = m.rest k d ∙ sym (n.rest k (λ x. d (m.complete k (n.sound k x))))

pub marks_same : {P Q : ℕ → Type 0} → ((r : ℕ) → P r → Q r)
    → ((r : ℕ) → Q r → P r) → {t : List ℕ} → MarksExactly P t → MarksExactly Q t
marks_same to from m =
    record { sound = λ r h. to r (m.sound r h); complete = λ r q. m.complete r (from r q); rest = m.rest }

-- where R holds where P or Q does
pub marks_more : {P Q R : ℕ → Type 0} → ((r : ℕ) → P r → R r) → ((r : ℕ) → Q r → R r)
    → ((r : ℕ) → R r → P r ⊎ Q r) → {t u : List ℕ} → MarksExactly P t → Adds Q t u → MarksExactly R u
marks_more left right split m a = record {
  sound = λ r h. ⊎_elim (λ o. left r (m.sound r o)) (λ q. right r q) (a.only r h);
  complete = λ r x. ⊎_elim (λ p. a.kept r (m.complete r p)) (λ q. a.added r q) (split r x);
  rest = λ r n. a.rest r n ∙ m.rest r (λ h. n (a.kept r h));
}

says_yes : {A : Type 0} (r : Bool) → Decides A r → A → r ≡ true
says_yes true d x = refl
says_yes false d x = absurd (d x)

-- the children of which P holds are marked, where P is what was asked of each
module _ {s t : List ℕ} {p : ℕ} (low : p ≤ max_rows) (room : length t ≡ max_rows) (P : ℕ → Type 0)
    (a b : Bool) (da : Decides (P (child_a s p)) a) (db : Decides (P (child_b s p)) b) where
  pub adds_those : {u : List ℕ} → u ≡ children_marked s p a b t → Adds (ChildThat s p P) t u
  adds_those e = rw e (adds_same to from (adds_children s t p a b (omega arith) (omega arith)))
    where
      within : p ≤ no_row
      within = omega arith

      to : (r : ℕ) → PickedChild s p a b r → ChildThat s p P r
      to r (picked_a k) =
          subst (ChildThat s p P) k.is
          (record { child = child_a_lem s p within (rw k.is k.less); holds = said_yes da k.on })
      to r (picked_b k) =
          subst (ChildThat s p P) k.is
          (record { child = child_b_lem s p within (rw k.is k.less); holds = said_yes db k.on })

      from : (r : ℕ) → ChildThat s p P r → PickedChild s p a b r
      from r k =
          ⊎_elim
          (λ e. picked_a (record { on = says_yes a da (rw e k.holds); is = e; less = child_less k.child }))
          (λ e. picked_b (record { on = says_yes b db (rw e k.holds); is = e; less = child_less k.child }))
          (child_is k.child)
