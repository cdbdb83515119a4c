-- Marks in a table: what a store adds, and what the marks of a row's children add.
use Prim.Native.Nat.{ℕ, ◌≤◌, ◌<◌}
use mathlib.Core.Path.{◌≡◌, refl, sym, ◌∙◌, subst}
use mathlib.Core.Bool.{Bool, true, false, false≢true}
use mathlib.Core.Logic.{◌⊎◌, inl, inr, ⊎_elim}
use mathlib.Core.List.{List}
use native.Mathlib.Decide.{dec_lt, ℕ_discrete}
use native.Mathlib.Nat.{lt_of_not-le}
use native.Mathlib.Omega.{arith}
use lib.ListN.{length, set, length-set, get_or-eq_default}
use lib.Seq.{get_or-set_same, get_or-set_other, set_out}
use Rattle.schema.specs.Kinds.{no_row}
use Rattle.schema.specs.Rows.{child_a, child_b}
use Rattle.schema.specs.Marks.{Marked, mark_if, children_marked, Adds}
use Rattle.schema.proofs.Children.{child_a_row, child_b_row}

pub marked_row : (t : List ℕ) (r : ℕ) → Marked t r → r < length t
marked_row t r m = lt_of_not-le (λ h. omega (arith, get_or-eq_default t 0 h))

pub adds_none : {P : ℕ → Type 0} (t : List ℕ) → ((r : ℕ) → ¬ P r) → Adds P t t
adds_none t no_row =
    record { kept = λ r m. m; added = λ r p. absurd (no_row r p); only = λ r m. inl m; rest = λ r n. refl }

-- after a store the marked rows are the old ones and that row, if it is in the table
adds_store : (t : List ℕ) (i : ℕ) → Adds (λ r. (i ≡ r) × (r < length t)) t (set t i 1)
adds_store t i = go (dec_lt i (length t))
  where
    new : List ℕ
    new = set t i 1

    stored : i < length t → Marked new i
    stored h = get_or-set_same t i 1 0 h

    kept : i < length t → (r : ℕ) → Dec (r ≡ i) → Marked t r → Marked new r
    kept h r (yes e) m = subst (Marked new) (sym e) (stored h)
    kept h r (no n) m = get_or-set_other t i r 1 0 n ∙ m

    only : i < length t → (r : ℕ) → Dec (r ≡ i) → Marked new r → Marked t r ⊎ ((i ≡ r) × (r < length t))
    only h r (yes e) m = inr (sym e, omega arith)
    only h r (no n) m = inl (sym (get_or-set_other t i r 1 0 n) ∙ m)

    go : Dec (i < length t) → Adds (λ r. (i ≡ r) × (r < length t)) t new
    go (yes h) = record {
      kept = λ r. kept h r (ℕ_discrete r i);
      added = λ r p. subst (Marked new) p.0 (stored h);
      only = λ r. only h r (ℕ_discrete r i);
      rest = λ r n. get_or-set_other t i r 1 0 (λ e. n (subst (Marked new) (sym e) (stored h)));
    }
    go (no h) = rw (set_out t i 1 (omega arith)) (adds_none t (λ r p. let e = p.0 in let l = p.1 in omega arith))

pub adds_same : {P Q : ℕ → Type 0} → ((r : ℕ) → P r → Q r)
    → ((r : ℕ) → Q r → P r) → {t u : List ℕ} → Adds P t u → Adds Q t u
adds_same to from a = record {
  kept = a.kept;
  added = λ r q. a.added r (from r q);
  only = λ r h. ⊎_elim (λ m. inl m) (λ p. inr (to r p)) (a.only r h);
  rest = a.rest;
}

-- where R holds where P or Q does
pub adds_both : {P Q R : ℕ → Type 0} → ((r : ℕ) → P r → R r) → ((r : ℕ) → Q r → R r)
    → ((r : ℕ) → R r → P r ⊎ Q r) → {t u v : List ℕ} → Adds P t u → Adds Q u v → Adds R t v
adds_both left right split a b = record {
  kept = λ r m. b.kept r (a.kept r m);
  added = λ r x. ⊎_elim (λ p. b.kept r (a.added r p)) (λ q. b.added r q) (split r x);
  only = λ r m.
      ⊎_elim (λ n. ⊎_elim (λ o. inl o) (λ p. inr (left r p)) (a.only r n)) (λ q. inr (right r q)) (b.only r m);
  rest = λ r n. b.rest r n ∙ a.rest r (λ m. n (b.kept r m));
}

-- r is the word child, a smaller row than p, and wanted
pub record Picked (p child : ℕ) (wanted : Bool) (r : ℕ) : Type 0 where
  pub on : wanted ≡ true
  pub is : child ≡ r
  pub less : r < p

-- r is the child of p through field a, wanted by a, or the one through field b, wanted by b
pub data PickedChild (s : List ℕ) (p : ℕ) (a b : Bool) (r : ℕ) : Type 0 where
  picked_a : Picked p (child_a s p) a r → PickedChild s p a b r
  picked_b : Picked p (child_b s p) b r → PickedChild s p a b r

-- a child, a smaller row or none, is marked where it is wanted, in a table that has a word for each smaller row and
-- none for that number
adds_picked : (t : List ℕ) (p child : ℕ) (wanted : Bool) → p ≤ length t → length t ≤ no_row
    → (child < p) ⊎ (child ≡ no_row) → Adds (Picked p child wanted) t (mark_if wanted child t)
adds_picked t p child false room low row = adds_none t (λ r k. false≢true k.on)
adds_picked t p child true room low row =
    adds_same (λ r k. record { on = refl; is = k.0; less = smaller r k row })
    (λ r k. (k.is, let l = k.less in omega arith)) (adds_store t child)
  where
    smaller : (r : ℕ) → (child ≡ r) × (r < length t) → (child < p) ⊎ (child ≡ no_row) → r < p
    smaller r k (inl h) = let e = k.0 in omega arith
    smaller r k (inr e) = let f = k.0 in let l = k.1 in absurd (omega arith)

mark_length : (wanted : Bool) (r : ℕ) (t : List ℕ) → length (mark_if wanted r t) ≡ length t
mark_length true r t = length-set t r 1
mark_length false r t = refl

pub adds_children : (s t : List ℕ) (p : ℕ) (a b : Bool) → p ≤ length t
    → length t ≤ no_row → Adds (PickedChild s p a b) t (children_marked s p a b t)
adds_children s t p a b room low =
    let l = mark_length a (child_a s p) t in
    adds_both (λ r k. picked_a k) (λ r k. picked_b k) split
    (adds_picked t p (child_a s p) a room low (child_a_row s p))
    (adds_picked (mark_if a (child_a s p) t) p (child_b s p) b (omega arith) (omega arith) (child_b_row s p))
  where
    split : (r : ℕ) → PickedChild s p a b r → Picked p (child_a s p) a r ⊎ Picked p (child_b s p) b r
    split r (picked_a k) = inl k
    split r (picked_b k) = inr k
