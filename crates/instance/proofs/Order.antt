-- The last child of each element, and the order of the rows of one element.
use mathlib.Core.Path.{◌≡◌, refl, sym, ◌∙◌, ap}
use mathlib.Core.Logic.{◌≢◌}
use mathlib.Core.Bool.{Bool, true, false, ◌&&◌, ◌||◌, and-false, true≢false}
use mathlib.Core.List.{List}
use Prim.Native.Nat.{ℕ, ◌+◌, ◌≤◌, ◌<◌}
use native.Mathlib.Omega.{arith}
use native.Mathlib.Decide.{dec_lt, ℕ_discrete}
use lib.Dec.{eqb}
use lib.ListN.{length, get_or, set, length-set, length-replicate}
use lib.Seq.{get_or-set_same, get_or-set_other}
use borrow.Author.Tests.{eq-eqb, ne_eqb, eqb-true}
use borrow.Author.Count.{below_none, below_more}
use Rattle.std.proofs.lemmas.List.{set_past}
use Rattle.tables.specs.Answers.{Decides}
use Rattle.tables.specs.Outputs.{zeros}
use Rattle.tables.proofs.Fill.{get_or_zeros}
use Rattle.instance.specs.Nodes.{element, attribute, text, no_parent, kind_of}
use Rattle.instance.specs.Nodes.{parent_of, a_of, b_of, c_of, is_child, is_attribute}
use Rattle.instance.specs.NodeRule.{max_nodes, fields_right, WrongNode, bad_fields, bad_parent}
use Rattle.instance.specs.NodeRule.{late_attribute, same_attribute, text_after_text}
use Rattle.instance.specs.Walk.{LastChild, no_child, child_at, LastChildren, RepeatsName, repeats, Placed}
use Rattle.instance.proofs.Ancestors.{root_told, parent_before}

-- a pair of tests that holds
pub and_parts : (a b : Bool) → (a && b) ≡ true → (a ≡ true) × (b ≡ true)
and_parts true b e = (refl, e)
and_parts false b e = absurd (true≢false (sym e))

module _ (t : List ℕ) (e q : ℕ) where
  pub child_parent : is_child t e q ≡ true → parent_of t q ≡ e
  child_parent h = eqb-true _ _ (and_parts _ _ h).0

  pub child_kind : is_child t e q ≡ true → kind_of t q ≢ 0
  child_kind h z =
      true≢false (sym (and_parts (eqb (parent_of t q) e) _ h).1 ∙ ap (λ (k : ℕ). eqb k element || eqb k text) z)

  pub text_child : kind_of t q ≡ text → parent_of t q ≡ e → is_child t e q ≡ true
  text_child k p = rw (k, eq-eqb _ _ p)

  pub attribute_parent : is_attribute t e q ≡ true → parent_of t q ≡ e
  attribute_parent h = eqb-true _ _ (and_parts _ _ h).0

  pub attribute_kind : is_attribute t e q ≡ true → kind_of t q ≡ attribute
  attribute_kind h = eqb-true _ _ (and_parts (eqb (parent_of t q) e) _ h).1

  pub attribute_told : parent_of t q ≡ e → kind_of t q ≡ attribute → is_attribute t e q ≡ true
  attribute_told p k = rw (k, eq-eqb _ _ p)

module _ {t : List ℕ} {e r k : ℕ} where
  last_kept : is_child t e r ≡ false → LastChild t e r k → LastChild t e (r + 1) k
  last_kept h (no_child z f) = no_child z (below_more _ r f h)
  last_kept h (child_at q l c z b) =
      child_at q (omega arith) c z
      (λ x m n. below_more (λ (y : ℕ). q < y → is_child t e y ≡ false) r (λ y i j. b y j i) (λ i. h) x n m)

last_new : {t : List ℕ} {e k : ℕ} (r : ℕ) → is_child t e r ≡ true → kind_of t r ≡ k → LastChild t e (r + 1) k
last_new r c z = child_at r (omega arith) c z (λ x m n. absurd (omega arith))

pub last_none : (t : List ℕ) {last : List ℕ} → last ≡ zeros max_nodes → LastChildren t last 0
last_none t e = record {
  size = ap length e ∙ length-replicate {A = ℕ} max_nodes 0;
  kinds = λ x h. no_child (ap (λ (l : List ℕ). get_or l x 0) e ∙ get_or_zeros max_nodes x) (below_none _);
}

module _ {t last : List ℕ} {r : ℕ} (c : LastChildren t last r) where
  noted_none : ((e : ℕ) → e < max_nodes → is_child t e r ≡ false) → LastChildren t last (r + 1)
  noted_none f = record {
    size = c.size;
    kinds = λ e h. last_kept (f e h) (c.kinds e h);
  }

  -- row r is of no kind of children, or its parent is not in the table
  pub noted_other : {k : ℕ} → k ≡ kind_of t r → (eqb k element || eqb k text) ≡ false → LastChildren t last (r + 1)
  noted_other j other = noted_none (λ e l. rw (← j, other) (and-false (eqb (parent_of t r) e)))

  noted_outside : {p : ℕ} → p ≡ parent_of t r → length last ≤ p → LastChildren t last (r + 1)
  noted_outside i h = noted_none (λ e l. rw (ne_eqb (parent_of t r) e (λ z. omega (arith, c.size))))

  pub noted : {p k : ℕ} → p ≡ parent_of t r → k ≡ kind_of t r → (eqb k element || eqb k text) ≡ true
      → LastChildren t (set last p k) (r + 1)
  noted {p} {k} i j child = stored (dec_lt p (length last))
    where
      go : p < length last → (e : ℕ) → e < max_nodes → Dec (e ≡ p) → LastChild t e (r + 1) (get_or (set last p k) e 0)
      go h e l (yes z) = rw (z, get_or-set_same last p k 0 h)
          (last_new r (rw (← i, ← j, eq-eqb p p refl) child) (sym j))
      go h e l (no f) =
          rw (get_or-set_other last p e k 0 f)
          (last_kept (rw (ne_eqb (parent_of t r) e (λ z. f (sym z ∙ sym i)))) (c.kinds e l))

      stored : Dec (p < length last) → LastChildren t (set last p k) (r + 1)
      stored (yes h) = record {
        size = length-set last p k ∙ c.size;
        kinds = λ e l. go h e l (ℕ_discrete e p);
      }
      stored (no f) =
          let past : length last ≤ p = omega arith in
          rw (set_past last p k past) (noted_outside i past)

-- a row that is not the element at the root has a parent before it
parent_low : {t last : List ℕ} {r : ℕ} → Placed t last r → kind_of t r ≢ element → parent_of t r < r
parent_low {t} {last} {r} placed f = go (dec_lt 0 r)
  where
    go : Dec (0 < r) → parent_of t r < r
    go (yes h) = parent_before placed.rooted h placed.parent
    go (no h) = let e : r ≡ 0 = omega arith in absurd (f (ap (kind_of t) e ∙ (root_told t (rw e at placed.parent)).0))

module _ {t last : List ℕ} {r k p before : ℕ} (placed : Placed t last r)
    (ke : k ≡ kind_of t r) (pe : p ≡ parent_of t r) (be : before ≡ get_or last p 0) where
  last_child : p < r → LastChild t p r before
  last_child h = rw be (placed.last_children.kinds p (omega (arith, placed.few)))

  is_attribute_lem : k ≡ attribute → kind_of t r ≡ attribute
  is_attribute_lem e = sym ke ∙ e

  pub after_parent : k ≢ element → p < r
  after_parent f = rw pe (parent_low placed (λ z. f (ke ∙ z)))

  pub late : {strings : ℕ} → k ≡ attribute → before ≢ 0 → WrongNode strings t r
  late {strings} e f = go (last_child (after_parent (omega arith)))
    where
      go : LastChild t p r before → WrongNode strings t r
      go (no_child z n) = absurd (f z)
      go (child_at q l c z b) = late_attribute q l (is_attribute_lem e) (rw (← pe) c)

  repeated : {strings : ℕ} → k ≡ attribute → RepeatsName t p r → WrongNode strings t r
  repeated e (repeats q m l twin) = same_attribute q l (is_attribute_lem e) (rw (← pe) twin.0) twin.1

  pub text_follows : {strings : ℕ} → k ≡ text → before ≡ text → WrongNode strings t r
  text_follows {strings} e f = go (last_child (after_parent (omega arith)))
    where
      go : LastChild t p r before → WrongNode strings t r
      go (no_child z n) = absurd (omega arith)
      go (child_at q l c z b) = text_after_text q l (sym ke ∙ e) (z ∙ f) (child_parent t p q c ∙ pe) (rw (← pe) b)

  module _ (strings : ℕ) (fields : fields_right strings (kind_of t r) (a_of t r) (b_of t r) (c_of t r) ≡ true) where
    attribute_right : k ≡ attribute → before ≡ 0 → ¬ RepeatsName t p r → ¬ WrongNode strings t r
    attribute_right e f n (bad_fields g) = true≢false (sym fields ∙ g)
    attribute_right e f n (bad_parent g) = g placed.parent
    attribute_right e f n (late_attribute q l y c) = go (last_child (after_parent (omega arith)))
      where
        go : LastChild t p r before → ⊥
        go (no_child z m) = true≢false (sym c ∙ rw (← pe) (m q l))
        go (child_at x m d z b) = child_kind t p x d (z ∙ f)
    attribute_right e f n (same_attribute q l y c s) = go (dec_lt 0 q)
      where
        own : parent_of t q ≡ p
        own = attribute_parent t (parent_of t r) q c ∙ sym pe

        go : Dec (0 < q) → ⊥
        go (yes z) = let b = placed.rooted.before q z l in n (repeats q (omega (arith, own)) l (rw pe c, s))
        go (no z) =
            let q₀ : q ≡ 0 = omega arith in
            let root = placed.rooted.root_parent (omega arith) in
            let at_root : parent_of t q ≡ no_parent = ap (parent_of t) q₀ ∙ root in
            omega (arith, own, after_parent (omega arith), placed.few)
    attribute_right e f n (text_after_text q l y z s b) = omega arith

    -- an attribute of an element that has no child yet is wrong exactly if it repeats a name
    pub attribute_told_wrong : k ≡ attribute → before ≡ 0 → (answer : Bool)
        → Decides (RepeatsName t p r) answer → Decides (WrongNode strings t r) answer
    attribute_told_wrong e f true a = repeated e a
    attribute_told_wrong e f false a = attribute_right e f a

    pub text_right : k ≡ text → before ≢ text → ¬ WrongNode strings t r
    text_right e f (bad_fields g) = true≢false (sym fields ∙ g)
    text_right e f (bad_parent g) = g placed.parent
    text_right e f (late_attribute q l y c) = omega arith
    text_right e f (same_attribute q l y c s) = omega arith
    text_right e f (text_after_text q l y z s b) = go (last_child (after_parent (omega arith)))
      where
        own : is_child t p q ≡ true
        own = text_child t p q z (s ∙ sym pe)

        meet : (x : ℕ) → x < r → is_child t p x ≡ true → kind_of t x ≡ before
            → ((v : ℕ) → x < v → v < r → is_child t p v ≡ false) → Dec (x < q) → Dec (q < x) → ⊥
        meet x m d i g (yes h) j = true≢false (sym own ∙ g q h l)
        meet x m d i g (no h) (yes j) = true≢false (sym d ∙ rw pe (b x j m))
        meet x m d i g (no h) (no j) = let same : x ≡ q = omega arith in f (sym i ∙ ap (kind_of t) same ∙ z)

        go : LastChild t p r before → ⊥
        go (no_child w m) = true≢false (sym own ∙ m q l)
        go (child_at x m d i g) = meet x m d i g (dec_lt x q) (dec_lt q x)
