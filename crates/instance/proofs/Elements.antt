-- The rows of a table that keeps the rule of instance rows: parents are elements before their rows, attributes stand
-- right after their element, and their names differ.
use mathlib.Core.Path.{◌≡◌, refl, sym, ◌∙◌, ap}
use mathlib.Core.Logic.{◌≢◌}
use mathlib.Core.Bool.{Bool, true, false, cond, ◌&&◌, false≢true}
use mathlib.Core.List.{List}
use Prim.Native.Nat.{ℕ, zero, suc, ◌+◌, ◌-◌, ◌%◌, ◌≤◌, ◌<◌}
use native.Mathlib.Omega.{arith}
use native.Mathlib.Numerals.{add-one}
use native.Mathlib.Decide.{dec_lt, ℕ_discrete}
use lib.Dec.{eqb, ltb}
use lib.ListN.{length, get_or-eq_default}
use borrow.Author.Tests.{eq-eqb, eqb-true, eqb-false, ltb-true}
use Rattle.tables.proofs.Numbers.{not_less}
use Rattle.instance.specs.Nodes.{element, attribute, text, no_parent, nodes_of, kind_of}
use Rattle.instance.specs.Nodes.{parent_of, a_of, b_of, c_of, is_child, is_attribute, SameName}
use Rattle.instance.specs.NodeRule.{max_nodes, fields_right, nearest, SelfOrAncestor, itself, above}
use Rattle.instance.specs.NodeRule.{ParentRight, NodeSizeFault, broken_length, bad_size, bad_node}
use Rattle.instance.specs.NodeRule.{bad_fields, bad_parent, late_attribute, same_attribute, NodesRight}
use Rattle.instance.specs.Walk.{Rooted}
use Rattle.instance.proofs.Size.{few_nodes}
use Rattle.instance.proofs.Ancestors.{sure, up_none, rooted_none, rooted_more}
use Rattle.instance.proofs.Order.{and_parts, child_parent, child_kind, text_child}
use Rattle.instance.proofs.Order.{attribute_parent, attribute_kind, attribute_told}

-- past a table of whole rows there is no row
kind_past : (t : List ℕ) (r : ℕ) → length t % 5 ≡ 0 → nodes_of t ≤ r → kind_of t r ≡ 0
kind_past t r w h = get_or-eq_default t 0 (omega arith)

element_child : (t : List ℕ) (e q : ℕ) → kind_of t q ≡ element → parent_of t q ≡ e → is_child t e q ≡ true
element_child t e q k p = rw (k, eq-eqb _ _ p)

-- the kinds of a row whose fields are right, and the string of a text
pub data Node (strings k a : ℕ) : Type 0 where
  is_element_lem : k ≡ element → Node strings k a
  is_attribute_lem : k ≡ attribute → Node strings k a
  is_text : k ≡ text → 0 < a → a < strings → Node strings k a

fields_told : (strings k a b c : ℕ) → fields_right strings k a b c ≡ true → Node strings k a
unfolding fields_right
fields_told strings k a b c = go (eqb k element) refl (eqb k attribute) refl (eqb k text) refl
  where
    go :
        (x : Bool) → eqb k element ≡ x → (y : Bool) → eqb k attribute ≡ y → (z : Bool) → eqb k text ≡ z
        → cond x (ltb a strings && (ltb 0 b && ltb b strings) && eqb c 0)
        (cond y (ltb a strings && (ltb 0 b && ltb b strings) && ltb c strings)
        (cond z ((ltb 0 a && ltb a strings) && eqb b 0 && eqb c 0) false)) ≡ true
        → Node strings k a
    go true e y f z g h = is_element_lem (eqb-true _ _ e)
    go false e true f z g h = is_attribute_lem (eqb-true _ _ f)
    go false e false f true g h =
        let i = and_parts (ltb 0 a) (ltb a strings) (and_parts (ltb 0 a && ltb a strings)
        (eqb b 0) (and_parts (ltb 0 a && ltb a strings && eqb b 0) (eqb c 0) h).0).0 in
        is_text (eqb-true _ _ g) (ltb-true _ _ i.0) (ltb-true _ _ i.1)
    go false e false f false g h = absurd (false≢true h)

-- a test that cannot fail
sure_true : (b : Bool) → ¬ (¬ (b ≡ true)) → b ≡ true
sure_true true f = refl
sure_true false f = absurd (f (λ e. false≢true e))

module _ {strings : ℕ} {t : List ℕ} (right : NodesRight strings t) where
  right_size : (r : ℕ) → ¬ NodeSizeFault t r
  right_size r f = right r (bad_size f)

  -- a row that has a kind is in the table
  pub in_table : {r : ℕ} → kind_of t r ≢ 0 → r < nodes_of t
  in_table {r} f = go (dec_lt r (nodes_of t)) (ℕ_discrete (length t % 5) 0)
    where
      go : Dec (r < nodes_of t) → Dec (length t % 5 ≡ 0) → r < nodes_of t
      go (yes h) w = h
      go (no h) (yes w) = absurd (f (kind_past t r w (not_less h)))
      go (no h) (no w) = absurd (right_size 0 (broken_length w refl))

  pub has_kind : {r k : ℕ} → kind_of t r ≡ k → k ≢ 0 → r < nodes_of t
  has_kind e f = in_table (λ z. f (sym e ∙ z))

  pub node : (r : ℕ) → r < nodes_of t → Node strings (kind_of t r) (a_of t r)
  node r h =
      fields_told strings (kind_of t r) (a_of t r) (b_of t r) (c_of t r)
      (go (fields_right strings (kind_of t r) (a_of t r) (b_of t r) (c_of t r)) refl)
    where
      go : (b : Bool) → fields_right strings (kind_of t r) (a_of t r) (b_of t r) (c_of t r) ≡ b → b ≡ true
      go true e = refl
      go false e = absurd (right r (bad_node h (bad_fields e)))

  -- a text holds a string that is not the empty one
  pub text_string : (r : ℕ) → kind_of t r ≡ text → (0 < a_of t r) × (a_of t r < strings)
  text_string r k = go (node r (has_kind k (λ z. omega arith)))
    where
      go : Node strings (kind_of t r) (a_of t r) → (0 < a_of t r) × (a_of t r < strings)
      go (is_element_lem e) = absurd (omega arith)
      go (is_attribute_lem e) = absurd (omega arith)
      go (is_text e l h) = (l, h)

  rooted_to : (n : ℕ) → n ≤ nodes_of t → Rooted t n
  rooted_to zero h = rooted_none t
  rooted_to (suc n) h =
      let few = few_nodes right_size in
      rw (← add-one n)
      (rooted_more (rooted_to n (omega arith)) (omega arith) (λ f. right n (bad_node (omega arith) (bad_parent f))))

  pub rooted : Rooted t (nodes_of t)
  rooted = rooted_to (nodes_of t) (omega arith)

  pub few : nodes_of t ≤ max_nodes
  few = few_nodes right_size

  -- the parent of a row other than the root comes before it
  pub parent_less : (r : ℕ) → 0 < r → r < nodes_of t → parent_of t r < r
  parent_less r h l = rooted.before r h l

  -- an ancestor of an element is one, where the parents of the rows before n are
  up_elements : {n q e : ℕ} → n ≤ nodes_of t → ((x : ℕ) → 0 < x → x < n → kind_of t (parent_of t x) ≡ element)
      → q ≢ no_parent → SelfOrAncestor t q e → e < n → kind_of t e ≡ element → kind_of t q ≡ element
  up_elements m below f itself h k = k
  up_elements {n} {q} {e} m below f (above g u) h k = go (dec_lt 0 e) (λ l. up_elements m below f u l)
    where
      go : Dec (0 < e) → (parent_of t e < n → kind_of t (parent_of t e) ≡ element → kind_of t q ≡ element)
          → kind_of t q ≡ element
      go (yes z) ih = ih (let l = parent_less e z (omega arith) in omega arith) (below e z h)
      go (no z) ih =
          let e₀ : e ≡ 0 = omega arith in
          absurd (f (up_none u (ap (parent_of t) e₀ ∙ rooted.root_parent (omega arith))))

  -- the nearest element of a row is an element and not after it, where the row's parent is an element
  nearest_row : (r : ℕ) → r < nodes_of t → (0 < r → kind_of t (parent_of t r) ≡ element)
      → (nearest t r ≤ r) × (kind_of t (nearest t r) ≡ element)
  nearest_row r h below = go (eqb (kind_of t r) element) refl (dec_lt 0 r)
    where
      go : (b : Bool) → eqb (kind_of t r) element ≡ b → Dec (0 < r)
          → (nearest t r ≤ r) × (kind_of t (nearest t r) ≡ element)
      go true e d = rw e (omega arith, eqb-true _ _ e)
      go false e (yes z) = rw e (let l = parent_less r z h in omega arith, below z)
      go false e (no z) =
          let r₀ : r ≡ 0 = omega arith in
          absurd (eqb-false _ _ e (ap (kind_of t) r₀ ∙ rooted.root_kind (omega arith)))

  -- the parent of a row is the nearest element of the row before, or an ancestor of that
  pub parent_up : (r : ℕ) → suc r < nodes_of t → ¬ (¬ SelfOrAncestor t (parent_of t (suc r)) (nearest t r))
  unfolding ParentRight
  parent_up r h f = right (suc r) (bad_node h (bad_parent (λ p. f p.1)))

  parents_to : (n : ℕ) → n ≤ nodes_of t → (r : ℕ) → 0 < r → r < n → kind_of t (parent_of t r) ≡ element
  parents_to zero m r h l = absurd (omega arith)
  parents_to (suc n) m zero h l = absurd (omega arith)
  parents_to (suc n) m (suc r) h l =
      let below = parents_to n (omega arith) in
      let near = nearest_row r (omega arith) (λ z. below r z (omega arith)) in
      let before = parent_less (suc r) (omega arith) (omega arith) in
      sure (ℕ_discrete (kind_of t (parent_of t (suc r))) element)
      (λ f. parent_up r (omega arith)
      (λ u. f (up_elements (omega arith) below (λ z. omega (arith, few)) u (omega arith) near.1)))

  pub parent_element : (r : ℕ) → 0 < r → r < nodes_of t → kind_of t (parent_of t r) ≡ element
  parent_element = parents_to (nodes_of t) (omega arith)

  -- a row whose parent is in the table comes after it
  after_parent : (e r : ℕ) → e < nodes_of t → r < nodes_of t → parent_of t r ≡ e → e < r
  after_parent e r h l p = go (dec_lt 0 r)
    where
      go : Dec (0 < r) → e < r
      go (yes z) = rw (← p) (parent_less r z l)
      go (no z) =
          let r₀ : r ≡ 0 = omega arith in
          let q : parent_of t r ≡ no_parent = ap (parent_of t) r₀ ∙ rooted.root_parent (omega arith) in
          absurd (omega (arith, few))

  -- the children and attributes of a row are later rows of the table
  pub child_later : (e r : ℕ) → e < nodes_of t → is_child t e r ≡ true → (e < r) × (r < nodes_of t)
  child_later e r h c =
      let l = in_table (child_kind t e r c) in
      (after_parent e r h l (child_parent t e r c), l)

  pub attribute_later : (e r : ℕ) → e < nodes_of t → is_attribute t e r ≡ true → (e < r) × (r < nodes_of t)
  attribute_later e r h c =
      let l = has_kind (attribute_kind t e r c) (λ z. omega arith) in
      (after_parent e r h l (attribute_parent t e r c), l)

  -- between an element and another that is above it stands a child of the one above
  child_above : {e n : ℕ} → e < nodes_of t → SelfOrAncestor t e n → e ≢ n → n < nodes_of t
      → kind_of t n ≡ element → (c : ℕ) × (c ≤ n) × (is_child t e c ≡ true)
  child_above h itself f l k = absurd (f refl)
  child_above {e} {n} h (above g u) f l k = go (dec_lt 0 n) (ℕ_discrete e (parent_of t n)) (λ d m. child_above h u d m)
    where
      go : Dec (0 < n) → Dec (e ≡ parent_of t n) → (e ≢ parent_of t n → parent_of t n < nodes_of t
          → kind_of t (parent_of t n) ≡ element → (c : ℕ) × (c ≤ parent_of t n) × (is_child t e c ≡ true))
          → (c : ℕ) × (c ≤ n) × (is_child t e c ≡ true)
      go z (yes p) ih = (n, omega arith, element_child t e n k (sym p))
      go (yes z) (no d) ih =
          let low = parent_less n z l in
          let c = ih d (omega arith) (parent_element n z l) in
          (c.0, omega arith, c.2)
      go (no z) (no d) ih =
          let n₀ : n ≡ 0 = omega arith in
          absurd (omega (arith, few, up_none u (ap (parent_of t) n₀ ∙ rooted.root_parent (omega arith))))

  -- no child of an element comes before one of its attributes
  no_child_before : (e r c : ℕ) → is_attribute t e r ≡ true → c < r → r < nodes_of t → is_child t e c ≡ true → ⊥
  no_child_before e r c a h l i =
      right r (bad_node l (late_attribute c h (attribute_kind t e r a) (rw (attribute_parent t e r a) i)))

  -- the row before an attribute is its element or an attribute of the same element
  attribute_step : (e m : ℕ) → e < m → is_attribute t e (suc m) ≡ true → ¬ (¬ (is_attribute t e m ≡ true))
  attribute_step e m h a f = parent_up m l (λ u. beside (rw (attribute_parent t e (suc m) a) at u))
    where
      l : suc m < nodes_of t
      l = has_kind (attribute_kind t e (suc m) a) (λ z. omega arith)

      near : (nearest t m ≤ m) × (kind_of t (nearest t m) ≡ element)
      near = nearest_row m (omega (arith, l)) (λ z. parent_element m z (omega (arith, l)))

      beside : SelfOrAncestor t e (nearest t m) → ⊥
      beside u = go (ℕ_discrete e (nearest t m)) (eqb (kind_of t m) element) refl
        where
          go : Dec (e ≡ nearest t m) → (b : Bool) → eqb (kind_of t m) element ≡ b → ⊥
          go (no d) b q =
              let c = child_above (omega (arith, l)) u d (omega (arith, l, near.0)) near.1 in
              no_child_before e (suc m) c.0 a (omega (arith, near.0)) l c.2
          go (yes d) true q = let same : e ≡ m = rw q at d in omega arith
          go (yes d) false q = own (node m (omega (arith, l)))
            where
              p : parent_of t m ≡ e
              p = sym (rw q at d)

              own : Node strings (kind_of t m) (a_of t m) → ⊥
              own (is_element_lem k) = eqb-false _ _ q k
              own (is_attribute_lem k) = f (attribute_told t e m p k)
              own (is_text k v w) = no_child_before e (suc m) m a (omega arith) l (text_child t e m k p)

  attributes_from : (k x e : ℕ) → e < x → is_attribute t e (x + k) ≡ true → is_attribute t e x ≡ true
  attributes_from zero x e h a = let same : x + 0 ≡ x = omega arith in rw same at a
  attributes_from (suc k) x e h a =
      let next : x + suc k ≡ suc (x + k) = omega arith in
      attributes_from k x e h (sure_true _ (attribute_step e (x + k) (omega arith) (rw next at a)))

  -- the attributes of an element stand right after it
  pub attributes_first : (e x r : ℕ) → e < x → x ≤ r → is_attribute t e r ≡ true → is_attribute t e x ≡ true
  attributes_first e x r h l a =
      let same : r ≡ x + (r - x) = omega arith in
      attributes_from (r - x) x e h (rw same at a)

  -- and have different names
  pub attributes_differ : (e q r : ℕ) → is_attribute t e q ≡ true → is_attribute t e r ≡ true → SameName t q r → q ≡ r
  attributes_differ e q r a b same = go (dec_lt q r) (dec_lt r q)
    where
      clash : (x y : ℕ) → is_attribute t e x ≡ true → is_attribute t e y ≡ true → SameName t x y → x < y → ⊥
      clash x y i j n h =
          right y (bad_node (has_kind (attribute_kind t e y j) (λ z. omega arith))
          (same_attribute x h (attribute_kind t e y j) (rw (attribute_parent t e y j) i) n))

      go : Dec (q < r) → Dec (r < q) → q ≡ r
      go (yes h) d = absurd (clash q r a b same h)
      go (no h) (yes l) = absurd (clash r q b a (sym same.0, sym same.1) l)
      go (no h) (no l) = omega arith
