-- The attributes of an element as the positions of a word: they stand right after it, and there are as many as were
-- counted.
use Prim.Native.Nat.{ℕ, zero, suc, ◌+◌, ◌-◌, ◌≤◌, ◌<◌}
use mathlib.Core.Path.{◌≡◌, refl, sym, ◌∙◌, ap, fun_ext}
use mathlib.Core.Bool.{Bool, true, false, ◌&&◌, true≢false}
use mathlib.Core.List.{List}
use mathlib.Core.Logic.{⊎_elim}
use native.Mathlib.Omega.{arith}
use native.Mathlib.Decide.{dec_lt}
use lib.Dec.{ltb}
use borrow.Author.Tests.{lt-ltb, le-ltb, ltb-true}
use Rattle.tables.proofs.Numbers.{not_less}
use Rattle.instance.specs.Nodes.{element, attribute, nodes_of, kind_of, a_of, b_of, c_of, is_attribute, SameName}
use Rattle.instance.specs.NodeRule.{fields_right, bad_node, bad_fields, NodesRight}
use Rattle.instance.specs.Width.{max_width, how_many, WidthFault, many_attributes}
use Rattle.instance.proofs.Order.{attribute_kind}
use Rattle.instance.proofs.Elements.{attribute_later, attributes_first, attributes_differ}
use Rattle.sets.specs.Collecting.{Collects}
use Rattle.tables.proofs.Booleans.{is_false, and_right}
use Rattle.matching_marks.specs.Marks.{attribute_row, attributes_in}
use Rattle.matching_contents.specs.Contents.{Counted}

-- rows that pass a test, one after the other, are as many as they are
many_from : (test : ℕ → Bool) (a n : ℕ) → ((x : ℕ) → x < n → test (a + x) ≡ true) → n ≤ how_many test (a + n)
unfolding how_many
many_from test a zero f = omega arith
many_from test a (suc n) f =
    let e : a + suc n ≡ suc (a + n) = omega arith in
    let i = many_from test a n (λ x h. f x (omega arith)) in
    rw (e, f n (omega arith)) (omega arith)

count_grows : (test : ℕ → Bool) (m d : ℕ) → how_many test m ≤ how_many test (m + d)
unfolding how_many
count_grows test m zero = let e : m + 0 ≡ m = omega arith in rw e (omega arith)
count_grows test m (suc d) =
    let e : m + suc d ≡ suc (m + d) = omega arith in
    let i = count_grows test m d in
    rw e (omega arith)

value_told : (strings k a b c : ℕ) → k ≡ attribute → fields_right strings k a b c ≡ true → c < strings
unfolding fields_right
value_told strings k a b c e f =
    ltb-true c strings (and_right (ltb a strings && (ltb 0 b && ltb b strings)) (ltb c strings) (rw e at f))

module _ {strings : ℕ} {t : List ℕ} (right : NodesRight strings t) (e : ℕ) (h : e < nodes_of t) where
  -- the value of an attribute is a string of the table
  pub value_string : (r : ℕ) → is_attribute t e r ≡ true → c_of t r < strings
  value_string r a =
      value_told strings (kind_of t r) (a_of t r) (b_of t r) (c_of t r) (attribute_kind t e r a)
      (go (fields_right strings (kind_of t r) (a_of t r) (b_of t r) (c_of t r)) refl)
    where
      go : (b : Bool) → fields_right strings (kind_of t r) (a_of t r) (b_of t r) (c_of t r) ≡ b → b ≡ true
      go true q = refl
      go false q = absurd (right r (bad_node (attribute_later right e r h a).1 (bad_fields q)))

  module _ {n : ℕ} (c : Counted t e n) where
    in_rows : suc e + n ≤ nodes_of t
    in_rows = go n c.attributes
      where
        go : (m : ℕ) → ((x : ℕ) → x < m → is_attribute t e (attribute_row e x) ≡ true) → suc e + m ≤ nodes_of t
        go zero f = omega arith
        go (suc m) f = let l = (attribute_later right e (attribute_row e m) h (f m (omega arith))).1 in omega arith

    pub few_counted : kind_of t e ≡ element → ¬ WidthFault t e → n ≤ max_width
    few_counted k narrow =
        let many = many_from (is_attribute t e) (suc e) n c.attributes in
        let more = count_grows (is_attribute t e) (suc e + n) (nodes_of t - (suc e + n)) in
        let l = in_rows in
        let z : suc e + n + (nodes_of t - (suc e + n)) ≡ nodes_of t = omega arith in
        let all = rw z at more in
        not_less (λ w. narrow (many_attributes h k (omega arith)))

    -- the word of all of them
    pub attributes_same : {a : ℕ} → n ≤ max_width → Collects (λ k. true) n a → attributes_in e a ≡ is_attribute t e
    attributes_same {a} few w = fun_ext (λ r. go r (dec_lt e r))
      where
        ended : is_attribute t e (attribute_row e n) ≡ false
        ended = ⊎_elim (λ f. f) (λ q. absurd (omega (arith, q))) c.last

        at : (x : ℕ) → Dec (x < n) → (ltb x n && true) ≡ is_attribute t e (attribute_row e x)
        at x (yes l) = rw (lt-ltb x n l) (sym (c.attributes x l))
        at x (no f) =
            let l = not_less f in
            rw (le-ltb x n l)
            (sym (is_false (is_attribute t e (attribute_row e x)) (λ i. true≢false (sym (attributes_first right e
            (attribute_row e n) (attribute_row e x) (omega arith) (omega arith) i) ∙ ended))))

        go : (r : ℕ) → Dec (e < r) → attributes_in e a r ≡ is_attribute t e r
        go r (yes l) =
            let z : attribute_row e (r - suc e) ≡ r = omega arith in
            rw (lt-ltb e r l) (w.members (r - suc e) ∙ at (r - suc e) (dec_lt (r - suc e) n) ∙ ap (is_attribute t e) z)
        go r (no f) =
            rw (le-ltb e r (not_less f))
            (sym (is_false (is_attribute t e r) (λ i. f (attribute_later right e r h i).0)))

    pub attributes_distinct : (a : ℕ) → attributes_in e a ≡ is_attribute t e → (x y : ℕ)
        → attributes_in e a x ≡ true → attributes_in e a y ≡ true → SameName t x y → x ≡ y
    attributes_distinct a s x y i j =
        attributes_differ right e x y (sym (ap (λ (A : ℕ → Bool). A x) s) ∙ i) (sym (ap (λ (A : ℕ → Bool). A y) s) ∙ j)
