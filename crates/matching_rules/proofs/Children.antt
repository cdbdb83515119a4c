-- The children of an element in the tables of a job: they are okAsChildren (4.2.2), and the elements among them are
-- later rows.
use mathlib.Core.Path.{◌≡◌, refl, sym, ◌∙◌}
use mathlib.Core.Bool.{Bool, true, false, cond}
use mathlib.Core.List.Memᴰ
use mathlib.Core.List.{List, [], ◌∷◌, map, Memᴰ}
use Prim.Native.Nat.{ℕ, ◌<◌}
use native.Mathlib.Omega.{arith}
use native.Mathlib.Decide.{ℕ_discrete}
use Rattle.tables.specs.Tables.{StringTable, Tables}
use Rattle.strings.specs.Strings.{text_of, end_of, instance_strings, StringsRight}
use Rattle.strings.specs.Strings.{bad_end, repeated, at_front, first_not_empty}
use Rattle.strings.proofs.Table.{ends_of}
use Rattle.instance.specs.Nodes.{text, a_of, nodes_of, kind_of, is_child}
use Rattle.instance.specs.NodeRule.{NodesRight}
use Rattle.instance.specs.Elements.{is_element, children_of}
use Rattle.instance.proofs.Elements.{text_string, child_later}
use Rattle.instance.proofs.RowLists.{listed_row, Alternate, without_row, element_row}
use Rattle.instance.proofs.RowLists.{last_text, text_row, children_alternate}
use Rattle.matching_rules.specs.Items.{element, string}
use Rattle.matching_rules.specs.Rules.{OkAsChildren, ok_empty, ok_element, ok_last, ok_string}
use Rattle.matching_rules.specs.Job.{item_of, lookups}

-- a string other than string 0 is not empty: string 0 is, and no two are equal
module _ {T : StringTable} (right : StringsRight T) where
  pub first_empty : text_of T 0 ≡ []
  first_empty = go (ℕ_discrete (end_of T.ends 0) 0)
    where
      go : Dec (end_of T.ends 0 ≡ 0) → text_of T 0 ≡ []
      go (yes e) = rw e
      go (no f) = absurd (right 0 (bad_end (at_front (first_not_empty f refl))))

  pub text_not_empty : (k : ℕ) → 0 < k → k < instance_strings T → (c : ℕ) × (s : List ℕ) × (text_of T k ≡ c ∷ s)
  text_not_empty k h l = go (text_of T k) refl
    where
      go : (m : List ℕ) → text_of T k ≡ m → (c : ℕ) × (s : List ℕ) × (text_of T k ≡ c ∷ s)
      go [] e = absurd (right k (repeated (ends_of right) (l, (0, h, first_empty ∙ sym e))))
      go (c ∷ s) e = (c, s, e)

module _ (J : Tables) (strings : StringsRight J.strings)
    (nodes : NodesRight (instance_strings J.strings) J.instance) where
  abbrev t : List ℕ
  t = J.instance

  text_of_lem : (r : ℕ) → kind_of t r ≡ text → (c : ℕ) × (m : List ℕ) × (text_of J.strings (a_of t r) ≡ c ∷ m)
  text_of_lem r k = let i = text_string nodes r k in text_not_empty strings (a_of t r) i.0 i.1

  ok : {l : List ℕ} → Alternate t l → OkAsChildren (map (item_of J) l)
  ok without_row = ok_empty
  ok (element_row i a) = rw i (ok_element (ok a))
  ok (last_text {r = r} k) = rw (k, (text_of_lem r k).2) ok_last
  ok (text_row {r = r} k i a) = rw (k, (text_of_lem r k).2, i) (ok_string (ok a))

  pub children_ok : (e : ℕ) → OkAsChildren ((lookups J).children e)
  children_ok e = ok (children_alternate nodes e)

  -- an item that is an element is that of an element row
  item_element : (r x : ℕ) → item_of J r ≡ element x → (r ≡ x) × (is_element t r ≡ true)
  item_element r x = go (is_element t r) refl
    where
      go : (b : Bool) → is_element t r ≡ b → cond b (element r) (string (text_of J.strings (a_of t r))) ≡ element x
          → (r ≡ x) × (is_element t r ≡ true)
      go true e f = (cc, e)
      go false e f = let z : ◌≡◌ {A = ℕ} 0 1 = cc in absurd (omega arith)

  pub child_element : (e x : ℕ) → e < nodes_of t → Memᴰ (element x) ((lookups J).children e)
      → (e < x) × (x < nodes_of t) × (is_element t x ≡ true)
  child_element e x h m =
      let i = Memᴰ.of_map (item_of J) (children_of t e) m in
      let j = item_element i.0 x i.2 in
      let l = child_later nodes e i.0 h (listed_row (is_child t e) i.1).1 in
      rw (← j.0) (l.0, l.1, j.1)
