-- All elements of an instance, from the last row to the first: the children of an element stand at later rows, so what
-- is asked of them holds before it is asked of their parent.
use Prim.Native.Nat.{ℕ, zero, suc, ◌+◌, ◌≤◌, ◌<◌}
use mathlib.Core.Path.{◌≡◌}
use mathlib.Core.Bool.{true}
use mathlib.Core.List.{List, Memᴰ}
use mathlib.Core.Logic.{⊎_elim}
use native.Mathlib.Nat.{eq-or-lt_of_le}
use native.Mathlib.Omega.{arith}
use Rattle.tables.specs.Tables.{Tables}
use Rattle.strings.specs.Strings.{instance_strings, StringsRight}
use Rattle.instance.specs.Nodes.{nodes_of}
use Rattle.instance.specs.NodeRule.{NodesRight}
use Rattle.instance.specs.Elements.{is_element}
use Rattle.matching_rules.specs.Items.{element}
use Rattle.matching_rules.specs.Job.{lookups}
use Rattle.matching_rules.proofs.Children.{child_element}

module _ (t : List ℕ) (P : ℕ → Type 0) where
  -- P holds of the elements from row r on
  abbrev pub From : ℕ → Type 0
  From r = (e : ℕ) → r ≤ e → e < nodes_of t → is_element t e ≡ true → P e

  pub from_end : From (nodes_of t)
  from_end e h l i = absurd (omega arith)

  pub from_row : (r : ℕ) → From (suc r) → (is_element t r ≡ true → P r) → From r
  from_row r f g e h l i = ⊎_elim (λ z. rw (← z) (g (rw z i))) (λ z. f e z l i) (eq-or-lt_of_le h)

module _ (J : Tables) (strings : StringsRight J.strings)
    (nodes : NodesRight (instance_strings J.strings) J.instance) (P : ℕ → Type 0) where
  abbrev t : List ℕ
  t = J.instance

  -- what holds of the later elements holds of the element children of e
  pub of_children : (e : ℕ) → e < nodes_of t → From t P (suc e)
      → (x : ℕ) → Memᴰ (element x) ((lookups J).children e) → P x
  of_children e h f x m = let c = child_element J strings nodes e x h m in f x c.0 c.1 c.2

  -- so a property that an element has where its element children have it holds of all elements
  module _ (one : (e : ℕ) → e < nodes_of t → is_element t e ≡ true
      → ((x : ℕ) → Memᴰ (element x) ((lookups J).children e) → P x) → P e) where
    up_to : (n r : ℕ) → r + n ≡ nodes_of t → From t P r
    up_to zero r e = let z : r ≡ nodes_of t = omega arith in rw z (from_end t P)
    up_to (suc n) r e =
        let f = up_to n (suc r) (omega arith) in
        from_row t P r f (λ i. one r (omega arith) i (of_children r (omega arith) f))

    pub all_elements : (e : ℕ) → e < nodes_of t → is_element t e ≡ true → P e
    all_elements e = up_to (nodes_of t) 0 (omega arith) e (omega arith)
