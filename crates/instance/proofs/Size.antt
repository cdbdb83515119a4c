-- Laws of the size of an instance.
use mathlib.Core.Path.{◌≡◌, refl}
use mathlib.Core.Logic.{◌≢◌}
use mathlib.Core.List.{List}
use Prim.Native.Nat.{ℕ, zero, suc, ◌%◌, ◌≤◌, ◌<◌}
use native.Mathlib.Omega.{arith}
use lib.ListN.{length}
use Rattle.tables.specs.Answers.{Clear}
use Rattle.tables.proofs.Numbers.{not_less}
use Rattle.instance.specs.Nodes.{nodes_of}
use Rattle.instance.specs.NodeRule.{max_nodes, NodeSizeFault, no_node, too_many_nodes}
use Rattle.instance.specs.NodeRule.{broken_length, NodeFault, NodesRight, bad_size, bad_node}
use Rattle.instance.specs.Walk.{BadNode}

pub size_right : {t : List ℕ} → nodes_of t ≢ 0 → nodes_of t ≤ max_nodes → length t % 5 ≡ 0 → (r : ℕ)
    → ¬ NodeSizeFault t r
size_right some few whole r (no_node e z) = some e
size_right some few whole r (too_many_nodes h z) = omega arith
size_right some few whole r (broken_length w z) = w whole

-- a wrong size is placed at row 0 and comes first
pub first_bad_size : {strings : ℕ} {t : List ℕ} {place : ℕ} → NodeSizeFault t place
    → Clear (NodeSizeFault t) place → NodeFault strings t place × Clear (NodeFault strings t) place
first_bad_size {strings} {t} {place} f clear = (bad_size f, λ k h. absurd (before k h))
  where
    zero_place : {k : ℕ} → NodeSizeFault t k → k ≡ 0
    zero_place (no_node e z) = z
    zero_place (too_many_nodes e z) = z
    zero_place (broken_length e z) = z

    before : (k : ℕ) → k < place → ⊥
    before k h = omega (arith, zero_place f)

module _ {t : List ℕ} (right : (r : ℕ) → ¬ NodeSizeFault t r) where
  pub few_nodes : nodes_of t ≤ max_nodes
  few_nodes = not_less (λ h. right 0 (too_many_nodes h refl))

  -- with the right size only rows can be wrong
  pub only_nodes : {strings : ℕ} (r : ℕ) → NodeFault strings t r → BadNode strings t r
  only_nodes r (bad_size f) = absurd (right r f)
  only_nodes r (bad_node h f) = (h, f)

pub some_node : {strings : ℕ} {t : List ℕ} → NodesRight strings t → 0 < nodes_of t
some_node {strings} {t} right = at (nodes_of t) refl
  where
    at : (n : ℕ) → nodes_of t ≡ n → 0 < n
    at zero e = absurd (right 0 (bad_size (no_node e refl)))
    at (suc n) e = omega arith
