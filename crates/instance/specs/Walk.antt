-- What is known of the rows before r while the rows are checked in order; cited by private functions only.
use Rattle.std.specs.Prelude.{ℕ, ◌<◌, ◌≤◌, ◌≡◌, Bool, true, false, List, length, get_or}
use Rattle.tables.specs.Answers.{Decides}
use Rattle.instance.specs.Nodes.{element, no_parent, nodes_of, kind_of, parent_of}
use Rattle.instance.specs.Nodes.{a_of, b_of, c_of, is_child, is_attribute, SameName}
use Rattle.instance.specs.NodeRule.{max_nodes, fields_right, ParentRight, WrongNode}

-- row 0 is the root, and the parent of every other row comes before it
pub record Rooted (t : List ℕ) (r : ℕ) : Type 0 where
  pub few : r ≤ max_nodes
  pub root_kind : 0 < r → kind_of t 0 ≡ element
  pub root_parent : 0 < r → parent_of t 0 ≡ no_parent
  pub before : (q : ℕ) → 0 < q → q < r → parent_of t q < q

-- k is the kind of the last child of e before row r, and 0 where e has none
pub data LastChild (t : List ℕ) (e r k : ℕ) : Type 0 where
  no_child : k ≡ 0 → ((q : ℕ) → q < r → is_child t e q ≡ false) → LastChild t e r k
  child_at : (q : ℕ) → q < r → is_child t e q ≡ true → kind_of t q ≡ k
      → ((x : ℕ) → q < x → x < r → is_child t e x ≡ false)
      → LastChild t e r k

pub record LastChildren (t last : List ℕ) (r : ℕ) : Type 0 where
  pub size : length last ≡ max_nodes
  pub kinds : (e : ℕ) → e < max_nodes → LastChild t e r (get_or last e 0)

-- row q is an attribute of p with the name of row r
abbrev pub Twin : List ℕ → ℕ → ℕ → ℕ → Type 0
Twin t p q r = (is_attribute t p q ≡ true) × SameName t q r

pub data RepeatsName (t : List ℕ) (p r : ℕ) : Type 0 where
  repeats : (q : ℕ) → p < q → q < r → Twin t p q r → RepeatsName t p r

-- row r has the right parent, and the rows before it are known
pub record Placed (t last : List ℕ) (r : ℕ) : Type 0 where
  pub few : r < max_nodes
  pub rooted : Rooted t r
  pub last_children : LastChildren t last r
  pub parent : ParentRight t r

abbrev pub BadNode : ℕ → List ℕ → ℕ → Type 0
BadNode strings t r = (r < nodes_of t) × WrongNode strings t r

-- the answer for row r, whose fields are right
abbrev pub TellsWrong : List ℕ → ℕ → Bool → Type 0
TellsWrong t r wrong =
    (strings : ℕ) → fields_right strings (kind_of t r) (a_of t r) (b_of t r) (c_of t r) ≡ true
    → Decides (WrongNode strings t r) wrong
