-- The rule of instance rows, width apart, from FORMAT, "Instance rows", and code 9 of FORMAT, "Codes and places".
use Rattle.std.specs.Prelude.{ℕ, zero, suc, ◌<◌, ◌%◌, ◌≡◌, ◌≢◌, Bool, true, false, cond, ◌&&◌, List, length, ltb}
use Rattle.std.specs.Prelude.{eqb}
use Rattle.instance.specs.Nodes.{element, attribute, text, no_parent, nodes_of, kind_of}
use Rattle.instance.specs.Nodes.{parent_of, a_of, b_of, c_of, is_child, is_attribute, SameName}

abbrev pub max_nodes : ℕ
max_nodes = 1024

-- the kind and the fields of a row, beside so many strings: element: namespace, local, 0; attribute: namespace, local,
-- string; text: string that is not the empty one, 0, 0
unfoldable pub fields_right : ℕ → ℕ → ℕ → ℕ → ℕ → Bool
fields_right strings k a b c =
    cond (eqb k element) (ltb a strings && (ltb 0 b && ltb b strings) && eqb c 0)
    (cond (eqb k attribute) (ltb a strings && (ltb 0 b && ltb b strings) && ltb c strings)
    (cond (eqb k text) ((ltb 0 a && ltb a strings) && eqb b 0 && eqb c 0) false))

-- the nearest element of a row: itself, if it is one, and otherwise its parent
abbrev pub nearest : List ℕ → ℕ → ℕ
nearest t r = cond (eqb (kind_of t r) element) r (parent_of t r)

-- q is e or an ancestor of e
pub data SelfOrAncestor (t : List ℕ) (q : ℕ) : ℕ → Type 0 where
  itself : SelfOrAncestor t q q
  above : {e : ℕ} → e ≢ no_parent → SelfOrAncestor t q (parent_of t e) → SelfOrAncestor t q e

-- row 0 has no parent; the parent of another row is the nearest element of the row before or an ancestor of that
unfoldable pub ParentRight : List ℕ → ℕ → Type 0
ParentRight t zero = (kind_of t 0 ≡ element) × (parent_of t 0 ≡ no_parent)
ParentRight t (suc r) = (parent_of t (suc r) ≢ no_parent) × SelfOrAncestor t (parent_of t (suc r)) (nearest t r)

-- the number of words and rows
pub data NodeSizeFault (t : List ℕ) (r : ℕ) : Type 0 where
  no_node : nodes_of t ≡ 0 → r ≡ 0 → NodeSizeFault t r
  too_many_nodes : max_nodes < nodes_of t → r ≡ 0 → NodeSizeFault t r
  broken_length : length t % 5 ≢ 0 → r ≡ 0 → NodeSizeFault t r

-- what is wrong at row r of the table; of two rows at odds the later is at fault
pub data WrongNode (strings : ℕ) (t : List ℕ) (r : ℕ) : Type 0 where
  bad_fields : fields_right strings (kind_of t r) (a_of t r) (b_of t r) (c_of t r) ≡ false → WrongNode strings t r
  bad_parent : ¬ ParentRight t r → WrongNode strings t r
  late_attribute : (q : ℕ) → q < r → kind_of t r ≡ attribute → is_child t (parent_of t r) q ≡ true
      → WrongNode strings t r
  same_attribute : (q : ℕ) → q < r → kind_of t r ≡ attribute → is_attribute t (parent_of t r) q ≡ true → SameName t q r
      → WrongNode strings t r
  text_after_text : (q : ℕ) → q < r → kind_of t r ≡ text → kind_of t q ≡ text → parent_of t q ≡ parent_of t r
      → ((x : ℕ) → q < x → x < r → is_child t (parent_of t r) x ≡ false) → WrongNode strings t r

-- code 9 at row r
pub data NodeFault (strings : ℕ) (t : List ℕ) (r : ℕ) : Type 0 where
  bad_size : NodeSizeFault t r → NodeFault strings t r
  bad_node : r < nodes_of t → WrongNode strings t r → NodeFault strings t r

-- the instance rows keep their rule
abbrev pub NodesRight : ℕ → List ℕ → Type 0
NodesRight strings t = (r : ℕ) → ¬ NodeFault strings t r
