-- Laws of the room: the rows that can be lists, one more row among the longest, and what is enough for every instance.
use Prim.Native.Nat.{ℕ, zero, suc, ◌+◌, ◌-◌, ◌*◌, ◌≤◌, ◌<◌, max}
use mathlib.Core.Path.{◌≡◌, sym, ◌∙◌, ap}
use mathlib.Core.Logic.{◌≢◌}
use mathlib.Core.Bool.{Bool, true, false, cond}
use mathlib.Core.List.{List}
use native.Mathlib.Nat.{lt_of_not-le}
use native.Mathlib.Numerals.{add-one}
use native.Mathlib.Omega.{arith}
use lib.Dec.{eqb}
use lib.ListN.{length, take, drop, length-append, length-drop, take-append-drop, get_or-eq_default}
use Rattle.std.specs.Ordering.{ord_max, nat_cmp}
use Rattle.std.proofs.lemmas.Grind.{common_steps}
use Rattle.tables.specs.Tables.{StringTable, Tables}
use Rattle.strings.specs.Strings.{text_of, start_of, end_of, max_bytes}
use Rattle.schema.specs.Kinds as kind
use Rattle.schema.specs.Rows as row
use Rattle.instance.specs.Nodes.{attribute, text, nodes_of, kind_of, a_of, c_of}
use Rattle.matching_work.specs.Work.{value_length, longest_before, WorkTooShort}

-- past the last word of the table no row has a kind
pub list_row : (s : List ℕ) (n : ℕ) → length s ≤ n * 3 → (p : ℕ) → row.kind_of s p ≡ kind.list → p < n
list_row s n end p e = lt_of_not-le (λ h. beyond (sym (get_or-eq_default s 0 (omega arith)) ∙ e))
  where
    beyond : 0 ≢ kind.list
    beyond z = omega arith

-- the larger of two numbers, as the order of numbers tells it
pub larger : (m n : ℕ) → ord_max nat_cmp m n ≡ max m n
larger m n = grind (arith, common_steps)

pub longest_more : (J : Tables) (n : ℕ) {m v : ℕ} → m ≡ longest_before J n
    → v ≡ value_length J n → max m v ≡ longest_before J (n + 1)
unfolding longest_before
longest_more J n e f = rw (e, f, add-one)

-- no text is longer than the bytes of the table
taken_within : (n : ℕ) (l : List ℕ) → length (take n l) ≤ length l
taken_within n l = omega (arith, length-append (take n l) (drop n l), ap length (take-append-drop n l))

text_within : (T : StringTable) (k : ℕ) → length (text_of T k) ≤ length T.bytes
text_within T k =
    let from = start_of T.ends k in
    omega (arith, taken_within (end_of T.ends k - from) (drop from T.bytes), length-drop from T.bytes)

value_within : (J : Tables) (r : ℕ) → value_length J r ≤ length J.strings.bytes
value_within J r = go (eqb (kind_of J.instance r) attribute) (eqb (kind_of J.instance r) text)
  where
    go : (a b : Bool) → cond a (length (text_of J.strings (c_of J.instance r)))
        (cond b (length (text_of J.strings (a_of J.instance r))) 0) ≤ length J.strings.bytes
    go true b = text_within J.strings (c_of J.instance r)
    go false true = text_within J.strings (a_of J.instance r)
    go false false = omega arith

longest_within : (J : Tables) (n : ℕ) → longest_before J n ≤ length J.strings.bytes
unfolding longest_before
longest_within J zero = omega arith
longest_within J (suc n) = omega (arith, longest_within J n, value_within J n)

-- three times the most bytes that a table may have, plus three, are enough for every instance
pub always_enough : (J : Tables) → length J.strings.bytes ≤ max_bytes → ¬ WorkTooShort J (3 * max_bytes + 3)
always_enough J few short = omega (arith, longest_within J (nodes_of J.instance), short.1)
