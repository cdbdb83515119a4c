-- From the table of pairs, the definitions and the list of what the table marks to the match list and the answer.
use Prim.Native.Nat.{ℕ, ◌≤◌, ◌<◌}
use mathlib.Core.Path.{◌≡◌, sym, ◌∙◌, subst, subst⁻¹}
use mathlib.Core.Bool.{Bool, true}
use mathlib.Core.Logic.{◌↔◌}
use mathlib.Core.List.{List, Memᴰ}
use native.Mathlib.Omega.{arith}
use lib.ListN.{length, get_or, take, replicate, length-replicate}
use lib.Seq.{get_or-take, length-take-le}
use borrow.Author.Tests.{eq-eqb, eqb-true}
use Rattle.tables.specs.Tables.{Tables}
use Rattle.tables.specs.Answers.{Decides}
use Rattle.tables.proofs.Answers.{decides_same}
use Rattle.schema.specs.Rows.{rows_of}
use Rattle.schema.proofs.Sorts.{definition_kind}
use Rattle.instance.specs.Nodes.{nodes_of}
use Rattle.instance.specs.NodeRule.{max_nodes, bad_size}
use Rattle.instance.proofs.Size.{few_nodes, some_node}
use Rattle.schema.specs.Definitions.{Definitions}
use Rattle.matching_rules.specs.Rules.{NotMatchBy, Proved}
use Rattle.matching_rules.specs.Job.{lookups, Pair, Valid, StartNames}
use Rattle.matching_rules.specs.Spans.{Paired}
use Rattle.matching_rules.proofs.Inversion.{against}
use Rattle.matching_rules.proofs.RowPatterns.{has_kind}
use Rattle.matching_rules.proofs.Validity.{valid}
use Rattle.matching_pairs.specs.Pairs.{TablesPass, Pairable, PairsRight}
use Rattle.matching_list.specs.Listing.{is_marked, marked_pairs, ListsPairs}
use Rattle.std.specs.Prelude.{Result, Ok, Err}
use Rattle.matching_list.specs.declared.TooShort.{TooShort}
use Rattle.matching_list.proofs.Order.{marked_rising, marked_lists}
use Rattle.matching_list.proofs.Putting as put
use Rattle.matching_list.proofs.Root.{root_element}
use Rattle.matching_list.specs.MatchList.{MatchList, ListAnswer}

-- a table of so many entries has one for every instance row and every schema row
pub whole_table : {J : Tables} → TablesPass J → Pairable J (replicate {A = ℕ} 524288 0)
whole_table pass =
    record { pass = pass; room = subst⁻¹ (λ n. 524288 ≤ n) (length-replicate {A = ℕ} 524288 0) (omega arith) }

module _ {J : Tables} (pass : TablesPass J) where
  abbrev s : List ℕ
  s = J.schema

  abbrev t : List ℕ
  t = J.instance

  pub nodes_few : nodes_of t ≤ max_nodes
  nodes_few = few_nodes (λ k i. pass.nodes k (bad_size i))

  -- an element is a pair with a definition exactly by the premises of (element)
  proved : (e d : ℕ) → Proved (lookups J) e d ↔ Paired (lookups J) (NotMatchBy (lookups J) (rows_of s)) e d
  proved e d = against (lookups J) (NotMatchBy (lookups J) (rows_of s)) e d

  -- valid by 9.4, and by the pairs of the root
  root_paired : {l : List (ℕ × ℕ)} → MatchList J l → Valid J ↔ ((d : ℕ) × StartNames J d × Memᴰ (0, d) l)
  root_paired m =
      let v = valid J pass.schema in (
        λ x. let y = v.0 x in
            (y.0, y.1, m.lists.complete 0 y.0 (some_node pass.nodes, root_element pass.nodes, y.2)),
        λ y. v.1 (y.0, y.1, (m.lists.sound 0 y.0 y.2).2),
      )

  module _ {table rows : List ℕ} {n : ℕ} (right : PairsRight J table)
      (definitions : Definitions s rows n) (room : n ≤ length rows) where
    size : length (take n rows) ≡ n
    size = length-take-le n rows room

    at : (k : ℕ) → k < n → get_or (take n rows) k 0 ≡ get_or rows k 0
    at k h = get_or-take n rows k 0 h

    is_match_list : MatchList J (marked_pairs table (take n rows) (nodes_of t))
    is_match_list = record {
      rising = marked_rising table (take n rows) rising (nodes_of t);
      lists = marked_lists table (take n rows) rising (Pair J) (nodes_of t) sound complete;
    }
      where
        rising : (j k : ℕ) → j < k → k < length (take n rows) → get_or (take n rows) j 0 < get_or (take n rows) k 0
        rising j k i h =
            let l : k < n = subst (λ (m : ℕ). k < m) size h in
            let x = at j (omega arith) in
            let y = at k l in
            let z = definitions.rising j k i l in
            omega arith

        sound : (e k : ℕ) → e < nodes_of t → k < length (take n rows)
            → is_marked table e (get_or (take n rows) k 0) ≡ true → Pair J e (get_or (take n rows) k 0)
        sound e k h l m =
            let i : k < n = subst (λ (m : ℕ). k < m) size l in
            let x = at k i in
            let y = definitions.rows k i in
            let p = (right.entries e (get_or (take n rows) k 0) (omega arith) h (omega arith)).0 (eqb-true _ _ m) in
            (h, p.0, (proved e (get_or (take n rows) k 0)).1 p.1)

        complete : (e d : ℕ) → Pair J e d → (e < nodes_of t) × (k : ℕ) × (k < length (take n rows))
            × (get_or (take n rows) k 0 ≡ d) × (is_marked table e d ≡ true)
        complete e d p =
            let q = (proved e d).0 p.2 in
            let l = has_kind pass.schema.rows (definition_kind s d q.defined) (λ z. omega arith) in
            let k = definitions.every d l q.defined in (
              p.0,
              k.0,
              subst (λ (m : ℕ). k.0 < m) (sym size) k.1,
              at k.0 k.1 ∙ k.2,
              eq-eqb _ _ ((right.entries e d (omega arith) p.0 l).1 (p.1, q)),
            )

  -- ---- the answers

  module _ {table rows : List ℕ} {n : ℕ} (right : PairsRight J table)
      (definitions : Definitions s rows n) (long : n ≤ length rows)
      {room : ℕ} {list : List ℕ} {r : Result ℕ TooShort}
      (lists : ListsPairs table (take n rows) (nodes_of t) room list r) where
    abbrev marked : List (ℕ × ℕ)
    marked = marked_pairs table (take n rows) (nodes_of t)

    all : MatchList J marked
    all = is_match_list right definitions long

    pub too_short : {x y : TooShort} → r ≡ Err x → ListAnswer J room list (Err y)
    too_short e = record { pairs = marked; all = all; says = put.too_short lists e }

    pub told : {number : ℕ} {valid : Bool} → r ≡ Ok number → Decides (Valid J) valid
        → ListAnswer J room list (Ok (record { valid = valid; pairs = number }))
    told {valid = valid} e d =
        let l = put.listed lists e in
        record {
          pairs = marked;
          all = all;
          says = record {
            fit = l.1;
            words = l.2;
            counted = l.0;
            rooted = decides_same valid (root_paired all).0 (root_paired all).1 d;
            derived = d;
          };
        }
