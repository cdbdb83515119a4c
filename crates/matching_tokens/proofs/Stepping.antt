-- What one token does at a row of each kind, by what it does at the rows below.
use mathlib.Core.Path.{◌≡◌, refl, sym, ◌∙◌, ap, subst}
use mathlib.Core.Bool.{Bool, true, false, ◌&&◌, ◌||◌, and-true}
use mathlib.Core.Logic.{◌↔◌, ◌≢◌}
use mathlib.Core.List.{List, ◌∷◌}
use Prim.Native.Nat.{ℕ, ◌<◌, ◌≤◌}
use native.Mathlib.Omega.{arith}
use lib.ListN.{length, get_or, set, length-set}
use lib.Dec.{eqb}
use Rattle.tables.specs.Answers.{Decides}
use Rattle.tables.specs.Tables.{StringTable, tables_of}
use Rattle.tables.proofs.Answers.{decides_eqb}
use Rattle.tables.proofs.Booleans.{is_false}
use Rattle.schema.specs.Rows.{a_of, b_of}
use Rattle.schema.specs.Views.{pattern_of}
use Rattle.schema.specs.Views as pattern
use Rattle.matching_rules.specs.Job.{lookups}
use Rattle.matching_rules.specs.Rules.{NotMatchBy}
use Rattle.matching_tokens.specs.Marked.{Tree, empty, leaf, one_or_more, choice, group, is_data, in_root}
use Rattle.matching_tokens.specs.Marked.{in_part, in_choice_1, in_choice_2, in_group_1, in_group_2}
use Rattle.matching_tokens.specs.Marked.{Proper, nullable, Read, read, second, again, done}
use Rattle.matching_tokens.specs.MarkTable.{ShowsAt, mark, marked, HoldsMarks, Stepped}
use Rattle.matching_tokens.specs.MarkTable.{Steps, TwoStepped, TwoSteps, LeafSteps}
use Rattle.matching_tokens.specs.Tokens.{NothingUpTo}
use Rattle.matching_tokens.proofs.Accepted.{nullable_right}
use Rattle.matching_tokens.proofs.MarkTables.{marked_own, marked_other, in_below, holds_own, holds_kept}
use Rattle.matching_tokens.proofs.Shapes.{Childless, shown_leaf, shown_empty}
use Rattle.matching_tokens.proofs.Shapes.{shown_one_or_more, shown_choice, shown_group}

-- a test that tells the same as an answer is the answer
pub told_same : {A : Type 0} (b c : Bool) → Decides A b → (c ≡ true) ↔ A → b ≡ c
told_same true c a f = sym (f.1 a)
told_same false c n f = sym (is_false c (λ e. n (f.0 e)))

without_row : {i a r : ℕ} → i ≤ a → a < r → i ≢ r
without_row f g e = omega arith

pub nulls_below : (T : StringTable) (s nothing : List ℕ) {p q : ℕ}
    → NothingUpTo T s nothing p → q ≤ p → NothingUpTo T s nothing q
nulls_below T s nothing n h t r g = n t r (omega arith)

-- the table says of a part whether it may be empty
pub null_marked : (T : StringTable) (s nothing : List ℕ) {p : ℕ} → NothingUpTo T s nothing p
    → (t : List ℕ) {q : ℕ} {u : Tree} → q ≤ p → ShowsAt T s t q u → marked nothing q ≡ nullable u
null_marked T s nothing n t {q} {u} h shows =
    let L = lookups (tables_of T s t) in
    let right = nullable_right L (NotMatchBy L L.rows) shows in
    let told = n t q h in
    told_same (eqb (get_or nothing q 0) 1) (nullable u) (decides_eqb (get_or nothing q 0) 1)
    (λ e. told.1 (right.0 e), λ e. right.1 (told.0 e))

-- a mark stored at a row, in a table as long as before
record Stored (row : ℕ) (before middle after : List ℕ) (answer : Bool) : Type 0 where
  store : after ≡ set middle row (mark answer)
  size : length middle ≡ length before

module _ {row : ℕ} {before middle after : List ℕ} {answer : Bool} (z : Stored row before middle after answer) where
  stored_size : length after ≡ length middle
  stored_size = ap length z.store ∙ length-set middle row (mark answer)

  stored_room : row < length before → row < length after
  stored_room h = subst (λ (n : ℕ). row < n) (sym (stored_size ∙ z.size)) h

  stored_own : row < length before → marked after row ≡ answer
  stored_own h =
      ap (λ (m : List ℕ). marked m row) z.store
      ∙ marked_own middle row answer (subst (λ (n : ℕ). row < n) (sym z.size) h)

  stored_other : (i : ℕ) → i ≢ row → marked after i ≡ marked middle i
  stored_other i n = ap (λ (m : List ℕ). marked m i) z.store ∙ marked_other middle row i (mark answer) n

module _ (T : StringTable) (s : List ℕ) (row : ℕ) (enter : Bool) (token : List ℕ) where
  pub stepped_empty : (marks : List ℕ) → ((t : List ℕ) → Childless (lookups (tables_of T s t)) row)
      → Steps T s row enter token marks marks false
  unfolding done
  stepped_empty marks n t p h shows proper c =
      subst (λ (x : Tree). HoldsMarks marks x h → Stepped x (read enter token ∷ h) marks marks false)
      (sym (shown_empty shows (n t))) here c
    where
      here : HoldsMarks marks (empty row) h → Stepped (empty row) (read enter token ∷ h) marks marks false
      here d =
          record { right = refl; size = refl; holds = record { room = d.room; told = d.told }; kept = λ i o. refl }

  pub stepped_leaf : {before after : List ℕ} {answer : Bool} → is_data (pattern_of s row) ≡ true
      → LeafSteps T s row enter token before after answer → Steps T s row enter token before after answer
  unfolding done
  stepped_leaf {before} {after} {answer} e l t p h shows proper c =
      let v = shown_leaf shows e in
      subst (λ (x : Tree). HoldsMarks before x h → Stepped x (read enter token ∷ h) before after answer)
      (sym v.tree) (here v.takes (l.told t v.takes v.right)) c
    where
      z : Stored row before before after answer
      z = record { store = l.stored; size = refl }

      here : (takes : List ℕ → Bool) → answer ≡ (enter && takes token) → HoldsMarks before (leaf row takes) h
          → Stepped (leaf row takes) (read enter token ∷ h) before after answer
      here takes f d = record {
        right = f;
        size = stored_size z;
        holds = record { room = stored_room z d.room; told = stored_own z d.room ∙ f };
        kept = λ i o. stored_other z i (λ j. o (in_root (sym j)));
      }

  module _ (a : ℕ) (inner : Bool) (before middle after : List ℕ)
      (answer : Bool) (given : inner ≡ (enter && true || marked before a))
      (below : Steps T s a inner token before middle answer) (store : after ≡ set middle row (mark answer)) where
    more_here : (t : List ℕ) (q : Tree) (h : List Read) → a < row → ShowsAt T s t a q → Proper q
        → HoldsMarks before (one_or_more row q) h
        → Stepped (one_or_more row q) (read enter token ∷ h) before after answer
    unfolding done
    more_here t q h l shows proper c =
        let old = holds_own before q (again (done q) h) shows c.1 in
        let same : inner ≡ (enter || done q (again (done q) h)) = given ∙ rw (and-true enter, old) refl in
        let under : Stepped q (again (done q) (read enter token ∷ h)) before middle answer =
        rw same at (below t q (again (done q) h) shows proper c.1) in
        let room = c.0.room in
        let z : Stored row before middle after answer = record { store = store; size = under.size } in
        record {
          right = under.right;
          size = stored_size z ∙ under.size;
          holds = (
            record { room = stored_room z room; told = stored_own z room ∙ under.right },
            holds_kept middle after (stored_size z) q (again (done q) (read enter token ∷ h))
                (λ i j. stored_other z i (without_row (in_below shows j) l)) under.holds,
          );
          kept = λ i o. stored_other z i (λ e. o (in_root (sym e))) ∙ under.kept i (λ j. o (in_part j));
        }

    pub stepped_one_or_more : pattern_of s row ≡ pattern.one_or_more a
        → a < row → Steps T s row enter token before after answer
    stepped_one_or_more e l t p h shows proper c =
        let v = shown_one_or_more shows e in
        subst (λ (x : Tree). Proper x → HoldsMarks before x h → Stepped x (read enter token ∷ h) before after answer)
        (sym v.tree) (more_here t v.part h l v.shows) proper c

  -- the two parts of a row, one after the other
  pub two_stepped : (a b : ℕ) (onward last first then answer : Bool) (before middle later after : List ℕ)
      → a ≡ a_of s row → b ≡ b_of s row → a_of s row < row → b_of s row < row
      → Steps T s a enter token before middle first → Steps T s b onward token middle later then
      → answer ≡ (first && last || then) → after ≡ set later row (mark answer)
      → TwoSteps T s row enter onward last token before after answer
  two_stepped a b onward last first then answer before middle later after
      is-a is_b falls-a falls-b step-a step-b told store t p q h k r =
      let one = step-a t p h (subst (λ (x : ℕ). ShowsAt T s t x p) (sym is-a) r.shows_a)
      r.proper_a r.holds_a in
      let ready : HoldsMarks middle q k =
      holds_kept before middle one.size q k (λ i j. one.kept i (λ l. r.apart i l j)) r.holds_b in
      let two = step-b t q k (subst (λ (x : ℕ). ShowsAt T s t x q) (sym is_b) r.shows_b) r.proper_b ready in
      let size : length later ≡ length before = two.size ∙ one.size in
      let z : Stored row before later after answer = record { store = store; size = size } in
      let still = stored_size z in
      let early : HoldsMarks later p (read enter token ∷ h) = holds_kept middle later two.size
      p (read enter token ∷ h) (λ i j. two.kept i (λ l. r.apart i j l)) one.holds in
      record {
        right = told ∙ rw (one.right, two.right) refl;
        size = still ∙ size;
        own = stored_own z r.room;
        first = holds_kept later after still p (read enter token ∷ h)
            (λ i j. stored_other z i (without_row (in_below r.shows_a j) falls-a)) early;
        then = holds_kept later after still q (read onward token ∷ k)
            (λ i j. stored_other z i (without_row (in_below r.shows_b j) falls-b)) two.holds;
        kept = λ i o u v. stored_other z i o ∙ two.kept i v ∙ one.kept i u;
      }

  room_after : {p q : Tree} {h k : List Read} {last : Bool} {before after : List ℕ} {answer : Bool}
      → TwoStepped row p q h k last before after answer → row < length before → row < length after
  room_after d h = subst (λ (n : ℕ). row < n) (sym d.size) h

  module _ (before after : List ℕ) (answer : Bool) where
    choice_here : TwoSteps T s row enter enter true token before after answer → (t : List ℕ) (p q : Tree)
        (h : List Read) → ShowsAt T s t (a_of s row) p → ShowsAt T s t (b_of s row) q → Proper (choice row p q)
        → HoldsMarks before (choice row p q) h → Stepped (choice row p q) (read enter token ∷ h) before after answer
    unfolding done
    choice_here both t p q h shows_a shows_b proper c =
        let d = both t p q h h (record {
          room = c.0.room;
          shows_a = shows_a;
          shows_b = shows_b;
          apart = proper.0;
          proper_a = proper.1;
          proper_b = proper.2;
          holds_a = c.1;
          holds_b = c.2;
        }) in
        let right : answer ≡ (done p (read enter token ∷ h) || done q (read enter token ∷ h)) =
        d.right ∙ rw (and-true (done p (read enter token ∷ h))) refl in
        record {
          right = right;
          size = d.size;
          holds = (record { room = room_after d c.0.room; told = d.own ∙ right }, d.first, d.then);
          kept = λ i o. d.kept i (λ e. o (in_root (sym e))) (λ j. o (in_choice_1 j)) (λ j. o (in_choice_2 j));
        }

    pub stepped_choice : TwoSteps T s row enter enter true token before after answer
        → pattern_of s row ≡ pattern.choice (a_of s row) (b_of s row) → Steps T s row enter token before after answer
    stepped_choice both e t p h shows proper c =
        let v = shown_choice shows e in
        subst (λ (x : Tree). Proper x → HoldsMarks before x h → Stepped x (read enter token ∷ h) before after answer)
        (sym v.tree) (choice_here both t v.first v.then h v.shows_a v.shows_b) proper c

    module _ (nothing : List ℕ) (nulls : NothingUpTo T s nothing row)
        (falls-a : a_of s row < row) (falls-b : b_of s row < row) (onward last : Bool)
        (entered : onward ≡ (enter && marked nothing (a_of s row) || marked before (a_of s row))) (ended : last
        ≡ marked nothing (b_of s row)) (both : TwoSteps T s row enter onward last token before after answer) where
      group_here : (t : List ℕ) (p q : Tree) (h : List Read) → ShowsAt T s t (a_of s row) p
          → ShowsAt T s t (b_of s row) q → Proper (group row p q) → HoldsMarks before (group row p q) h
          → Stepped (group row p q) (read enter token ∷ h) before after answer
      unfolding done
      group_here t p q h shows_a shows_b proper c =
          let k = second (nullable p) (done p) h in
          let d = both t p q h k (record {
            room = c.0.room;
            shows_a = shows_a;
            shows_b = shows_b;
            apart = proper.0;
            proper_a = proper.1;
            proper_b = proper.2;
            holds_a = c.1;
            holds_b = c.2;
          }) in
          let first-null = null_marked T s nothing nulls t (omega (arith, falls-a)) shows_a in
          let last_null : last
          ≡ nullable q = ended ∙ null_marked T s nothing nulls t (omega (arith, falls-b)) shows_b in
          let way : onward ≡ (enter && nullable p || done p h) =
          entered ∙ rw (first-null, holds_own before p h shows_a c.1) refl in
          let right : answer ≡ (done p (read enter token ∷ h) && nullable q
          || done q (second (nullable p) (done p) (read enter token ∷ h))) = rw (last_null, way) at d.right in
          record {
            right = right;
            size = d.size;
            holds = (
              record { room = room_after d c.0.room; told = d.own ∙ right },
              d.first,
              subst (λ (x : Bool). HoldsMarks after q (read x token ∷ k)) way d.then,
            );
            kept = λ i o. d.kept i (λ e. o (in_root (sym e))) (λ j. o (in_group_1 j)) (λ j. o (in_group_2 j));
          }

      pub stepped_group : pattern_of s row ≡ pattern.group (a_of s row) (b_of s row)
          → Steps T s row enter token before after answer
      stepped_group e t p h shows proper c =
          let v = shown_group shows e in
          subst (λ (x : Tree). Proper x → HoldsMarks before x h → Stepped x (read enter token ∷ h) before after answer)
          (sym v.tree) (group_here t v.first v.then h v.shows_a v.shows_b) proper c
