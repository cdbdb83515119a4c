-- The tokens of a text, read in place, one after the other.
use mathlib.Core.Path.{◌≡◌, refl, sym, ◌∙◌, ap, subst}
use mathlib.Core.Bool.{Bool, true, false}
use mathlib.Core.Logic.{◌↔◌}
use mathlib.Core.List.{List, [], ◌∷◌, ◌++◌, append-nil, append_assoc}
use Prim.Native.Nat.{ℕ, ◌<◌, ◌≤◌}
use native.Mathlib.Decide.{dec_lt}
use native.Mathlib.Omega.{arith}
use lib.ListN.{length, drop, get_or, drop_of_length-le}
use Rattle.tables.specs.Answers.{Decides}
use Rattle.tables.specs.Outputs.{zeros}
use Rattle.tables.specs.Place.{between}
use Rattle.tables.specs.Tables.{StringTable, tables_of}
use Rattle.tables.proofs.Numbers.{not_less}
use Rattle.datatypes.specs.Whitespace.{space}
use Rattle.datatypes.specs.Cursor.{Skips}
use Rattle.datatypes.specs.Split.{Token, split, TokenTo}
use Rattle.datatypes.proofs.TokenEnds.{token_between, split_next, split_skips}
use Rattle.schema.specs.Rows.{rows_of}
use Rattle.schema.specs.RowRule.{max_rows}
use Rattle.schema.specs.Views.{Pattern, no_pattern}
use Rattle.schema.proofs.RowLaws.{right_size, few_rows}
use Rattle.matching_rules.specs.Items.{Lookups}
use Rattle.matching_rules.specs.Job.{lookups}
use Rattle.matching_rules.specs.Rules.{NotMatchBy}
use Rattle.matching_rules.specs.Restricted.{Listable, listable_empty, listable_value, listable_data}
use Rattle.matching_rules.specs.Restricted.{listable_except, listable_one_or_more, listable_choice, listable_group}
use Rattle.matching_rules.proofs.Passing.{restricted}
use Rattle.matching_tokens.specs.Marked.{Tree, Proper, Read, read, done, fed, accepts}
use Rattle.matching_tokens.specs.MarkTable.{ShowsAt, marked, HoldsMarks, Steps}
use Rattle.matching_tokens.specs.Tokens.{NothingUpTo, ListReady, TokensMatch}
use Rattle.matching_tokens.proofs.Accepted.{accepts_right}
use Rattle.matching_tokens.proofs.MarkTables.{holds_none}
use Rattle.matching_tokens.proofs.Stepping.{null_marked}
use Rattle.matching_tokens.proofs.Trees.{list_tree}

abbrev is_none : List (List ℕ) → Bool
is_none [] = true
is_none (t ∷ ts) = false

-- what was read of a whole sequence: the pattern is entered before the first token only
abbrev history : List (List ℕ) → List Read
history [] = []
history (t ∷ ts) = fed (read true t ∷ []) ts

fed_more : (h : List Read) (ts : List (List ℕ)) (t : List ℕ) → fed h (ts ++ t ∷ []) ≡ read false t ∷ fed h ts
fed_more h [] t = refl
fed_more h (u ∷ ts) t = fed_more (read false u ∷ h) ts t

history_more : (ts : List (List ℕ)) (t : List ℕ) → history (ts ++ t ∷ []) ≡ read (is_none ts) t ∷ history ts
history_more [] t = refl
history_more (u ∷ ts) t = fed_more (read true u ∷ []) ts t

accepts_more : (p : Tree) (ts : List (List ℕ)) (t : List ℕ) → accepts p (ts ++ t ∷ []) ≡ done p (history (ts ++ t ∷ []))
accepts_more p [] t = refl
accepts_more p (u ∷ ts) t = refl

not_none : (ts : List (List ℕ)) (t : List ℕ) → is_none (ts ++ t ∷ []) ≡ false
not_none [] t = refl
not_none (u ∷ ts) t = refl

-- a token stands at the position, or the text ends there
abbrev pub Settled : List ℕ → ℕ → Type 0
Settled text at = at < length text → space (get_or text at 0) ≡ false

-- what has been read of a text up to a position, and what is left
pub record ReadTo (text : List ℕ) (p : Tree) (at : ℕ) (enter : Bool) (marks : List ℕ) (answer : Bool) : Type 0 where
  pub passed : List (List ℕ)
  pub parts : split text ≡ passed ++ split (drop at text)
  pub entered : enter ≡ is_none passed
  pub right : answer ≡ accepts p passed
  pub holds : HoldsMarks marks p (history passed)

module _ (T : StringTable) (s t : List ℕ) (row : ℕ) {text : List ℕ} {p : Tree} (shows : ShowsAt T s t row p) where
  pub read_none : (nothing : List ℕ) {at : ℕ} {answer : Bool} → Skips text 0 at → NothingUpTo T s nothing row
      → answer ≡ marked nothing row → row < max_rows → ReadTo text p at true (zeros max_rows) answer
  read_none nothing skips nulls e h = record {
    passed = [];
    parts = split_skips skips;
    entered = refl;
    right = e ∙ null_marked T s nothing nulls t (omega arith) shows;
    holds = holds_none max_rows shows h;
  }

  module _ {at end next : ℕ} {enter old answer : Bool} {token before after : List ℕ} where
    pub read_next : Proper p → ReadTo text p at enter before old → at < length text
        → Settled text at → TokenTo text at end → token ≡ between text at end
        → Steps T s row enter token before after answer → Skips text end next → ReadTo text p next false after answer
    read_next proper r h settled ends is step skips =
        let stepped = step t p (history r.passed) shows proper r.holds in
        let now : history (r.passed ++ token ∷ []) ≡ read enter token ∷ history r.passed =
        history_more r.passed token ∙ ap (λ (e : Bool). read e token ∷ history r.passed) (sym r.entered) in
        let tokens : split (drop at text)
        ≡ token ∷ split (drop next text) = split_next ends h (settled h) ∙ rw (is, split_skips skips) refl in
        record {
          passed = r.passed ++ token ∷ [];
          parts = r.parts ∙ ap (λ (ts : List (List ℕ)). r.passed ++ ts) tokens
              ∙ sym (append_assoc r.passed (token ∷ []) (split (drop next text)));
          entered = sym (not_none r.passed token);
          right = stepped.right ∙ ap (done p) (sym now) ∙ sym (accepts_more p r.passed token);
          holds = subst (HoldsMarks after p) (sym now) stepped.holds;
        }

  pub read_all : {at : ℕ} {enter answer : Bool} {marks : List ℕ}
      → length text ≤ at → ReadTo text p at enter marks answer → answer ≡ accepts p (split text)
  read_all {at} h r =
      let none : split (drop at text) ≡ [] = rw (drop_of_length-le text h) refl in
      r.right
      ∙ ap (accepts p) (sym (r.parts ∙ ap (λ (ts : List (List ℕ)). r.passed ++ ts) none ∙ append-nil r.passed))

decided : {A : Type 0} (b c : Bool) → b ≡ c → (c ≡ true) ↔ A → Decides A b
decided true c e i = i.0 (sym e)
decided false c e i = λ a. let f = i.1 a in let z : ◌≡◌ {A = ℕ} 0 1 = cc in omega arith

-- what holds of the tree that the row shows decides
pub tokens_decided : (T : StringTable) (s places nothing text : List ℕ) (row : ℕ) (answer : Bool)
    → ListReady T s places nothing row
    → ((t : List ℕ) (p : Tree) → ShowsAt T s t row p → Proper p → answer ≡ accepts p (split text))
    → TokensMatch T s text row answer
tokens_decided T s places nothing text row answer ready told t =
    let J = tables_of T s t in
    let L = lookups J in
    let u = list_tree J ready.passes row (ready.listable t) in
    decided answer (accepts u.tree (split text)) (told t u.tree u.shows u.apart)
    (accepts_right L (NotMatchBy L L.rows) u.shows (split text))

-- the row of a pattern that may stand in a list is in the table
some_pattern : (L : Lookups) {x : Pattern} → Listable L x → x ≡ no_pattern → ⊥
some_pattern L listable_empty e = let z : ◌≡◌ {A = ℕ} 0 1 = cc in omega arith
some_pattern L listable_value e = let z : ◌≡◌ {A = ℕ} 0 1 = cc in omega arith
some_pattern L listable_data e = let z : ◌≡◌ {A = ℕ} 0 1 = cc in omega arith
some_pattern L (listable_except k) e = let z : ◌≡◌ {A = ℕ} 0 1 = cc in omega arith
some_pattern L (listable_one_or_more k) e = let z : ◌≡◌ {A = ℕ} 0 1 = cc in omega arith
some_pattern L (listable_choice k l) e = let z : ◌≡◌ {A = ℕ} 0 1 = cc in omega arith
some_pattern L (listable_group k l) e = let z : ◌≡◌ {A = ℕ} 0 1 = cc in omega arith

pub list_row : (T : StringTable) (s places nothing : List ℕ) (row : ℕ)
    → ListReady T s places nothing row → row < max_rows
list_row T s places nothing row ready = go (dec_lt row (rows_of s))
  where
    go : Dec (row < rows_of s) → row < max_rows
    go (yes h) = omega (arith, few_rows (right_size ready.passes.rows))
    go (no h) =
        absurd (some_pattern (lookups (tables_of T s [])) (ready.listable [])
        ((restricted (tables_of T s []) ready.passes).bounded row (not_less h)))

-- the token that was read is one
pub read_token : {text : List ℕ} {at end : ℕ} {token : List ℕ} → TokenTo text at end
    → at < length text → Settled text at → token ≡ between text at end → Token token
read_token ends h settled is = subst Token (sym is) (token_between ends h (settled h))
