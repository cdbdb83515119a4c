-- Where the one token of a text stands, and what a token is compared with.
use Prim.Native.Nat.{ℕ, zero, suc, ◌+◌, ◌-◌, ◌*◌, ◌≤◌, ◌<◌}
use mathlib.Core.Path.{◌≡◌, refl, sym, ◌∙◌, ap}
use mathlib.Core.Bool.{Bool, true, false}
use mathlib.Core.Logic.{◌≢◌}
use mathlib.Core.List.{List, [], ◌∷◌, nil≢cons, cons≢nil}
use native.Mathlib.Decide.{dec_lt, ℕ_discrete}
use native.Mathlib.Nat.{le_trans, max-le, le_refl, min-le_right}
use native.Mathlib.Omega.{arith}
use lib.ListN.{length, drop, get_or, set, length-set, length-take, length-drop, drop_of_length-le, get_or-eq_default}
use lib.Dec.{eqb}
use lib.Pointwise.{pointwise}
use lib.Seq.{get_or-set_same, get_or-set_other}
use Rattle.std.specs.Cmp.Lexicographic.{same_text, other_text}
use Rattle.tables.specs.Answers.{Decides}
use Rattle.tables.specs.Place.{between}
use Rattle.tables.specs.Tables.{StringTable}
use Rattle.tables.proofs.Answers.{decides_same}
use Rattle.tables.proofs.Numbers.{not_less}
use Rattle.tables.proofs.Parts.{drop_one, between_reversed, between_beyond}
use Rattle.strings.specs.Strings.{start_of, end_of, text_of}
use Rattle.datatypes.specs.Cursor.{Skips}
use Rattle.datatypes.specs.Split.{Token, token_last, token_more, split, TokenTo}
use Rattle.datatypes.proofs.Positions.{skips_within}
use Rattle.datatypes.proofs.Splits.{split_first}
use Rattle.datatypes.proofs.TokenEnds.{split_next, split_skips, skips_stopped}
use Rattle.datatypes.proofs.Joined.{one_token}
use Rattle.matching_rules.specs.Job.{datatype_equal}
use Rattle.matching_tokens.specs.Tokens.{OneToken, TokenPlaces}

pub token_some : {t : List ℕ} → Token t → t ≢ []
token_some (token_last e) f = cons≢nil f
token_some (token_more e k) f = cons≢nil f

-- a stretch that is empty, in a text whose split is not one token
none_told : (s : List ℕ) (from to : ℕ) → between s from to ≡ [] → ((t : List ℕ) → split s ≢ t ∷ []) → OneToken s from to
none_told s from to e n t k = (λ f. absurd (token_some k (sym f ∙ e)), λ f. absurd (n t f))

one_told : (s : List ℕ) (from to : ℕ) → split s ≡ between s from to ∷ [] → OneToken s from to
one_told s from to e t k = (λ f. e ∙ ap (λ (x : List ℕ). x ∷ []) f, λ f. cc)

pub short_text : (T : StringTable) (k : ℕ) → length (text_of T k) ≤ length T.bytes
short_text T k =
    let from = start_of T.ends k in
    simp (length-take, length-drop)
    (le_trans (min-le_right (end_of T.ends k - from) (length T.bytes - from)) (omega arith))

-- the first token of a text, and what stands behind it
module _ {s : List ℕ} {from to next : ℕ} (before : Skips s 0 from)
    (token : TokenTo s from to) (behind : Skips s to next) where
  pub from_within : from ≤ length s
  from_within = skips_within before (omega arith)

  pub to_within : to ≤ length s
  to_within = le_trans token.within (max-le from_within (le_refl (length s)))

  begun : from < length s → split s ≡ between s from to ∷ split (drop next s)
  begun h =
      split_skips before
      ∙ split_next token h (skips_stopped before h)
      ∙ ap (λ (ts : List (List ℕ)). between s from to ∷ ts) (split_skips behind)

  pub placed_one : length s ≤ next → OneToken s from to
  placed_one h = go (dec_lt from (length s))
    where
      go : Dec (from < length s) → OneToken s from to
      go (yes l) = one_told s from to (begun l ∙ rw (drop_of_length-le s h) refl)
      go (no l) =
          let e : split s ≡ [] = split_skips before ∙ rw (drop_of_length-le s (not_less l)) refl in
          none_told s from to (between_beyond s from to (not_less l)) (λ t f. nil≢cons (sym e ∙ f))

  pub placed_none : next < length s → OneToken s 0 0
  placed_none h =
      let more = split_first (get_or s next 0) (drop (next + 1) s) (skips_stopped behind h) in
      let rest : split (drop next s) ≡ more.head ∷ more.others = ap split (drop_one s next h) ∙ more.apart in
      let all = begun (omega (arith, token.onward, behind.onward)) in
      none_told s 0 0 (between_reversed s 0 0 (omega arith))
      (λ t f. let z : ◌≡◌ {A = ℕ} 0 1 = cc (rest, all, f) in omega arith)

-- the places of the strings before n
abbrev pub PlacedTo : StringTable → List ℕ → ℕ → Type 0
PlacedTo T places n = (k : ℕ) → k < n → OneToken (text_of T k) (get_or places (k * 2) 0) (get_or places (k * 2 + 1) 0)

-- two words more
pub placed_more : (T : StringTable) (places : List ℕ) (n from to : ℕ) → n * 2 + 1 < length places → PlacedTo T places n
    → OneToken (text_of T n) from to → PlacedTo T (set (set places (n * 2) from) (n * 2 + 1) to) (n + 1)
placed_more T places n from to room all one k h = go (ℕ_discrete k n)
  where
    kept : (i : ℕ) → i ≢ n * 2 → i ≢ n * 2 + 1
        → get_or (set (set places (n * 2) from) (n * 2 + 1) to) i 0 ≡ get_or places i 0
    kept i f g =
        get_or-set_other (set places (n * 2) from) (n * 2 + 1) i to 0 g ∙ get_or-set_other places (n * 2) i from 0 f

    first : get_or (set (set places (n * 2) from) (n * 2 + 1) to) (n * 2) 0 ≡ from
    first =
        get_or-set_other (set places (n * 2) from) (n * 2 + 1) (n * 2) to 0 (λ e. omega arith)
        ∙ get_or-set_same places (n * 2) from 0 (omega arith)

    then : get_or (set (set places (n * 2) from) (n * 2 + 1) to) (n * 2 + 1) 0 ≡ to
    then = get_or-set_same (set places (n * 2) from) (n * 2 + 1) to 0 (simp length-set room)

    go : Dec (k ≡ n) → OneToken (text_of T k) (get_or (set (set places (n * 2) from) (n * 2 + 1) to) (k * 2) 0)
        (get_or (set (set places (n * 2) from) (n * 2 + 1) to) (k * 2 + 1) 0)
    go (yes e) = rw (e, first, then) one
    go (no e) =
        rw (kept (k * 2) (λ f. omega arith) (λ f. omega arith), kept (k * 2 + 1) (λ f. omega arith) (λ f. omega arith))
        (all k (omega arith))

-- a number past the last string has an empty text, which has no token
pub placed_all : (T : StringTable) (places : List ℕ) → PlacedTo T places (length T.ends) → TokenPlaces T places
placed_all T places all k = go (dec_lt k (length T.ends))
  where
    go : Dec (k < length T.ends) → OneToken (text_of T k) (get_or places (k * 2) 0) (get_or places (k * 2 + 1) 0)
    go (yes h) = all k h
    go (no h) =
        let e : end_of T.ends k ≡ 0 = get_or-eq_default T.ends 0 (not_less h) in
        let none : text_of T k
        ≡ [] = between_reversed T.bytes (start_of T.ends k) (end_of T.ends k) (omega arith) in
        rw none (none_told [] (get_or places (k * 2) 0) (get_or places (k * 2 + 1) 0)
        (between_beyond [] (get_or places (k * 2) 0) (get_or places (k * 2 + 1) 0) (omega arith)) (λ t f. nil≢cons f))

-- the answer of `==` on two texts
pub texts_told : (a b : List ℕ) (r : Bool) → r ≡ pointwise eqb a b → Decides (a ≡ b) r
texts_told a b true e = same_text a b e
texts_told a b false e = other_text a b e

-- one value by the number of the datatype
pub by_string : (d : ℕ) (t v : List ℕ) (r : Bool) → d ≡ 0 → Decides (t ≡ v) r → Decides (datatype_equal d t v) r
by_string d t v r e a = rw e a

pub by_token : (d : ℕ) {t : List ℕ} (v : List ℕ) (from to : ℕ) (r : Bool) → d ≢ 0 → Token t
    → OneToken v from to → Decides (between v from to ≡ t) r → Decides (datatype_equal d t v) r
by_token zero v from to r n k one a = absurd (n refl)
by_token (suc d) {t} v from to r n k one a =
    decides_same r (λ e. (one_token k v).1 ((one t k).0 e)) (λ e. (one t k).1 ((one_token k v).0 e)) a
