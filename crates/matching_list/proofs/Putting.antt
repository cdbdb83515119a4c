-- Pairs put one after the other, and what each answer says of them.
use mathlib.Core.Path.{◌≡◌, refl, sym, ◌∙◌, ap, ap₂, subst}
use mathlib.Core.List.{List, [], ◌∷◌, ◌++◌}
use mathlib.Core.Logic.{◌≢◌}
use Prim.Native.Nat.{ℕ, suc, ◌+◌, ◌*◌, ◌≤◌, ◌<◌}
use native.Mathlib.Nat.{zero-add}
use native.Mathlib.Omega.{arith}
use borrow.Author.Tests.{eq-eqb, ne_eqb}
use lib.ListN.{length, get_or, set, length-append, length-replicate}
use lib.Seq.{sets, length-sets}
use Rattle.std.specs.Prelude.{Result, Ok, Err}
use Rattle.tables.proofs.Stores.{sets_append, sets_laid}
use Rattle.tables.specs.Outputs.{zeros, laid}
use Rattle.schema.specs.RowRule.{max_rows}
use Rattle.matching_rules.specs.Listed.{pair_words}
use Rattle.matching_list.specs.Listing.{pair_if, row_pairs, marked_pairs, PutPairs, ListsPairs}
use Rattle.matching_list.specs.Listing.{whole, short, KeepsListed, stays, taken_back}
use Rattle.matching_list.specs.declared.TooShort.{TooShort}

words_append : (a b : List (ℕ × ℕ)) → pair_words (a ++ b) ≡ pair_words a ++ pair_words b
unfolding pair_words
words_append [] b = refl
words_append (x ∷ a) b = ap (λ (r : List ℕ). x.0 ∷ x.1 ∷ r) (words_append a b)

words_length : (a : List (ℕ × ℕ)) → length (pair_words a) ≡ length a * 2
unfolding pair_words
words_length [] = refl
words_length (x ∷ a) = let e = words_length a in omega arith

pub put_none : (list : List ℕ) (n : ℕ) → PutPairs list n [] list n
unfolding pair_words
put_none list n = record { holds = refl; number = omega arith }

pub put_more : {list : List ℕ} {n : ℕ} {a b : List (ℕ × ℕ)} {mid : List ℕ} {m : ℕ} {end : List ℕ} {r : ℕ}
    → PutPairs list n a mid m → PutPairs mid m b end r → PutPairs list n (a ++ b) end r
put_more {list} {n} {a} {b} p q =
    let l = words_length a in
    let e : n * 2 + length (pair_words a) ≡ (n + length a) * 2 = omega arith in
    record {
      holds = q.holds
          ∙ ap₂ (λ (o : List ℕ) (i : ℕ). sets o i (pair_words b)) p.holds (ap (λ (k : ℕ). k * 2) p.number ∙ sym e)
          ∙ sets_append list (n * 2) (pair_words a) (pair_words b) ∙ ap (sets list (n * 2)) (sym (words_append a b));
      number = q.number ∙ let x = p.number in let y = length-append a b in omega arith;
    }

pub put_as : {list : List ℕ} {n : ℕ} {a b : List (ℕ × ℕ)} {end : List ℕ} {r : ℕ}
    → a ≡ b → PutPairs list n a end r → PutPairs list n b end r
put_as e p = rw (← e) p

pub put_length : {list : List ℕ} {n : ℕ} {a : List (ℕ × ℕ)} {end : List ℕ} {r : ℕ}
    → PutPairs list n a end r → length end ≡ length list
put_length {list} {n} {a} p = ap length p.holds ∙ length-sets list (n * 2) (pair_words a)

-- one pair, as far as it fits
pub put_both : (list : List ℕ) (n e d : ℕ)
    → PutPairs list n ((e, d) ∷ []) (set (set list (n * 2) e) (n * 2 + 1) d) (n + 1)
unfolding pair_words
put_both list n e d = record { holds = let z : n * 2 + 1 ≡ suc (n * 2) = omega arith in rw z; number = refl }

-- the pair that a table marks
pub marked : (table : List ℕ) (e d : ℕ) → get_or table (e * max_rows + d) 0 ≡ 1 → pair_if table e d ≡ (e, d) ∷ []
marked table e d h = rw (eq-eqb _ _ h)

pub unmarked : (table : List ℕ) (e d : ℕ) → get_or table (e * max_rows + d) 0 ≢ 1 → pair_if table e d ≡ []
unmarked table e d h = rw (ne_eqb _ _ h)

-- one more definition, one more row
module _ {list : List ℕ} {n : ℕ} (table definitions : List ℕ) {mid : List ℕ} {m : ℕ} {end : List ℕ} {r : ℕ} where
  pub row_more : (e k : ℕ) → PutPairs list n (row_pairs table definitions e k) mid m → PutPairs mid m
      (pair_if table e (get_or definitions k 0)) end r → PutPairs list n (row_pairs table definitions e (k + 1)) end r
  unfolding row_pairs
  row_more e k p q = let z : k + 1 ≡ suc k = omega arith in rw z (put_more p q)

  pub rows_more : (e : ℕ) → PutPairs list n (marked_pairs table definitions e) mid m
      → PutPairs mid m (row_pairs table definitions e (length definitions)) end r
      → PutPairs list n (marked_pairs table definitions (e + 1)) end r
  unfolding marked_pairs
  rows_more e p q = let z : e + 1 ≡ suc e = omega arith in rw z (put_more p q)

pub without_row : (table definitions : List ℕ) (e : ℕ) → row_pairs table definitions e 0 ≡ []
unfolding row_pairs
without_row table definitions e = refl

pub no_rows : (table definitions : List ℕ) → marked_pairs table definitions 0 ≡ []
unfolding marked_pairs
no_rows table definitions = refl

-- the answers of the listing
module _ {table definitions : List ℕ} {rows room : ℕ} where
  pub short_list : {list end : List ℕ} {m : ℕ} → room < m * 2
      → PutPairs list 0 (marked_pairs table definitions rows) end m → {zeroed : List ℕ}
      → zeroed ≡ zeros room → ListsPairs table definitions rows room zeroed (Err (record {}))
  short_list h p z = let k = p.number in short (omega arith) refl z

  pub whole_list : {list : List ℕ} {m : ℕ} → m * 2 ≤ room → PutPairs (zeros room) 0
      (marked_pairs table definitions rows) list m → ListsPairs table definitions rows room list (Ok m)
  whole_list h p =
      let k = p.number in
      let l = words_length (marked_pairs table definitions rows) in
      whole (omega arith) (ap Ok (p.number ∙ zero-add _))
      (p.holds ∙ sets_laid room (pair_words (marked_pairs table definitions rows)) (omega arith))

  -- what is put into zeros and kept where it fits
  pub kept_list : {list mid end : List ℕ} {m : ℕ} {r : Result ℕ TooShort} → list ≡ zeros room
      → PutPairs list 0 (marked_pairs table definitions rows) mid m
      → KeepsListed mid m end r → ListsPairs table definitions rows room end r
  kept_list {list} {mid} {m = m} z p k = go (put_length p ∙ ap length z ∙ length-replicate {A = ℕ} room 0) k
    where
      go : {end : List ℕ} {r : Result ℕ TooShort} → length mid ≡ room
          → KeepsListed mid m end r → ListsPairs table definitions rows room end r
      go l (stays h e f) =
          rw (e, f) (whole_list (omega arith)
          (subst (λ (o : List ℕ). PutPairs o 0 (marked_pairs table definitions rows) mid m) z p))
      go l (taken_back h e f) = rw e (short_list (omega arith) p (f ∙ ap zeros l))

  -- what an answer of the listing says
  pub listed : {list : List ℕ} {r : Result ℕ TooShort} {n : ℕ} → ListsPairs table definitions rows room list r
      → r ≡ Ok n → (n ≡ length (marked_pairs table definitions rows))
      × (length (marked_pairs table definitions rows) * 2 ≤ room)
      × (list ≡ laid room (pair_words (marked_pairs table definitions rows)))
  listed (whole h e l) f = (cc (sym f ∙ e), h, l)
  listed {n = n} (short h e z) f =
      let k : ◌≡◌ {A = Result ℕ TooShort} (Err (record {})) (Ok n) = sym e ∙ f in
      let y : ◌≡◌ {A = ℕ} 0 1 = cc in
      absurd (omega arith)

  pub too_short : {list : List ℕ} {r : Result ℕ TooShort} {x : TooShort} → ListsPairs table definitions rows room list r
      → r ≡ Err x → (room < length (marked_pairs table definitions rows) * 2) × (list ≡ zeros room)
  too_short {x = x} (whole h e l) f =
      let k : ◌≡◌ {A = Result ℕ TooShort} (Err x) (Ok (length (marked_pairs table definitions rows))) = sym f ∙ e in
      let y : ◌≡◌ {A = ℕ} 0 1 = cc in
      absurd (omega arith)
  too_short (short h e z) f = (h, z)
