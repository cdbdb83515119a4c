-- Strings with one hash are linked, so that a text is compared with few others.
use Prim.Native.Nat.{ℕ, suc, ◌+◌, ◌≤◌, ◌<◌}
use mathlib.Core.Path.{◌≡◌, sym, ◌∙◌, ap}
use mathlib.Core.Logic.{◌≢◌}
use mathlib.Core.List.{List}
use native.Mathlib.Omega.{arith}
use native.Mathlib.Decide.{dec_lt, ℕ_discrete}
use borrow.Author.Count.{below_more}
use lib.ListN.{length, get_or, set, length-set, length-replicate}
use lib.Seq.{get_or-set_same, get_or-set_other}
use Rattle.tables.specs.Outputs.{zeros}
use Rattle.tables.proofs.Fill.{get_or_zeros}
use Rattle.tables.specs.Tables.{StringTable}
use Rattle.strings.specs.Strings.{text_of, max_strings}
use Rattle.strings.specs.Chains.{hash_of, hash_at, LastOf, Linked, Lasts}

hash_less : (l : List ℕ) → hash_of l < max_strings
unfolding hash_of
hash_less l = omega arith

pub told_less : (l : List ℕ) {h : ℕ} → h ≡ hash_of l → h < max_strings
told_less l e = rw e (hash_less l)

-- the walk at m: no string from m to k has the text of string k, and the one before m has its hash
pub record Walked (T : StringTable) (k m : ℕ) : Type 0 where
  pub low : m ≤ k
  pub same : (j : ℕ) → suc j ≡ m → hash_at T j ≡ hash_at T k
  pub later : (i : ℕ) → m ≤ i → i < k → text_of T i ≢ text_of T k

module _ {T : StringTable} where
  pub walk_start : {k m : ℕ} → LastOf T (hash_at T k) k m → Walked T k m
  walk_start l = record { low = l.low; same = l.same; later = λ i h b e. l.later i h b (ap hash_of e) }

  pub walk_step : (prior : List ℕ) {k m : ℕ} (j : ℕ) → suc j ≡ m → Linked T prior k
      → text_of T j ≢ text_of T k → Walked T k m → Walked T k (get_or prior j 0)
  walk_step prior {k} {m} j e linked f w =
      let low = w.low in
      let l = linked j (omega arith) in
      let b = l.low in
      record {
        low = omega arith;
        same = λ i z. l.same i z ∙ w.same j e;
        later = λ i h y. go i h y (dec_lt i j) (ℕ_discrete i j);
      }
    where
      go : (i : ℕ) → get_or prior j 0 ≤ i → i < k → Dec (i < j) → Dec (i ≡ j) → text_of T i ≢ text_of T k
      go i h b (yes l) d z = (linked j (omega (arith, w.low))).later i h l (ap hash_of z ∙ sym (w.same j e))
      go i h b (no l) (yes d) z = f (rw d at z)
      go i h b (no l) (no d) z = w.later i (omega arith) b z

  pub lasts_none : Lasts T (zeros 512) 0
  lasts_none = record {
    size = length-replicate {A = ℕ} 512 0;
    each = λ h l. rw (get_or_zeros 512 h)
        (record { low = omega arith; same = λ j e. absurd (omega arith); later = λ i b m. absurd (omega arith) });
  }

  -- one string more
  lasts_more : {last : List ℕ} {n : ℕ} (v : ℕ) → v ≡ n + 1 → Lasts T last n → Lasts T (set last (hash_at T n) v) (n + 1)
  lasts_more {last} {n} v ve s = record {
    size = length-set last (hash_at T n) v ∙ s.size;
    each = λ h l. go h l (ℕ_discrete h (hash_at T n));
  }
    where
      go : (h : ℕ) → h < max_strings → Dec (h ≡ hash_at T n)
          → LastOf T h (n + 1) (get_or (set last (hash_at T n) v) h 0)
      go h l (yes e) =
          rw (e, get_or-set_same last (hash_at T n) v 0 (omega (arith, s.size, hash_less (text_of T n))), ve)
          (record {
            low = omega arith;
            same = λ j z. (let y : j ≡ n = omega arith in ap (hash_at T) y);
            later = λ i b m. absurd (omega arith);
          })
      go h l (no f) =
          let o = s.each h l in
          let b = o.low in
          rw (get_or-set_other last (hash_at T n) h v 0 f)
          (record {
            low = omega arith;
            same = o.same;
            later = λ i y z. below_more (λ (x : ℕ). get_or last h 0 ≤ x → hash_at T x ≢ h)
                n (λ x u v. o.later x v u) (λ u v. f (sym v)) i z y;
          })

  -- by the hash of the next string, as it was told
  module _ {l : List ℕ} {n h : ℕ} (he : h ≡ hash_of l) (le : l ≡ text_of T n) where
    pub last_told : {last : List ℕ} → Lasts T last n → LastOf T (hash_at T n) n (get_or last h 0)
    last_told s = rw (he, le) (s.each (hash_at T n) (hash_less (text_of T n)))

    pub lasts_told : {last : List ℕ} (v : ℕ) → v ≡ n + 1 → Lasts T last n → Lasts T (set last h v) (n + 1)
    lasts_told v ve s = rw (he, le) (lasts_more v ve s)

  pub linked_more : (prior : List ℕ) {n m : ℕ} → n < length prior
      → LastOf T (hash_at T n) n m → Linked T prior n → Linked T (set prior n m) (n + 1)
  linked_more prior {n} {m} h l linked =
      below_more (λ (q : ℕ). LastOf T (hash_at T q) q (get_or (set prior n m) q 0)) n
      (λ q b. rw (get_or-set_other prior n q m 0 (λ e. omega arith)) (linked q b))
      (rw (get_or-set_same prior n m 0 h) l)
