-- Words that hold a relation: they are unique; and the loops that write the first m words, from the last to the first.
use mathlib.Core.Path.{◌≡◌, refl, sym, subst, ap, ◌∙◌}
use mathlib.Core.Bool.{Bool, true, false}
use mathlib.Core.List.{List, ◌++◌}
use mathlib.Core.Logic.{⊎_elim, ◌↔◌}
use Prim.Native.Nat.{ℕ, ◌+◌, ◌-◌, ◌≤◌, ◌<◌}
use native.Mathlib.Nat.{eq-or-lt_of_le}
use native.Mathlib.Decide.{dec_lt}
use native.Mathlib.Omega.{arith}
use lib.ListN.{length, get_or, set, take, drop, length-set, length-take, take-append-drop, get_or-eq_default}
use lib.Seq.{get_or-set_same, get_or-set_other, get_or-take, get_or-drop, drop-drop, drop-set-lt, ext_get_or}
use Rattle.tables.proofs.Numbers.{not_less}
use Rattle.sets.specs.Bits.{positions, bit}
use Rattle.relations.specs.Relations.{Relation}
use Rattle.relations.specs.Words.{WordsRelate, Is, front, next, WordRoom, Rest, Up}
use Rattle.sets.proofs.Bits.{bit_ext}
use Rattle.sets.proofs.Members.{none_has}

pub is_map : {ws : List ℕ} {R S : Relation} → Is ws R → ((i j : ℕ) → R i j ↔ S i j) → Is ws S
is_map is same =
    record { sound = λ i j e. (same i j).0 (is.sound i j e); complete = λ i j s. is.complete i j ((same i j).1 s) }

-- words that hold a relation that goes up go up
pub is_up : {ws : List ℕ} {R : Relation} → Is ws R → Up R → Up (WordsRelate ws)
is_up is up i j e = up i j (is.sound i j e)

same_bool : (x y : Bool) → (x ≡ true → y ≡ true) → (y ≡ true → x ≡ true) → x ≡ y
same_bool true y f g = sym (f refl)
same_bool false true f g = g refl
same_bool false false f g = refl

-- lists of words of one length that hold one relation are equal
pub is_unique : {a b : List ℕ} {R : Relation} → Is a R → Is b R → length a ≡ length b → a ≡ b
is_unique {a} {b} x y l =
    ext_get_or 0 a b l
    (λ i h. bit_ext (get_or a i 0) (get_or b i 0) (λ j. same_bool (bit (get_or a i 0) j) (bit (get_or b i 0) j)
    (λ e. y.complete i j (x.sound i j e)) (λ e. x.complete i j (y.sound i j e))))

-- ---- the words of the first relation, and of the next

-- a word that has a member is one of the list's
word_below : (ws : List ℕ) (i j : ℕ) → WordsRelate ws i j → i < length ws
word_below ws i j e = go (dec_lt i (length ws))
  where
    go : Dec (i < length ws) → i < length ws
    go (yes l) = l
    go (no f) = absurd (none_has j (sym (ap (λ (x : ℕ). bit x j) (get_or-eq_default ws 0 (not_less f))) ∙ e))

module _ (m : ℕ) (w : List ℕ) (i : ℕ) where
  pub front_below : (j : ℕ) → WordsRelate (front m w) i j → i < m
  front_below j e = omega (arith, word_below (front m w) i j e, length-take m w)

  pub front_at : i < m → get_or (front m w) i 0 ≡ get_or w i 0
  front_at h = get_or-take m w i 0 h

  pub next_at : i < m → get_or (next m w) i 0 ≡ get_or w (positions + i) 0
  next_at h = get_or-take m (drop positions w) i 0 h ∙ get_or-drop positions w i 0

pub room_front : {m : ℕ} {w : List ℕ} → WordRoom m (positions + m) w → WordRoom m m w
room_front r = record { few = r.few; room = omega (arith, r.room) }

-- ---- the words from m on

-- a store before m keeps them
rest_set : {m : ℕ} {w₀ w : List ℕ} {i : ℕ} (v : ℕ) → Rest m w₀ w → i < m → Rest m w₀ (set w i v)
rest_set {m} {w = w} {i = i} v g h =
    record { size = length-set w i v ∙ g.size; past = drop-set-lt m w i v h ∙ g.past }

-- the relation of the first m words and the rest fix every word
pub rest_unique : {m : ℕ} {w a b : List ℕ} {R : Relation}
    → Is (front m a) R → Is (front m b) R → Rest m w a → Rest m w b → a ≡ b
rest_unique {m} {a = a} {b = b} x y p q =
    let n : length a ≡ length b = p.size ∙ sym q.size in
    let l : length (take m a) ≡ length (take m b) = omega (arith, n, length-take m a, length-take m b) in
    sym (take-append-drop m a)
    ∙ ap (λ (v : List ℕ). v ++ drop m a) (is_unique x y l)
    ∙ ap (λ (v : List ℕ). take m b ++ v) (p.past ∙ sym q.past)
    ∙ take-append-drop m b

-- ---- the loops

-- v is the word of R at i
pub record Row (R : Relation) (i v : ℕ) : Type 0 where
  pub sound : (j : ℕ) → bit v j ≡ true → R i j
  pub complete : (j : ℕ) → R i j → bit v j ≡ true

-- of the first m words those from i on are those of R, the others are as they were, and so are the words from m on
pub record WrittenWords (m : ℕ) (R : Relation) (w₀ w : List ℕ) (i : ℕ) : Type 0 where
  pub given : WordRoom m m w₀
  pub within : i ≤ m
  pub before : (k : ℕ) → k < i → get_or w k 0 ≡ get_or w₀ k 0
  pub rest : Rest m w₀ w
  pub rows : (k : ℕ) → i ≤ k → k < m → Row R k (get_or w k 0)

pub write_none : {m : ℕ} {R : Relation} {w : List ℕ} → WordRoom m m w → WrittenWords m R w w m
write_none f = record {
  given = f;
  within = omega arith;
  before = λ k h. refl;
  rest = record { size = refl; past = refl };
  rows = λ k h n. absurd (omega arith);
}

pub write_more : {m : ℕ} {R : Relation} {w₀ w : List ℕ} {i k v : ℕ}
    → WrittenWords m R w₀ w i → i ≡ k + 1 → Row R k v → WrittenWords m R w₀ (set w k v) k
write_more {m} {R} {w₀} {w} {i} {k} {v} g e row = record {
  given = g.given;
  within = omega (arith, g.within);
  before = λ n h. get_or-set_other w k n v 0 (λ q. omega arith) ∙ g.before n (omega arith);
  rest = rest_set v g.rest (omega (arith, g.within));
  rows = λ n h l. ⊎_elim (here n) (there n l) (eq-or-lt_of_le h);
}
  where
    here : (n : ℕ) → k ≡ n → Row R n (get_or (set w k v) n 0)
    here n q =
        subst (λ (x : ℕ). Row R x (get_or (set w k v) x 0)) q
        (subst (Row R k) (sym (get_or-set_same w k v 0 (omega (arith, g.rest.size, g.given.room, g.within, e)))) row)

    there : (n : ℕ) → n < m → k < n → Row R n (get_or (set w k v) n 0)
    there n l h =
        subst (Row R n) (sym (get_or-set_other w k n v 0 (λ q. omega (arith, q, h)))) (g.rows n (omega (arith, e, h)) l)

-- the next relation is as it was, and so is a word of it
pub next_kept : {m : ℕ} {R : Relation} {w₀ w : List ℕ} {i : ℕ}
    → WrittenWords m R w₀ w i → drop positions w ≡ drop positions w₀
next_kept {m} {w₀ = w₀} {w = w} g = sym (past w) ∙ ap (drop (positions - m)) g.rest.past ∙ past w₀
  where
    past : (l : List ℕ) → drop (positions - m) (drop m l) ≡ drop positions l
    past l =
        let n : m + (positions - m) ≡ positions = omega (arith, g.given.few) in
        drop-drop (positions - m) m l ∙ ap (λ (n : ℕ). drop n l) n

pub kept : {m : ℕ} {R : Relation} {w₀ w : List ℕ} {i : ℕ} (g : WrittenWords m R w₀ w i) (k : ℕ)
    → get_or w (positions + k) 0 ≡ get_or w₀ (positions + k) 0
kept {w₀ = w₀} {w = w} g k =
    sym (get_or-drop positions w k 0) ∙ ap (λ (l : List ℕ). get_or l k 0) (next_kept g) ∙ get_or-drop positions w₀ k 0

pub written : {m : ℕ} {R : Relation} {w₀ w : List ℕ} {i : ℕ}
    → WrittenWords m R w₀ w i → i ≤ 0 → ((k j : ℕ) → R k j → k < m) → Is (front m w) R
written {m} {R} {w₀} {w} {i} g z low = record {
  sound = λ k j e. let l = front_below m w k j e in
      (g.rows k (omega arith) l).sound j (sym (ap (λ (x : ℕ). bit x j) (front_at m w k l)) ∙ e);
  complete = λ k j r. let l = low k j r in
      ap (λ (x : ℕ). bit x j) (front_at m w k l) ∙ (g.rows k (omega arith) l).complete j r;
}
