-- Words that hold a relation under a condition, and the repetitions of a relation.
use Prim.Native.Nat.{ℕ, ◌-◌, ◌^◌, ◌≤◌, ◌<◌}
use mathlib.Core.Path.{◌≡◌, sym, ap, ◌∙◌, subst}
use mathlib.Core.Bool.{true}
use mathlib.Core.List.{List, ◌++◌}
use mathlib.Core.Logic.{inl, inr, ⊎_map}
use native.Mathlib.Omega.{arith}
use lib.Bits.{bit_and}
use lib.Count.{ones}
use lib.ListN.{length, take}
use lib.Seq.{drop_at, take-append-le, take-take, length-take-le}
use borrow.Rule.Slice.PartMut.{put_mid, post_of, take_put}
use Rattle.sets.specs.Bits.{positions, bit}
use Rattle.relations.specs.Relations.{Relation, Or, Plus}
use Rattle.relations.specs.Words.{WordsRelate, Is, Empty, Gap, front, next}
use Rattle.sets.proofs.Bits.{subset_test}
use Rattle.sets.proofs.Members.{none_has}
use Rattle.sets.proofs.Ones.{one_member}
use Rattle.matching.specs.Parts.{Where, OneIn, Subset, Repetition}

-- ---- a condition that holds, and one that fails

module _ {P : Type 0} {R : Relation} {w : List ℕ} where
  pub where_holds : P → Is w R → Is w (Where P R)
  where_holds h is = record { sound = λ i j e. (h, is.sound i j e); complete = λ i j r. is.complete i j r.1 }

  pub where_fails : ¬ P → Is w Empty → Is w (Where P R)
  where_fails h is = record { sound = λ i j e. absurd (is.sound i j e); complete = λ i j r. absurd (h r.0) }

-- one attribute by the count of a, which is a marked one by the test of a & !marked
module _ (a marked : ℕ) (ha : a < 2 ^ 64) (hm : marked < 2 ^ 64) where
  pub one_in : ones a ≡ 1 → bit_and a (2 ^ 64 - 1 - marked) ≡ 0 → OneIn a marked
  one_in c z = let o = (one_member a).0 c in (o.0, o.1, (subset_test 64 a marked ha hm).0 z o.0 o.1.member)

  pub one_in_counts : OneIn a marked → ones a ≡ 1
  one_in_counts o = (one_member a).1 (o.0, o.1)

  pub one_in_tests : OneIn a marked → bit_and a (2 ^ 64 - 1 - marked) ≡ 0
  one_in_tests o =
      (subset_test 64 a marked ha hm).1 (λ x h. subst (λ (y : ℕ). bit marked y ≡ true) (sym (o.1.only x h)) o.2)

-- ---- a run of words of which the part from 64 on was lent, and came back as u

module _ {m : ℕ} (few : m ≤ positions) (n : ℕ) (v u : List ℕ) (room : positions ≤ length v) where
  pub front_put : front m (put_mid 64 n v u) ≡ front m v
  front_put = sym (take-take m 64 (put_mid 64 n v u) few) ∙ ap (take m) (take_put 64 n v u room) ∙ take-take m 64 v few

  pub next_put : m ≤ length u → next m (put_mid 64 n v u) ≡ front m u
  next_put h =
      ap (take m) (drop_at (take 64 v) (u ++ post_of 64 n v) 64 (length-take-le 64 v room))
      ∙ take-append-le m u (post_of 64 n v) h

-- ---- repetitions

module _ (m a k alone : ℕ) (R : Relation) (ha : a < 2 ^ 64) (hl : alone < 2 ^ 64) where
  within : bit_and a (2 ^ 64 - 1 - alone) ≡ 0 → Subset a alone
  within z = (subset_test 64 a alone ha hl).0 z

  pub repeats_none : {w : List ℕ} → ¬ (bit_and a (2 ^ 64 - 1 - alone) ≡ 0) → Is w Empty
      → Is w (Repetition m a k alone R)
  repeats_none n is = where_fails (λ h. n ((subset_test 64 a alone ha hl).1 h)) is

  pub repeats_items : {w : List ℕ} → a ≡ 0 → Is w (Plus R) → Is w (Repetition m a k alone R)
  repeats_items z is =
      where_holds (λ x h. absurd (none_has x (subst (λ (n : ℕ). bit n x ≡ true) z h)))
      (record {
        sound = λ i j e. inl (is.sound i j e);
        complete = λ i j r. elim r [ inl q ↦ is.complete i j q | inr g ↦ absurd (let l = g.0 in omega arith) ];
      })

  pub repeats_beside : m ≤ positions → (n : ℕ) (v u : List ℕ) {w : List ℕ}
      → positions ≤ length v → m ≤ length u → bit_and a (2 ^ 64 - 1 - alone) ≡ 0 → 0 < a
      → Is (front m v) (Plus R) → Is (front m u) (Gap m k)
      → Is w (Or (WordsRelate (front m (put_mid 64 n v u))) (WordsRelate (next m (put_mid 64 n v u))))
      → Is w (Repetition m a k alone R)
  repeats_beside few n v u {w} hv hu z l is₁ is₂ is =
      let both : Is w (Or (WordsRelate (front m v)) (WordsRelate (front m u))) =
      rw (front_put few n v u hv, next_put few n v u hv hu) at is in
      where_holds (within z)
      (record {
        sound = λ i j e. ⊎_map (is₁.sound i j) (λ g. (l, is₂.sound i j g)) (both.sound i j e);
        complete = λ i j r. both.complete i j (⊎_map (is₁.complete i j) (λ g. is₂.complete i j g.1) r);
      })
