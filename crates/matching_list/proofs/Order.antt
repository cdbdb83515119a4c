-- The marked pairs of rising definitions are rising, and they are exactly what the table marks.
use Prim.Native.Nat.{ℕ, zero, suc, ◌≤◌, ◌<◌}
use mathlib.Core.Path.{◌≡◌, refl, sym, ◌∙◌, ap, subst}
use mathlib.Core.Bool.{Bool, true, false, cond}
use mathlib.Core.List.Memᴰ
use mathlib.Core.List.{List, [], ◌∷◌, ◌++◌, Memᴰ}
use mathlib.Core.Logic.{◌⊎◌, inl, inr, ⊎_elim, ⊎_map}
use native.Mathlib.Nat.{eq-or-lt_of_le}
use native.Mathlib.Omega.{arith}
use lib.ListN.{length, get_or}
use Rattle.matching_rules.specs.Listed.{Precedes, Rising, rising_none, rising_one, rising_more, Lists}
use Rattle.matching_list.specs.Listing.{is_marked, pair_if, row_pairs, marked_pairs}

-- ---- members of two lists, one after the other

module _ {y : ℕ × ℕ} where
  mem_either : (a b : List (ℕ × ℕ)) → Memᴰ y (a ++ b) → Memᴰ y a ⊎ Memᴰ y b
  mem_either [] b m = inr m
  mem_either (x ∷ a) b m =
      ⊎_elim (λ e. inl (Memᴰ.head e))
      (λ k. ⊎_map (λ i. Memᴰ.tail i) (λ i. i) (mem_either a b k)) (Memᴰ.cases_cons m)

  mem_first : {a : List (ℕ × ℕ)} (b : List (ℕ × ℕ)) → Memᴰ y a → Memᴰ y (a ++ b)
  mem_first b (Memᴰ.head e) = Memᴰ.head e
  mem_first b (Memᴰ.tail m) = Memᴰ.tail (mem_first b m)

  mem_second : (a : List (ℕ × ℕ)) {b : List (ℕ × ℕ)} → Memᴰ y b → Memᴰ y (a ++ b)
  mem_second [] m = m
  mem_second (x ∷ a) m = Memᴰ.tail (mem_second a m)

-- the members of one list precede those of another
abbrev AllPrecede : List (ℕ × ℕ) → List (ℕ × ℕ) → Type 0
AllPrecede a b = (x y : ℕ × ℕ) → Memᴰ x a → Memᴰ y b → Precedes x y

rising_append : (a b : List (ℕ × ℕ)) → Rising a → Rising b → AllPrecede a b → Rising (a ++ b)
rising_append [] b r q f = q
rising_append (x ∷ []) [] r q f = rising_one
rising_append (x ∷ []) (y ∷ b) r q f = rising_more (f x y (Memᴰ.head refl) (Memᴰ.head refl)) q
rising_append (x ∷ z ∷ a) b (rising_more h r) q f =
    rising_more h (rising_append (z ∷ a) b r q (λ u v m. f u v (Memᴰ.tail m)))

module _ (table definitions : List ℕ) where
  -- ---- one row

  -- y is the pair of row e and definition k, which is marked
  abbrev At : ℕ → ℕ → ℕ × ℕ → Type 0
  At e d y = (y ≡ (e, d)) × (is_marked table e d ≡ true)

  if_member : (e d : ℕ) (y : ℕ × ℕ) → Memᴰ y (pair_if table e d) → At e d y
  if_member e d y = go (is_marked table e d) refl
    where
      go : (b : Bool) → is_marked table e d ≡ b → Memᴰ y (cond b ((e, d) ∷ []) []) → At e d y
      go true f m = ⊎_elim (λ z. (z, f)) (λ n. absurd (Memᴰ.not-nil n)) (Memᴰ.cases_cons m)
      go false f m = absurd (Memᴰ.not-nil m)

  if_rising : (e d : ℕ) → Rising (pair_if table e d)
  if_rising e d = go (is_marked table e d)
    where
      go : (b : Bool) → Rising (cond b ((e, d) ∷ []) [])
      go true = rising_one
      go false = rising_none

  row_member : (e n : ℕ) (y : ℕ × ℕ) → Memᴰ y (row_pairs table definitions e n)
      → (k : ℕ) × (k < n) × At e (get_or definitions k 0) y
  unfolding row_pairs
  row_member e zero y m = absurd (Memᴰ.not-nil m)
  row_member e (suc n) y m =
      ⊎_elim
      (λ i. let r = row_member e n y i in let l = r.1 in (r.0, omega arith, r.2))
      (λ i. (n, omega arith, if_member e (get_or definitions n 0) y i))
      (mem_either (row_pairs table definitions e n) (pair_if table e (get_or definitions n 0)) m)

  row_has : (e n k : ℕ) → k < n → is_marked table e (get_or definitions k 0) ≡ true
      → Memᴰ (e, get_or definitions k 0) (row_pairs table definitions e n)
  unfolding row_pairs
  row_has e zero k h f = absurd (omega arith)
  row_has e (suc n) k h f =
      ⊎_elim here (λ l. mem_first (pair_if table e (get_or definitions n 0)) (row_has e n k l f))
      (eq-or-lt_of_le (omega arith))
    where
      here : k ≡ n → Memᴰ (e, get_or definitions k 0) (row_pairs table definitions e n
          ++ pair_if table e (get_or definitions n 0))
      here z =
          mem_second (row_pairs table definitions e n)
          (rw (ap (λ (i : ℕ). is_marked table e (get_or definitions i 0)) (sym z) ∙ f, z) (Memᴰ.head refl))

  module _ (rising : (j k : ℕ) → j < k → k < length definitions → get_or definitions j 0 < get_or definitions k 0) where
    row_rising : (e n : ℕ) → n ≤ length definitions → Rising (row_pairs table definitions e n)
    unfolding row_pairs
    row_rising e zero h = rising_none
    row_rising e (suc n) h =
        rising_append (row_pairs table definitions e n) (pair_if table e (get_or definitions n 0))
        (row_rising e n (omega arith)) (if_rising e (get_or definitions n 0)) before
      where
        before : AllPrecede (row_pairs table definitions e n) (pair_if table e (get_or definitions n 0))
        before x y m i =
            let r = row_member e n x m in
            let q = if_member e (get_or definitions n 0) y i in
            let l = rising r.0 n r.1 (omega arith) in
            subst (λ (z : ℕ × ℕ). Precedes z y) (sym r.2.0)
            (subst (Precedes (e, get_or definitions r.0 0)) (sym q.0) (inr (refl, l)))

    -- ---- all rows

    marked_member : (n : ℕ) (y : ℕ × ℕ) → Memᴰ y (marked_pairs table definitions n)
        → (e : ℕ) × (e < n) × (k : ℕ) × (k < length definitions) × At e (get_or definitions k 0) y
    unfolding marked_pairs
    marked_member zero y m = absurd (Memᴰ.not-nil m)
    marked_member (suc n) y m =
        ⊎_elim
        (λ i. let r = marked_member n y i in let l = r.1 in (r.0, omega arith, r.2, r.3, r.4))
        (λ i. let r = row_member n (length definitions) y i in (n, omega arith, r.0, r.1, r.2))
        (mem_either (marked_pairs table definitions n) (row_pairs table definitions n (length definitions)) m)

    marked_has : (n e k : ℕ) → e < n → k < length definitions → is_marked table e (get_or definitions k 0) ≡ true
        → Memᴰ (e, get_or definitions k 0) (marked_pairs table definitions n)
    unfolding marked_pairs
    marked_has zero e k h l f = absurd (omega arith)
    marked_has (suc n) e k h l f =
        ⊎_elim
        (λ (z : e ≡ n). mem_second (marked_pairs table definitions n) (rw (← z) (row_has e (length definitions) k l f)))
        (λ (i : e < n). mem_first (row_pairs table definitions n (length definitions)) (marked_has n e k i l f))
        (eq-or-lt_of_le (omega arith))

    pub marked_rising : (n : ℕ) → Rising (marked_pairs table definitions n)
    unfolding marked_pairs
    marked_rising zero = rising_none
    marked_rising (suc n) =
        rising_append (marked_pairs table definitions n) (row_pairs table definitions n (length definitions))
        (marked_rising n) (row_rising n (length definitions) (omega arith)) before
      where
        before : AllPrecede (marked_pairs table definitions n) (row_pairs table definitions n (length definitions))
        before x y m i =
            let r = marked_member n x m in
            let q = row_member n (length definitions) y i in
            let l = r.1 in
            subst (λ (z : ℕ × ℕ). Precedes z y) (sym r.4.0)
            (subst (Precedes (r.0, get_or definitions r.2 0)) (sym q.2.0) (inl l))

    -- the marked pairs list P, where P holds of a row and a row of the schema exactly if that is one of the definitions
    -- and marked
    pub marked_lists : (P : ℕ → ℕ → Type 0) (n : ℕ) → ((e k : ℕ) → e < n → k < length definitions
        → is_marked table e (get_or definitions k 0) ≡ true → P e (get_or definitions k 0))
        → ((e d : ℕ) → P e d → (e < n) × (k : ℕ) × (k < length definitions) × (get_or definitions k 0 ≡ d)
        × (is_marked table e d ≡ true)) → Lists P (marked_pairs table definitions n)
    marked_lists P n sound complete = record { sound = to; complete = from }
      where
        to : (e d : ℕ) → Memᴰ (e, d) (marked_pairs table definitions n) → P e d
        to e d m =
            let r = marked_member n (e, d) m in
            subst (λ (y : ℕ × ℕ). P y.0 y.1) (sym r.4.0) (sound r.0 r.2 r.1 r.3 r.4.1)

        from : (e d : ℕ) → P e d → Memᴰ (e, d) (marked_pairs table definitions n)
        from e d p =
            let r = complete e d p in
            subst (λ (x : ℕ). Memᴰ (e, x) (marked_pairs table definitions n)) r.3
            (marked_has n e r.1 r.0 r.2 (subst (λ (x : ℕ). is_marked table e x ≡ true) (sym r.3) r.4))
