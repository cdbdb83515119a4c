-- A table that is filled with one entry, or holds a run and then one entry throughout, over any type of entries.
use mathlib.Core.Path.{◌≡◌, refl, sym, ◌∙◌}
use mathlib.Core.List.{List, [], ◌∷◌, ◌++◌}
use Prim.Native.Nat.{ℕ, zero, suc, ◌<◌}
use native.Mathlib.Omega.{arith}
use lib.ListN.{length, get_or, take, replicate, length-append, length-replicate}
use lib.Seq.{length-take-le, get_or-take, ext_get_or}

module _ {A : Type 0} (z : A) where
  -- past the end of a list z is read, as in the entries z that follow it
  pub get_or_replicate : (n i : ℕ) → get_or (replicate n z) i z ≡ z
  get_or_replicate zero i = refl
  get_or_replicate (suc n) zero = refl
  get_or_replicate (suc n) (suc i) = get_or_replicate n i

  pub get_or_run : (run : List A) (n i : ℕ) → get_or (run ++ replicate n z) i z ≡ get_or run i z
  get_or_run [] n i = get_or_replicate n i
  get_or_run (x ∷ run) n zero = refl
  get_or_run (x ∷ run) n (suc i) = get_or_run run n i

  -- a list of n entries that are all z
  pub all_entries : {n : ℕ} (out : List A) → length out ≡ n → ((k : ℕ) → k < n → get_or out k z ≡ z)
      → out ≡ replicate n z
  all_entries {n} out size at =
      ext_get_or z out (replicate n z) (size ∙ sym (length-replicate n z))
      (λ k l. at k (omega (arith, size)) ∙ sym (get_or_replicate n k))

  -- a list of n entries that are those of a run, and z after them
  pub run_entries : {n : ℕ} (run out : List A) → length out ≡ n
      → ((k : ℕ) → k < n → get_or out k z ≡ get_or run k z) → out ≡ take n (run ++ replicate n z)
  run_entries {n} run out size at =
      ext_get_or z out (take n (run ++ replicate n z))
      (size ∙ sym (length-take-le n (run ++ replicate n z) (simp (length-append, length-replicate) (omega arith))))
      (λ k l. at k (omega (arith, size))
      ∙ sym (get_or-take n (run ++ replicate n z) k z (omega (arith, size)) ∙ get_or_run run n k))
