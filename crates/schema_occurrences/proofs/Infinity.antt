-- A name class that is infinite is one itself or has an infinite child.
use mathlib.Core.Path.{◌≡◌, ◌∙◌, sym}
use mathlib.Core.Bool.{true, false≢true}
use mathlib.Core.List.{List}
use Prim.Native.Nat.{ℕ}
use borrow.Author.Tests.{ne_eqb}
use Rattle.schema.specs.Kinds as kind
use Rattle.schema.specs.Rows.{kind_of}
use Rattle.schema.specs.Relations.{Child, Below, child, deeper}
use Rattle.schema_occurrences.specs.Attributes.{is_wildcard, Infinite, of_wildcard, has_wildcard}
use Rattle.schema_occurrences.proofs.Descent.{ByChildren}

pub any_name_infinite : (s : List ℕ) (c : ℕ) {k : ℕ} → k ≡ kind_of s c → k ≡ kind.any_name → Infinite s c
any_name_infinite s c e f = of_wildcard (rw (sym e ∙ f))

pub ns_name_infinite : (s : List ℕ) (c : ℕ) {k : ℕ} → k ≡ kind_of s c → k ≡ kind.ns_name → Infinite s c
ns_name_infinite s c e f = of_wildcard (rw (sym e ∙ f))

pub by_children : (s : List ℕ) (c : ℕ) {k : ℕ} → k ≡ kind_of s c
    → (k ≡ kind.any_name → ⊥) → (k ≡ kind.ns_name → ⊥) → ByChildren s (Infinite s) c
by_children s c e f g = record { up = up; down = down }
  where
    up : (q : ℕ) → Child s q c → Infinite s q → Infinite s c
    up q h (of_wildcard w) = has_wildcard q (child h) w
    up q h (has_wildcard d b w) = has_wildcard d (deeper h b) w

    below : {d : ℕ} → Below s d c → is_wildcard (kind_of s d) ≡ true → (q : ℕ) × Child s q c × Infinite s q
    below {d} (child h) w = (d, h, of_wildcard w)
    below {d} (deeper {q = q} h b) w = (q, h, has_wildcard d b w)

    down : Infinite s c → (q : ℕ) × Child s q c × Infinite s q
    down (of_wildcard w) =
        absurd (false≢true (sym
        (rw (ne_eqb (kind_of s c) kind.any_name (λ x. f (e ∙ x)), ne_eqb (kind_of s c) kind.ns_name (λ x. g (e ∙ x))))
        ∙ w))
    down (has_wildcard d b w) = below b w
