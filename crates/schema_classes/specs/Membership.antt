-- Name classes: which names a class holds, by the rules of ISO/IEC 19757-2, 9.2. A name u, l has namespace
-- number u and local number l.
use Rattle.std.specs.Prelude.{ℕ, Bool, true, false, not, ◌&&◌, ◌||◌, List, ltb, eqb}
use Rattle.schema.specs.Falling.{falling}
use Rattle.schema.specs.Views.{NameClass, any_name, any_name_except, ns_name}
use Rattle.schema.specs.Views.{ns_name_except, name, name_choice, no_class, class_of}

-- whether the name u, l is in a class, by what the classes at smaller rows hold
abbrev pub member_by : (ℕ → Bool) → ℕ → ℕ → NameClass → Bool
member_by holds u l any_name = true
member_by holds u l (any_name_except c) = not (holds c)
member_by holds u l (ns_name v) = eqb u v
member_by holds u l (ns_name_except v c) = eqb u v && not (holds c)
member_by holds u l (name v k) = eqb u v && eqb l k
member_by holds u l (name_choice c d) = holds c || holds d
member_by holds u l no_class = false

unfoldable pub holds : List ℕ → ℕ → ℕ → ℕ → Bool
holds s u l c = falling (λ row below. member_by below u l (class_of s row)) c

-- no class has a name whose local number is 0
abbrev pub in_class : List ℕ → ℕ → ℕ → ℕ → Bool
in_class s u l c = ltb 0 l && holds s u l c
