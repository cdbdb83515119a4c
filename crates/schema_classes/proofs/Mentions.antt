-- What a class mentions, by the kind of its row.
use Prim.Native.Nat.{ℕ, ◌<◌}
use mathlib.Core.Path.{◌≡◌, refl, sym, ◌∙◌, ap}
use mathlib.Core.Bool.{true, ◌&&◌, false≢true}
use mathlib.Core.Logic.{◌⊎◌, inl, inr, ⊎_elim}
use mathlib.Core.List.{List}
use native.Mathlib.Omega.{arith}
use lib.Dec.{ltb}
use Rattle.schema.specs.Kinds as kind
use Rattle.schema.specs.Relations.{Child, by_a, by_b}
use Rattle.schema.specs.Rows.{kind_of, shape_of, sort_of, is_class, names}
use Rattle.schema.proofs.Children.{child_less}
use Rattle.schema.proofs.Sorts.{ClassKind, any_name, ns_name, one_name, name_choice_lem, class_kind}
use Rattle.schema_classes.specs.Made.{RowIn, itself, within}
use Rattle.schema_classes.specs.Search.{NsNameMentions, NameMentions, RowMentions, by_ns_name, by_name}
use Rattle.schema_classes.specs.Search.{Mentions, MentionsBelow}
use Rattle.schema_classes.specs.declared.Part.{Part}
use Rattle.schema_classes.proofs.ClassRows.{no_part, child_a_lem, child_b_lem}
use Rattle.schema_classes.proofs.Holds.{Read}
use Rattle.schema_classes.proofs.Smallest.{Union}

module _ (s : List ℕ) where
  pub mention_class : {r v : ℕ} {part : Part} → RowMentions s part v r → is_class (sort_of s r) ≡ true
  unfolding shape_of
  mention_class (by_ns_name k m) = ap (λ (i : ℕ). is_class (shape_of i).sort) k
  mention_class (by_name k m) = ap (λ (i : ℕ). is_class (shape_of i).sort) k

  -- a row that mentions something is in nothing but classes
  class_above : {r c : ℕ} → RowIn s r c → is_class (sort_of s r) ≡ true → is_class (sort_of s c) ≡ true
  class_above itself h = h
  class_above (within k m i) h = k

  module _ (part : Part) where
    -- through a child
    through : {c m v : ℕ} → is_class (sort_of s c) ≡ true → Child s m c → Mentions s part m v → Mentions s part c v
    through k h m = record { row = m.row; inside = within k h m.inside; has = m.has }

    abbrev Own : ℕ → ℕ → Type 0
    Own c v = RowMentions s part v c

    own : {c v : ℕ} → Own c v → Mentions s part c v
    own {c} m = record { row = c; inside = itself; has = m }

    -- a class mentions what its own row does, and what its children do
    parts : {c v : ℕ} → Mentions s part c v → Own c v ⊎ ((m : ℕ) × Child s m c × Mentions s part m v)
    parts {c} {v} m = go m.inside m.has
      where
        go : {r : ℕ} → RowIn s r c → RowMentions s part v r
            → Own c v ⊎ ((m : ℕ) × Child s m c × Mentions s part m v)
        go itself m = inl m
        go {r} (within {m = m} k h i) n = inr (m, h, record { row = r; inside = i; has = n })

    -- the field x of a class, if it can name a class
    module _ {c x : ℕ} (class : is_class (sort_of s c) ≡ true)
        (child : x < c → is_class (sort_of s x) ≡ true → Child s x c) where
      by_field : (v : ℕ) → MentionsBelow s part c x v → Mentions s part c v
      by_field v (h, m) = through class (child h (class_above m.inside (mention_class m.has))) m

    in_field : {c x m v : ℕ} → x ≡ m → Child s m c → Mentions s part m v → MentionsBelow s part c x v
    in_field e h m = (rw e (child_less h), rw e m)

    -- a class by its kind k and its fields a and b, as they are read
    module _ {c k a b : ℕ} (read : Read s c k a b) where
      class_row : (j : ℕ) → k ≡ j → is_class (shape_of j).sort ≡ true → is_class (sort_of s c) ≡ true
      class_row j e y = ap (λ (i : ℕ). is_class (shape_of i).sort) (sym read.kind ∙ e) ∙ y

      no_own : ¬ (k ≡ kind.ns_name) → ¬ (k ≡ kind.name) → {v : ℕ} → ¬ Own c v
      no_own m n (by_ns_name e x) = m (read.kind ∙ e)
      no_own m n (by_name e x) = n (read.kind ∙ e)

      any_child : k ≡ kind.any_name → {m : ℕ} → Child s m c → a ≡ m
      unfolding shape_of
      any_child e (by_a h f) = read.first ∙ f
      any_child e (by_b h f) = absurd (false≢true (rw (sym read.kind ∙ e) at h))

      ns_child : k ≡ kind.ns_name → {m : ℕ} → Child s m c → b ≡ m
      unfolding shape_of
      ns_child e (by_a h f) = absurd (false≢true (rw (sym read.kind ∙ e) at h))
      ns_child e (by_b h f) = read.second ∙ f

      -- a field of a kind j that can name a class
      parent_a : (j : ℕ) → ((x : ℕ) → names s c (shape_of j).a x ≡ (ltb x c && is_class (sort_of s x))) → k ≡ j
          → a < c → is_class (sort_of s a) ≡ true → Child s a c
      parent_a j f e h i =
          rw read.first
          (child_a_lem s c j f (sym read.kind ∙ e) (rw (← read.first) h) (rw (← read.first) i))

      parent_b : (j : ℕ) → ((x : ℕ) → names s c (shape_of j).b x ≡ (ltb x c && is_class (sort_of s x))) → k ≡ j
          → b < c → is_class (sort_of s b) ≡ true → Child s b c
      parent_b j f e h i =
          rw read.second
          (child_b_lem s c j f (sym read.kind ∙ e) (rw (← read.second) h) (rw (← read.second) i))

      -- the except of an anyName
      pub of_any : k ≡ kind.any_name → (v : ℕ) → MentionsBelow s part c a v → Mentions s part c v
      unfolding shape_of
      of_any e = by_field (class_row kind.any_name e refl) (parent_a kind.any_name (λ x. refl) e)

      pub any_of : k ≡ kind.any_name → (v : ℕ) → Mentions s part c v → MentionsBelow s part c a v
      any_of e v m =
          ⊎_elim (λ x. absurd (no_own (λ f. omega arith) (λ f. omega arith) x))
          (λ (n, h, x). in_field (any_child e h) h x) (parts m)

      -- the namespace and the except of an nsName
      pub of_ns : k ≡ kind.ns_name → Union (Mentions s part c) (NsNameMentions a part) (MentionsBelow s part c b)
      unfolding shape_of
      of_ns e = record {
        first = λ v m. own (by_ns_name (sym read.kind ∙ e) (rw (← read.first) m));
        second = by_field (class_row kind.ns_name e refl) (parent_b kind.ns_name (λ x. refl) e);
        split = λ v m. ⊎_elim (λ x. inl (itself x)) (λ (n, h, x). inr (in_field (ns_child e h) h x)) (parts m);
      }
        where
          itself : {v : ℕ} → Own c v → NsNameMentions a part v
          itself (by_ns_name f m) = rw read.first m
          itself (by_name f m) = absurd (let g = read.kind ∙ f in omega arith)

      pub of_name : k ≡ kind.name → (v : ℕ) → NameMentions a b part v → Mentions s part c v
      of_name e v m = own (by_name (sym read.kind ∙ e) (rw (← read.first, ← read.second) m))

      pub name_of : k ≡ kind.name → (v : ℕ) → Mentions s part c v → NameMentions a b part v
      name_of e v m = ⊎_elim itself (λ (n, h, x). absurd (no_part (sym read.kind ∙ e) h)) (parts m)
        where
          itself : Own c v → NameMentions a b part v
          itself (by_ns_name f m) = absurd (let g = read.kind ∙ f in omega arith)
          itself (by_name f m) = rw (read.first, read.second) m

      -- the two members of a choice
      pub of_choice : k ≡ kind.name_choice
          → Union (Mentions s part c) (MentionsBelow s part c a) (MentionsBelow s part c b)
      unfolding shape_of
      of_choice e = record {
        first = by_field (class_row kind.name_choice e refl) (parent_a kind.name_choice (λ x. refl) e);
        second = by_field (class_row kind.name_choice e refl) (parent_b kind.name_choice (λ x. refl) e);
        split = λ v m. ⊎_elim (λ x. absurd (no_own (λ f. omega arith) (λ f. omega arith) x))
            (λ (n, h, x). member h x) (parts m);
      }
        where
          member : {v n : ℕ} → Child s n c → Mentions s part n v
              → MentionsBelow s part c a v ⊎ MentionsBelow s part c b v
          member (by_a h f) m = inl (in_field (read.first ∙ f) (by_a h f) m)
          member (by_b h f) m = inr (in_field (read.second ∙ f) (by_b h f) m)

      -- a row that is no class
      pub of_no_class : ¬ (k ≡ kind.any_name) → ¬ (k ≡ kind.ns_name) → ¬ (k ≡ kind.name) → ¬ (k ≡ kind.name_choice)
          → (v : ℕ) → ¬ Mentions s part c v
      of_no_class i j n o v m = go (class_kind s c (class_above m.inside (mention_class m.has)))
        where
          go : ClassKind (kind_of s c) → ⊥
          go (any_name e) = i (read.kind ∙ e)
          go (ns_name e) = j (read.kind ∙ e)
          go (one_name e) = n (read.kind ∙ e)
          go (name_choice_lem e) = o (read.kind ∙ e)
