-- The pairs of an element and a definition, and validity, by computation; the model decides them for a schema that
-- passes and an instance that is right.
use Prim.Native.Nat.{ℕ, zero, suc, ◌-◌, ◌≤◌, ◌<◌}
use mathlib.Core.Path.{◌≡◌, refl, sym, ◌∙◌, subst}
use mathlib.Core.Bool.{Bool, true, false, ◌&&◌, ◌||◌, true≢false, false≢true}
use mathlib.Core.List.{List, [], ◌∷◌, Memᴰ}
use mathlib.Core.Logic.Iff
use mathlib.Core.Logic.{inl, inr, ◌↔◌}
use native.Mathlib.Omega.{arith}
use lib.ListN.{length, get_or}
use Rattle.tables.specs.Tables.{Tables}
use Rattle.strings.specs.Strings.{StringsRight, schema_strings, instance_strings}
use Rattle.datatypes.specs.Whitespace.{normalize_white_space}
use Rattle.schema.specs.Kinds as kind
use Rattle.schema.specs.Rows.{shape_of}
use Rattle.schema.specs.Rows as schema
use Rattle.schema.specs.Relations.{by_b}
use Rattle.schema.proofs.Children.{child_less}
use Rattle.schema.proofs.Fields.{pattern_b}
use Rattle.schema.proofs.RowLaws.{in_table, right_size}
use Rattle.schema.proofs.Sorts.{definition_kind}
use Rattle.instance.specs.Nodes.{nodes_of}
use Rattle.instance.specs.NodeRule.{NodesRight}
use Rattle.instance.proofs.Elements.{attribute_later, attributes_differ}
use Rattle.schema_restrictions.specs.Schema.{SchemaPasses}
use Rattle.matching_rules.specs.Items.{Item, element, string, Attributes, no_attributes, Lookups}
use Rattle.matching_rules.specs.Rules.{OkAsChildren, Match, WeakMatch, NotMatchBy}
use Rattle.matching_rules.specs.Job.{datatype_equal, lookups, start_row, Valid}
use Rattle.tables.proofs.Booleans.{and_left, and_right, both_and}
use Rattle.matching_rules.proofs.Children.{children_ok, child_element}
use Rattle.matching_rules.specs.Spans.{Paired, Distinct, run}
use Rattle.matching_rules.proofs.OneElement.{no_element, stripped_clean, weak_empty, weak_string, weak_span}
use Rattle.matching_rules.proofs.Passing.{restricted}
use Rattle.matching_rules.proofs.Paths.{start_child}
use Rattle.matching_rules.specs.Restricted.{Restricted, Sequential}
use Rattle.matching_rules.proofs.Runs.{run_list}
use Rattle.matching_rules.proofs.Sequences.{has_element}
use Rattle.matching_rules.proofs.Spans.{span_whole}
use Rattle.matching_rules.proofs.Stripping.{not_whitespace}
use Rattle.cases.proofs.StringTests.{same_text, same_text_lem, text_same}
use Rattle.cases.proofs.Model.{Test, all, string_test, nothing_test, span_test}
use Rattle.cases.proofs.ModelParts.{both_decide, either_decides, Bound}
use Rattle.cases.proofs.ModelIsRules.{Fits, Decided, string_decided, nothing_decided, span_decided}

abbrev pub equal_test : ℕ → List ℕ → List ℕ → Bool
equal_test zero s₁ s₂ = same_text s₁ s₂
equal_test (suc n) s₁ s₂ = same_text (normalize_white_space s₁) (normalize_white_space s₂)

equals : (t : ℕ) (s₁ s₂ : List ℕ) → (equal_test t s₁ s₂ ≡ true) ↔ datatype_equal t s₁ s₂
equals zero s₁ s₂ = (text_same s₁ s₂, same_text_lem s₁ s₂)
equals (suc n) s₁ s₂ = (
  text_same (normalize_white_space s₁) (normalize_white_space s₂),
  same_text_lem (normalize_white_space s₁) (normalize_white_space s₂),
)

-- the item at a position
abbrev item_at : List Item → ℕ → Item
item_at m k = get_or m k (string [])

item_member : (m : List Item) (k x : ℕ) → item_at m k ≡ element x → Memᴰ (element x) m
item_member [] k x e = let z : ◌≡◌ {A = ℕ} 0 1 = cc in absurd (omega arith)
item_member (y ∷ m) zero x e = Memᴰ.head (sym e)
item_member (y ∷ m) (suc k) x e = Memᴰ.tail (item_member m k x e)

module _ (L : Lookups) where
  -- the weak matches: without an element among the children, and with one
  abbrev bare_test : Test → Attributes → ℕ → List Item → Bool
  bare_test rec A p [] = nothing_test rec A p || string_test rec A p []
  bare_test rec A p (string x ∷ m) = string_test rec A p x || L.whitespace x && nothing_test rec A p
  bare_test rec A p (element x ∷ m) = false

  abbrev weak_test : Test → Attributes → ℕ → List Item → Bool
  weak_test rec A p m =
      elim (has_element m) [
        | true ↦ rec (item_at m) A (λ k. not_whitespace L (item_at m k)) p 0 (length m)
        | false ↦ bare_test rec A p m
      ]

module _ (J : Tables) where
  abbrev s : List ℕ
  s = J.schema

  abbrev t : List ℕ
  t = J.instance

  abbrev L : Lookups
  L = lookups J

  abbrev Not : List ℕ → ℕ → Type 0
  Not = NotMatchBy L L.rows

  abbrev match_test : (ℕ → ℕ → Bool) → Test
  match_test pair = span_test L (nodes_of t) equal_test pair (schema.rows_of s)

  -- element e and definition d, where at most n elements are nested in e, itself among them
  unfoldable pub pair_test : ℕ → ℕ → ℕ → Bool
  pair_test zero e d = false
  pair_test (suc n) e d =
      elim (L.is_definition d && L.in_class (L.name_class d) e) [
        | true ↦ weak_test L (match_test (pair_test n)) (L.attributes e) (L.content d) (L.children e)
        | false ↦ false
      ]

  unfoldable pub valid_test : Bool
  valid_test = match_test (pair_test (nodes_of t)) (λ k. element 0) no_attributes all (schema.a_of s (start_row J)) 0 1

  module _ (strings : StringsRight J.strings) (pass : SchemaPasses (schema_strings J.strings) s)
      (nodes : NodesRight (instance_strings J.strings) t) where
    R : Restricted L
    R = restricted J pass

    module _ (pair : ℕ → ℕ → Bool) where
      abbrev FitsHere : (ℕ → Item) → Attributes → (ℕ → Bool) → Type 0
      FitsHere = Fits L R (nodes_of t) equal_test pair equals

      decided : Decided L R (nodes_of t) equal_test pair equals (schema.rows_of s) (match_test pair)
      decided = span_decided L R (nodes_of t) equal_test pair equals (schema.rows_of s)

      module _ (e : ℕ) (h : e < nodes_of t) (known : (x d : ℕ) → e < x → x < nodes_of t
          → (pair x d ≡ true) ↔ Paired L Not x d) (p : ℕ) (l : p < schema.rows_of s)
          (sequential : Sequential L (L.pattern p)) where
        bound : Bound (nodes_of t) (L.attributes e)
        bound x a = (attribute_later nodes e x h a).1

        distinct : Distinct L (L.attributes e)
        distinct x y a b n = attributes_differ nodes e x y a b n

        fits : FitsHere (item_at (L.children e)) (L.attributes e) (λ k. not_whitespace L (item_at (L.children e) k))
        fits = record {
          bound = bound;
          distinct = distinct;
          clean = stripped_clean L (item_at (L.children e))
              (λ k. not_whitespace L (item_at (L.children e) k)) (λ k m. m);
          known = λ k x d i. let c = child_element J strings nodes e x h (item_member (L.children e) k x i) in
              known x d c.0 c.1;
        }

        abbrev Bare : List Item → Type 0
        Bare m =
            (bare_test L (match_test pair) (L.attributes e) p m ≡ true)
            ↔ WeakMatch L Not (L.attributes e) m (L.pattern p)

        alone : (x : List ℕ) → (string_test (match_test pair) (L.attributes e) p x ≡ true)
            ↔ Match L Not (L.attributes e) (string x ∷ []) (L.pattern p)
        alone x = string_decided L R (nodes_of t) equal_test pair equals decided (L.attributes e) bound distinct p x l

        nothing : (nothing_test (match_test pair) (L.attributes e) p ≡ true)
            ↔ Match L Not (L.attributes e) [] (L.pattern p)
        nothing = nothing_decided L R (nodes_of t) equal_test pair equals decided (L.attributes e) bound distinct p l

        bare_none : Bare []
        bare_none =
            Iff.trans (either_decides (nothing_test (match_test pair) (L.attributes e) p)
            (string_test (match_test pair) (L.attributes e) p []) nothing (alone []))
            (Iff.symm (weak_empty L Not (L.attributes e) (L.pattern p)))

        bare_one : (x : List ℕ) → Bare (string x ∷ [])
        bare_one x =
            Iff.trans (either_decides (string_test (match_test pair) (L.attributes e) p x)
            (L.whitespace x && nothing_test (match_test pair) (L.attributes e) p) (alone x)
            (both_decide (L.whitespace x) (nothing_test (match_test pair) (L.attributes e) p) Iff.rfl nothing))
            (Iff.symm (weak_string L Not (L.attributes e) (L.pattern p) x))

        weak_decided : (weak_test L (match_test pair) (L.attributes e) p (L.children e) ≡ true)
            ↔ WeakMatch L Not (L.attributes e) (L.children e) (L.pattern p)
        weak_decided = go (has_element (L.children e)) refl
          where
            ok : OkAsChildren (L.children e)
            ok = children_ok J strings nodes e

            go : (b : Bool) → has_element (L.children e) ≡ b
                → (elim b [
                  | true ↦ match_test pair (item_at (L.children e)) (L.attributes e)
                      (λ k. not_whitespace L (item_at (L.children e) k)) p 0 (length (L.children e))
                  | false ↦ bare_test L (match_test pair) (L.attributes e) p (L.children e)
                ] ≡ true) ↔ WeakMatch L Not (L.attributes e) (L.children e) (L.pattern p)
            go true f =
                Iff.trans (decided (item_at (L.children e)) (L.attributes e)
                (λ k. not_whitespace L (item_at (L.children e) k)) p 0 (length (L.children e)) l fits)
                (Iff.symm (weak_span L Not (L.attributes e) p sequential ok f
                (item_at (L.children e)) (λ k. not_whitespace L (item_at (L.children e) k))
                (length (L.children e)) (run_list (not_whitespace L) (string []) (L.children e))))
            go false f =
                elim (no_element ok f) [
                  | inl z ↦ subst Bare (sym z) bare_none
                  | inr z ↦ subst Bare (sym z.1) (bare_one z.0)
                ]

    -- the pattern of a definition is a row
    content_row : (d : ℕ) → L.is_definition d ≡ true → L.content d < schema.rows_of s
    unfolding shape_of
    content_row d h =
        let k = definition_kind s d h in
        let i = in_table (right_size pass.rows) {r = d} (λ z. omega (arith, k, z)) in
        let c = child_less {s = s} {p = d}
        (by_b (pattern_b (schema_strings J.strings) s pass.rows d i kind.element k refl).0 refl) in
        omega arith

    pub pair_decided : (n e d : ℕ) → e < nodes_of t → nodes_of t - e ≤ n → (pair_test n e d ≡ true) ↔ Paired L Not e d
    unfolding pair_test
    pair_decided zero e d h l = absurd (omega arith)
    pair_decided (suc n) e d h l =
        go (L.is_definition d && L.in_class (L.name_class d) e) refl (λ x c i j. pair_decided n x c j (omega arith))
      where
        go : (b : Bool) → (L.is_definition d && L.in_class (L.name_class d) e) ≡ b
            → ((x c : ℕ) → e < x → x < nodes_of t → (pair_test n x c ≡ true) ↔ Paired L Not x c)
            → (elim b [
              | true ↦ weak_test L (match_test (pair_test n)) (L.attributes e) (L.content d) (L.children e)
              | false ↦ false
            ] ≡ true) ↔ Paired L Not e d
        go true f known =
            let a = and_left (L.is_definition d) (L.in_class (L.name_class d) e) f in
            let w = weak_decided (pair_test n) e h known (L.content d) (content_row d a) (R.contents d a) in (
              λ i. record {
                defined = a;
                ordered = children_ok J strings nodes e;
                named = and_right (L.is_definition d) (L.in_class (L.name_class d) e) f;
                content = w.0 i;
              },
              λ q. w.1 q.content,
            )
        go false f known =
            (λ i. absurd (false≢true i), λ q. absurd (true≢false (sym (both_and q.defined q.named) ∙ f)))

    pub valid_decided : 0 < nodes_of t → (valid_test ≡ true) ↔ Valid J
    unfolding valid_test run
    valid_decided h =
        let c = child_less (start_child pass) in
        Iff.trans (decided (pair_test (nodes_of t)) (λ k. element 0) no_attributes all
        (schema.a_of s (start_row J)) 0 1 (omega arith) root_fits)
        (span_whole L Not no_attributes (λ k. element 0) all (schema.a_of s (start_row J)) 1 refl)
      where
        clash : {x : List ℕ} → element 0 ≡ string x → ⊥
        clash x = let z : ◌≡◌ {A = ℕ} 0 1 = cc in omega arith

        same : {x : ℕ} → element 0 ≡ element x → x ≡ 0
        same e = cc

        root_fits : FitsHere (pair_test (nodes_of t)) (λ k. element 0) no_attributes all
        root_fits = record {
          bound = λ x i. absurd (false≢true i);
          distinct = λ x y i. absurd (false≢true i);
          clean = λ i k x m a e b f. absurd (clash f);
          known = λ k x d i. subst (λ (y : ℕ). (pair_test (nodes_of t) y d ≡ true) ↔ Paired L Not y d)
              (sym (same i)) (pair_decided (nodes_of t) 0 d h (omega arith));
        }
