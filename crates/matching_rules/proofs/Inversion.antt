-- One step of the rules of 9.3 backwards, by the kind of the pattern, and its converse.
use Prim.Native.Nat.{ℕ}
use mathlib.Core.Path.{◌≡◌, refl, sym, ap, ◌∙◌, subst}
use mathlib.Core.Bool.{true, false, true≢false}
use mathlib.Core.List.{List, [], ◌∷◌, ◌++◌, append-nil, map}
use mathlib.Core.Logic.{◌⊎◌, inl, inr, ◌↔◌}
use lib.Seq.{append_snoc}
use Rattle.schema.specs.Views.{Pattern}
use Rattle.schema.specs.Views as pattern
use Rattle.matching_rules.specs.Items.{Item, string, Attributes, no_attributes, only, ◌∪◌, Lookups}
use Rattle.matching_rules.specs.Items as item
use Rattle.matching_rules.specs.Rules.{Interleaves, Ws, ws_empty, ws_string, Match, WeakMatch, choice_1}
use Rattle.matching_rules.specs.Rules.{choice_2, group, empty, text_1, text_2, one_or_more_1, one_or_more_2}
use Rattle.matching_rules.specs.Rules.{interleave, attribute, element, value, data_1, data_2, list}
use Rattle.matching_rules.specs.Reach.{Role, one_string, role_of, simple}
use Rattle.matching_rules.specs.Spans.{Paired}
use Rattle.matching_rules.proofs.Sequences.{has_element, strings_append}

-- the sequence of one string, which passes a test
abbrev pub One : (List ℕ → Type 0) → List Item → Type 0
One P m = (s : List ℕ) × (m ≡ string s ∷ []) × P s

pub the_one : (P : List ℕ → Type 0) (s : List ℕ) → One P (string s ∷ []) → P s
the_one P s o =
    let e = o.1 in
    let z : o.0 ≡ s = cc in
    subst P z o.2

-- two roles that differ
no_role : {r : Role} → r ≡ one_string → simple r ≡ false → ⊥
no_role e f = true≢false (sym (ap simple e) ∙ f)

module _ (L : Lookups) (NotMatch : List ℕ → ℕ → Type 0) where
  pub cast : {a b : Attributes} {m n : List Item} {x : Pattern}
      → a ≡ b → m ≡ n → Match L NotMatch a m x → Match L NotMatch b n x
  cast e f d = rw (← e, ← f) d

  pub record Grouped (a : Attributes) (m : List Item) (x₁ x₂ : Pattern) : Type 0 where
    pub a₁ : Attributes
    pub a₂ : Attributes
    pub m₁ : List Item
    pub m₂ : List Item
    pub set : a ≡ a₁ ∪ a₂
    pub sequence : m ≡ m₁ ++ m₂
    pub first : Match L NotMatch a₁ m₁ x₁
    pub second : Match L NotMatch a₂ m₂ x₂

  pub record Interleaved (a : Attributes) (m : List Item) (x₁ x₂ : Pattern) : Type 0 where
    pub a₁ : Attributes
    pub a₂ : Attributes
    pub m₁ : List Item
    pub m₂ : List Item
    pub set : a ≡ a₁ ∪ a₂
    pub first : Match L NotMatch a₁ m₁ x₁
    pub second : Match L NotMatch a₂ m₂ x₂
    pub order : Interleaves m m₁ m₂

  pub record AttributeMatch (a : Attributes) (m : List Item) (nc : ℕ) (x : Pattern) : Type 0 where
    pub row : ℕ
    pub set : a ≡ only row
    pub sequence : m ≡ []
    pub named : L.in_class nc row ≡ true
    pub valued : WeakMatch L NotMatch no_attributes (string (L.value row) ∷ []) x

  pub record ElementMatch (a : Attributes) (m : List Item) (d : ℕ) : Type 0 where
    pub row : ℕ
    pub ws₁ : List Item
    pub ws₂ : List Item
    pub set : a ≡ no_attributes
    pub sequence : m ≡ ws₁ ++ item.element row ∷ ws₂
    pub paired : Paired L NotMatch row d
    pub before : Ws L ws₁
    pub after : Ws L ws₂

  -- the kinds but oneOrMore, whose rule has itself as a premise
  abbrev pub Step : Pattern → Attributes → List Item → Type 0
  Step pattern.empty a m = (a ≡ no_attributes) × (m ≡ [])
  Step pattern.not_allowed a m = ⊥
  Step pattern.text a m = (a ≡ no_attributes) × (has_element m ≡ false)
  Step (pattern.data_all t) a m = (a ≡ no_attributes) × One (λ s. Unit {0}) m
  Step (pattern.data_except t p) a m = (a ≡ no_attributes) × One (λ s. NotMatch s p) m
  Step (pattern.value t k) a m = (a ≡ no_attributes) × One (λ s. L.Equal t s (L.text k)) m
  Step (pattern.list p) a m =
      (a ≡ no_attributes) × One (λ s. Match L NotMatch no_attributes (map string (L.split s)) (L.pattern p)) m
  Step (pattern.attribute nc p) a m = AttributeMatch a m nc (L.pattern p)
  Step (pattern.ref d) a m = ElementMatch a m d
  Step (pattern.one_or_more p) a m = Match L NotMatch a m (pattern.one_or_more p)
  Step (pattern.choice p₁ p₂) a m = Match L NotMatch a m (L.pattern p₁) ⊎ Match L NotMatch a m (L.pattern p₂)
  Step (pattern.group p₁ p₂) a m = Grouped a m (L.pattern p₁) (L.pattern p₂)
  Step (pattern.interleave p₁ p₂) a m = Interleaved a m (L.pattern p₁) (L.pattern p₂)
  Step pattern.no_pattern a m = ⊥

  pub step : {a : Attributes} {m : List Item} {x : Pattern} → Match L NotMatch a m x → Step x a m
  step (choice_1 d) = inl d
  step (choice_2 d) = inr d
  step (group d₁ d₂) = record { a₁ = _; a₂ = _; m₁ = _; m₂ = _; set = refl; sequence = refl; first = d₁; second = d₂ }
  step empty = (refl, refl)
  step text_1 = (refl, refl)
  step (text_2 {m = m} s d) = (refl, strings_append m (string s ∷ []) (step d).1 refl)
  step (one_or_more_1 d) = one_or_more_1 d
  step (one_or_more_2 d₁ d₂ z) = one_or_more_2 d₁ d₂ z
  step (interleave d₁ d₂ w) = record { a₁ = _; a₂ = _; m₁ = _; m₂ = _; set = refl; first = d₁; second = d₂; order = w }
  step (attribute x n w) = record { row = x; set = refl; sequence = refl; named = n; valued = w }
  step (element e f o n w b a) =
      record {
        row = e;
        ws₁ = _;
        ws₂ = _;
        set = refl;
        sequence = refl;
        paired = record { defined = f; ordered = o; named = n; content = w };
        before = b;
        after = a;
      }
  step (value h) = (refl, (_, refl, h))
  step data_1 = (refl, (_, refl, tt))
  step (data_2 h) = (refl, (_, refl, h))
  step (list d) = (refl, (_, refl, d))

  texts : (n m : List Item) → Match L NotMatch no_attributes n pattern.text
      → has_element m ≡ false → Match L NotMatch no_attributes (n ++ m) pattern.text
  texts n [] d h = rw append-nil d
  texts n (string s ∷ m) d h = rw append_snoc at (texts (n ++ (string s ∷ [])) m (text_2 s d) h)
  texts n (item.element e ∷ m) d h = absurd (true≢false h)

  unstep : {a : Attributes} {m : List Item} (x : Pattern) → Step x a m → Match L NotMatch a m x
  unstep pattern.empty s = cast (sym s.0) (sym s.1) empty
  unstep pattern.not_allowed s = absurd s
  unstep {m = m} pattern.text s = cast (sym s.0) refl (texts [] m text_1 s.1)
  unstep (pattern.data_all t) s = cast (sym s.0) (sym s.1.1) data_1
  unstep (pattern.data_except t p) s = cast (sym s.0) (sym s.1.1) (data_2 s.1.2)
  unstep (pattern.value t k) s = cast (sym s.0) (sym s.1.1) (value s.1.2)
  unstep (pattern.list p) s = cast (sym s.0) (sym s.1.1) (list s.1.2)
  unstep (pattern.attribute nc p) s =
      cast (sym s.set) (sym s.sequence) (attribute s.row s.named s.valued)
  unstep (pattern.ref d) s =
      let p = s.paired in
      cast (sym s.set) (sym s.sequence)
      (element s.row p.defined p.ordered p.named p.content s.before s.after)
  unstep (pattern.one_or_more p) s = s
  unstep (pattern.choice p₁ p₂) (inl d) = choice_1 d
  unstep (pattern.choice p₁ p₂) (inr d) = choice_2 d
  unstep (pattern.group p₁ p₂) s = cast (sym s.set) (sym s.sequence) (group s.first s.second)
  unstep (pattern.interleave p₁ p₂) s = cast (sym s.set) refl (interleave s.first s.second s.order)
  unstep pattern.no_pattern s = absurd s

  pub stepwise : {a : Attributes} {m : List Item} (x : Pattern) → Match L NotMatch a m x ↔ Step x a m
  stepwise x = (step, unstep x)

  -- a pattern of one string matches no attributes and that string alone
  one_string_lem : {a : Attributes} {m : List Item} (x : Pattern) (P : List ℕ → Type 0) → Match L NotMatch a m x
      ↔ ((a ≡ no_attributes) × One P m) → ((s : List ℕ) → Match L NotMatch no_attributes (string s ∷ []) x ↔ P s)
      → Match L NotMatch a m x ↔ ((a ≡ no_attributes) × One (λ s. Match L NotMatch no_attributes (string s ∷ []) x) m)
  one_string_lem x P f g = (
    λ d. let t = f.0 d in (t.0, (t.1.0, t.1.1, (g t.1.0).1 t.1.2)),
    λ t. f.1 (t.0, (t.1.0, t.1.1, (g t.1.0).0 t.1.2)),
  )

  pub string_alone : {a : Attributes} {m : List Item} (x : Pattern) → role_of x ≡ one_string
      → Match L NotMatch a m x ↔ ((a ≡ no_attributes) × One (λ s. Match L NotMatch no_attributes (string s ∷ []) x) m)
  string_alone (pattern.data_all t) e =
      one_string_lem (pattern.data_all t) (λ s. Unit {0}) (stepwise (pattern.data_all t)) (λ s. (λ d. tt, λ u. data_1))
  string_alone (pattern.data_except t p) e =
      one_string_lem (pattern.data_except t p) (λ s. NotMatch s p) (stepwise (pattern.data_except t p))
      (λ s. (λ d. the_one (λ s. NotMatch s p) s (step d).1, data_2))
  string_alone (pattern.value t k) e =
      one_string_lem (pattern.value t k) (λ s. L.Equal t s (L.text k)) (stepwise (pattern.value t k))
      (λ s. (λ d. the_one (λ s. L.Equal t s (L.text k)) s (step d).1, value))
  string_alone (pattern.list p) e =
      let P : List ℕ → Type 0 = (λ s. Match L NotMatch no_attributes (map string (L.split s)) (L.pattern p)) in
      one_string_lem (pattern.list p) P (stepwise (pattern.list p)) (λ s. (λ d. the_one P s (step d).1, list))
  string_alone pattern.empty e = absurd (no_role e refl)
  string_alone pattern.not_allowed e = absurd (no_role e refl)
  string_alone pattern.text e = absurd (no_role e refl)
  string_alone (pattern.attribute nc p) e = absurd (no_role e refl)
  string_alone (pattern.ref d) e = absurd (no_role e refl)
  string_alone (pattern.one_or_more p) e = absurd (no_role e refl)
  string_alone (pattern.choice p q) e = absurd (no_role e refl)
  string_alone (pattern.group p q) e = absurd (no_role e refl)
  string_alone (pattern.interleave p q) e = absurd (no_role e refl)
  string_alone pattern.no_pattern e = absurd (no_role e refl)

  -- an element alone against a ref
  alone : (b a : List Item) (e x : ℕ) → Ws L b → item.element e ∷ [] ≡ b ++ item.element x ∷ a → x ≡ e
  alone b a e x ws_empty k = cc
  alone b a e x (ws_string w) k = cc

  pub against : (e d : ℕ) → Match L NotMatch no_attributes (item.element e ∷ []) (pattern.ref d) ↔ Paired L NotMatch e d
  against e d = (to, λ p. element e p.defined p.ordered p.named p.content ws_empty ws_empty)
    where
      to : Match L NotMatch no_attributes (item.element e ∷ []) (pattern.ref d) → Paired L NotMatch e d
      to m =
          let s : ElementMatch no_attributes (item.element e ∷ []) d = step m in
          rw (alone s.ws₁ s.ws₂ e s.row s.before s.sequence) at s.paired
