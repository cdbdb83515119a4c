-- What matching needs of a schema, stated over the lookups. Every schema that passes has it (proofs/Passing).
use Rattle.std.specs.Prelude.{ℕ, ◌≤◌, ◌<◌, ◌≡◌, true}
use Rattle.schema.specs.Views.{Pattern, empty, not_allowed, data_all, data_except, value}
use Rattle.schema.specs.Views.{list, ref, one_or_more, choice, group, interleave, no_pattern}
use Rattle.matching_rules.specs.Items.{Item, Lookups}
use Rattle.matching_rules.specs.Reach.{Subpattern, Reaches, Within, is_sharing}
use Rattle.matching_rules.specs.Reach.{is_simple, takes_any, names_attribute, takes}

module _ (L : Lookups) where
  -- what may stand in an except (10.2.5)
  pub data Plain : Pattern → Type 0 where
    plain_not_allowed : Plain not_allowed
    plain_value : {t k : ℕ} → Plain (value t k)
    plain_data : {t : ℕ} → Plain (data_all t)
    plain_except : {t p : ℕ} → Plain (L.pattern p) → Plain (data_except t p)
    plain_choice : {p₁ p₂ : ℕ} → Plain (L.pattern p₁) → Plain (L.pattern p₂) → Plain (choice p₁ p₂)

  -- what may stand below start (10.2.6)
  pub data Starts : Pattern → Type 0 where
    starts_not_allowed : Starts not_allowed
    starts_ref : {d : ℕ} → Starts (ref d)
    starts_choice : {p₁ p₂ : ℕ} → Starts (L.pattern p₁) → Starts (L.pattern p₂) → Starts (choice p₁ p₂)

  -- what may stand in a list (10.2.4, and clause 8 for notAllowed)
  pub data Listable : Pattern → Type 0 where
    listable_empty : Listable empty
    listable_value : {t k : ℕ} → Listable (value t k)
    listable_data : {t : ℕ} → Listable (data_all t)
    listable_except : {t p : ℕ} → Plain (L.pattern p) → Listable (data_except t p)
    listable_one_or_more : {p : ℕ} → Listable (L.pattern p) → Listable (one_or_more p)
    listable_choice : {p₁ p₂ : ℕ} → Listable (L.pattern p₁) → Listable (L.pattern p₂) → Listable (choice p₁ p₂)
    listable_group : {p₁ p₂ : ℕ} → Listable (L.pattern p₁) → Listable (L.pattern p₂) → Listable (group p₁ p₂)

  -- no attribute stands in a group or interleave that x reaches (10.2.3)
  abbrev pub Flat : Pattern → Type 0
  Flat x = (y : Pattern) → Within L x y → is_sharing y ≡ true → (u : ℕ) → ¬ Reaches L (names_attribute L u) y

  -- no attribute name on both sides of a group or interleave (10.4)
  abbrev pub NamesApart : ℕ → ℕ → Type 0
  NamesApart p₁ p₂ =
      (x : ℕ) → Reaches L (names_attribute L x) (L.pattern p₁) → ¬ Reaches L (names_attribute L x) (L.pattern p₂)

  -- where a pattern of content type simple stands on one side, no item can go to the other (10.3)
  pub record Sequenced (p₁ p₂ : ℕ) : Type 0 where
    pub first : Reaches L is_simple (L.pattern p₁) → ¬ Reaches L takes_any (L.pattern p₂)
    pub second : Reaches L is_simple (L.pattern p₂) → ¬ Reaches L takes_any (L.pattern p₁)

  -- 10.3 in what x reaches; a list is reached, and what stands in it is not
  pub record Sequential (x : Pattern) : Type 0 where
    pub groups : (p₁ p₂ : ℕ) → Within L x (group p₁ p₂) → Sequenced p₁ p₂
    pub interleaves : (p₁ p₂ : ℕ) → Within L x (interleave p₁ p₂) → Sequenced p₁ p₂
    pub repeats : (q : ℕ) → Within L x (one_or_more q) → ¬ Reaches L is_simple (L.pattern q)

  pub record Restricted : Type 0 where
    pub bounded : (p : ℕ) → L.rows ≤ p → L.pattern p ≡ no_pattern
    pub falls : (p q : ℕ) → Subpattern q (L.pattern p) → q < p
    pub same_name : (x : ℕ) → L.SameName x x
    pub groups : (p p₁ p₂ : ℕ) → L.pattern p ≡ group p₁ p₂ → NamesApart p₁ p₂
    pub interleaves : (p p₁ p₂ : ℕ) → L.pattern p ≡ interleave p₁ p₂ → NamesApart p₁ p₂
    -- 10.5: no item can go to either side of an interleave
    pub items : (p p₁ p₂ : ℕ) → L.pattern p ≡ interleave p₁ p₂ → (y : Item) → Reaches L (takes L y) (L.pattern p₁)
        → ¬ Reaches L (takes L y) (L.pattern p₂)
    pub repeats_flat : (p q : ℕ) → L.pattern p ≡ one_or_more q → Flat (L.pattern q)
    pub excepts : (p t q : ℕ) → L.pattern p ≡ data_except t q → Plain (L.pattern q)
    pub lists : (p q : ℕ) → L.pattern p ≡ list q → Listable (L.pattern q)
    pub contents : (d : ℕ) → L.is_definition d ≡ true → Sequential (L.pattern (L.content d))
