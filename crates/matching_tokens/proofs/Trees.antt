-- Every row whose pattern may stand in a list shows a tree.
use mathlib.Core.Path.{◌≡◌, refl, sym, subst}
use mathlib.Core.Bool.{true}
use mathlib.Core.List.{List-discrete}
use Prim.Native.Nat.{ℕ, zero, suc, ◌<◌}
use native.Mathlib.Decide.{ℕ_discrete}
use Rattle.tables.specs.Tables.{Tables}
use Rattle.datatypes.specs.Whitespace.{normalize_white_space}
use Rattle.schema.specs.Views.{Pattern, pattern_of}
use Rattle.schema_restrictions.specs.Schema.{SchemaPasses}
use Rattle.matching_rules.specs.Items.{Lookups}
use Rattle.matching_rules.specs.Rules.{NotMatchBy}
use Rattle.matching_rules.specs.Job.{lookups}
use Rattle.matching_rules.specs.Reach.{Subpattern, operand, Operand, repeated, choice_first}
use Rattle.matching_rules.specs.Reach.{choice_second, group_first, group_second}
use Rattle.matching_rules.specs.Restricted.{Restricted, Plain, plain_value, plain_data, plain_except, Listable}
use Rattle.matching_rules.specs.Restricted.{listable_empty, listable_value, listable_data, listable_except}
use Rattle.matching_rules.specs.Restricted.{listable_one_or_more, listable_choice, listable_group}
use Rattle.matching_rules.proofs.Passing.{restricted}
use Rattle.matching_tokens.specs.Marked.{Tree, empty, leaf, one_or_more, choice, group, is_data, Shows, shows_empty}
use Rattle.matching_tokens.specs.Marked.{shows_leaf, shows_one_or_more, shows_choice, shows_group, Proper}
use Rattle.matching_tokens.proofs.Plain.{EqualDecided, takes_at, takes_right}
use Rattle.matching_tokens.proofs.Parts.{proper}

-- a tree that row r shows
record Shown (L : Lookups) (r : ℕ) : Type 0 where
  tree : Tree
  shows : Shows L (NotMatchBy L L.rows) r tree

module _ {L : Lookups} (R : Restricted L) (equal : EqualDecided L) where
  leaf_shown : {x : Pattern} → Plain L x → is_data x ≡ true → (r : ℕ) → L.pattern r ≡ x → Shown L r
  leaf_shown i d r e =
      let plain : Plain L (L.pattern r) = subst (Plain L) (sym e) i in
      record {
        tree = leaf r (takes_at R equal r plain);
        shows = shows_leaf {r = r} (rw e d) (takes_right R equal r plain);
      }

  -- a part is at a smaller row
  part_less : {x : Pattern} (r p : ℕ) → L.pattern r ≡ x → Operand p x → p < r
  part_less r p e i = R.falls r p (subst (Subpattern p) (sym e) (operand i))

  listable_shown : {x : Pattern} → Listable L x → (r : ℕ) → L.pattern r ≡ x → Shown L r
  listable_shown listable_empty r e = record { tree = empty r; shows = shows_empty e }
  listable_shown listable_value r e = leaf_shown plain_value refl r e
  listable_shown listable_data r e = leaf_shown plain_data refl r e
  listable_shown (listable_except i) r e = leaf_shown (plain_except i) refl r e
  listable_shown (listable_one_or_more {p = p} i) r e =
      let t = listable_shown i p refl in
      record { tree = one_or_more r t.tree; shows = shows_one_or_more e (part_less r p e repeated) t.shows }
  listable_shown (listable_choice {p₁ = p} {p₂ = q} i j) r e =
      let t = listable_shown i p refl in
      let u = listable_shown j q refl in
      record {
        tree = choice r t.tree u.tree;
        shows = shows_choice e (part_less r p e choice_first) (part_less r q e choice_second) t.shows u.shows;
      }
  listable_shown (listable_group {p₁ = p} {p₂ = q} i j) r e =
      let t = listable_shown i p refl in
      let u = listable_shown j q refl in
      record {
        tree = group r t.tree u.tree;
        shows = shows_group e (part_less r p e group_first) (part_less r q e group_second) t.shows u.shows;
      }

-- the equalities of a job are equalities of lists of numbers
equal_decided : (J : Tables) → EqualDecided (lookups J)
equal_decided J zero s₁ s₂ = List-discrete ℕ_discrete s₁ s₂
equal_decided J (suc t) s₁ s₂ = List-discrete ℕ_discrete (normalize_white_space s₁) (normalize_white_space s₂)

-- the tree of a row of a job's schema
pub record ListTree (J : Tables) (r : ℕ) : Type 0 where
  pub tree : Tree
  pub shows : Shows (lookups J) (NotMatchBy (lookups J) (lookups J).rows) r tree
  pub apart : Proper tree

pub list_tree : {strings : ℕ} (J : Tables) → SchemaPasses strings J.schema
    → (r : ℕ) → Listable (lookups J) (pattern_of J.schema r) → ListTree J r
list_tree J pass r i =
    let t = listable_shown (restricted J pass) (equal_decided J) i r refl in
    record {
      tree = t.tree;
      shows = t.shows;
      apart = proper J pass.rows (NotMatchBy (lookups J) (lookups J).rows) t.shows;
    }
