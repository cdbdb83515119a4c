-- The lookups of a job's four tables, the pairs of an element and a definition, and (valid) of ISO/IEC 19757-2, 9.4.
use Rattle.std.specs.Prelude.{ℕ, zero, suc, ◌-◌, ◌<◌, ◌≡◌, true, cond, List, [], ◌∷◌, map}
use Rattle.tables.specs.Tables.{Tables}
use Rattle.strings.specs.Strings.{text_of}
use Rattle.datatypes.specs.Whitespace.{whitespace, string_equal, token_equal}
use Rattle.datatypes.specs.Split.{split}
use Rattle.schema.specs.Rows as schema
use Rattle.schema.specs.Kinds as kind
use Rattle.schema.specs.Views.{pattern_of}
use Rattle.schema.specs.Relations.{Below}
use Rattle.schema_classes.specs.Membership.{in_class}
use Rattle.instance.specs.Nodes.{a_of, b_of, c_of, nodes_of, is_attribute, SameName}
use Rattle.instance.specs.Elements.{is_element, children_of}
use Rattle.matching_rules.specs.Items.{Item, element, string, no_attributes, Lookups}
use Rattle.matching_rules.specs.Rules.{Matches, Proved}

-- datatypeEqual of 9.3.9 by the numbers of FORMAT, "Schema rows": 0 is string, 1 token
abbrev pub datatype_equal : ℕ → List ℕ → List ℕ → Type 0
datatype_equal zero s₁ s₂ = string_equal s₁ s₂
datatype_equal (suc n) s₁ s₂ = token_equal s₁ s₂

module _ (J : Tables) where
  -- a child as an item: an element by its row, a text by its bytes
  abbrev pub item_of : ℕ → Item
  item_of r = cond (is_element J.instance r) (element r) (string (text_of J.strings (a_of J.instance r)))

  abbrev pub lookups : Lookups
  lookups = record {
    rows = schema.rows_of J.schema;
    pattern = pattern_of J.schema;
    is_definition = λ d. schema.is_element (schema.sort_of J.schema d);
    name_class = schema.a_of J.schema;
    content = schema.b_of J.schema;
    text = text_of J.strings;
    whitespace = whitespace;
    split = split;
    Equal = datatype_equal;
    in_class = λ nc x. in_class J.schema (a_of J.instance x) (b_of J.instance x) nc;
    SameName = SameName J.instance;
    attributes = is_attribute J.instance;
    children = λ e. map item_of (children_of J.instance e);
    value = λ x. text_of J.strings (c_of J.instance x);
  }

  -- element row e and definition row d are a pair of the match list: e is proved against a reference to d
  abbrev pub Pair : ℕ → ℕ → Type 0
  Pair e d = (e < nodes_of J.instance) × (is_element J.instance e ≡ true) × Proved lookups e d

  -- the row of start is the last
  abbrev pub start_row : ℕ
  start_row = schema.rows_of J.schema - 1

  -- (valid) of 9.4: the root with no attributes beside it matches the pattern of start
  abbrev pub Valid : Type 0
  Valid = Matches lookups no_attributes (element 0 ∷ []) (pattern_of J.schema (schema.a_of J.schema start_row))

  -- the definitions that the start names: those that refs below the row of start refer to
  pub data StartNames (d : ℕ) : Type 0 where
    by_ref : (r : ℕ) → Below J.schema r start_row → schema.kind_of J.schema r ≡ kind.ref
        → schema.a_of J.schema r ≡ d → StartNames d
