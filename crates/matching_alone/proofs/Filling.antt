-- The tables while they are filled, entry by entry and row by row.
use Prim.Native.Nat.{ℕ, ◌+◌, ◌*◌, ◌≤◌, ◌<◌}
use mathlib.Core.Path.{◌≡◌, refl, sym, ◌∙◌, subst}
use mathlib.Core.Bool.{true}
use mathlib.Core.List.{List}
use mathlib.Core.Logic.{◌↔◌}
use native.Mathlib.Omega.{arith}
use borrow.Author.Count.{below_more}
use lib.ListN.{length, get_or, set, length-set}
use lib.Seq.{get_or-set_same, get_or-set_other}
use Rattle.tables.specs.Tables.{StringTable, tables_of}
use Rattle.strings.specs.Strings.{text_of, max_strings, schema_strings, instance_strings}
use Rattle.datatypes.specs.Whitespace.{whitespace}
use Rattle.schema_restrictions.specs.Schema.{SchemaPasses}
use Rattle.matching_alone.specs.Alone.{entry, TellsString, TellsNothing, Alone}
use Rattle.matching_alone.specs.Rows.{NothingAt, RowOf, RowMade}

-- the rows before p are right in any table that has their entries
alone_kept : {T : StringTable} {s before now nothing : List ℕ} {p : ℕ}
    → instance_strings T ≤ max_strings → ((i : ℕ) → i < p * max_strings → get_or now i 0 ≡ get_or before i 0)
    → Alone T s before nothing p → Alone T s now nothing p
alone_kept {T} {s} {before} {now} h f a = record {
  strings = λ t q k l m. subst (λ (v : ℕ). TellsString (tables_of T s t) q k v)
      (sym (f (q * max_strings + k) (omega arith))) (a.strings t q k l m);
  empty = a.empty;
}

module _ (f : ℕ → ℕ → Type 0) {before : List ℕ} {p : ℕ} where
  pub row_none : RowOf f before before p 0
  row_none = record { size = refl; kept = λ i h. refl; each = λ k h. absurd (omega arith) }

  pub row_more : {now : List ℕ} {k v : ℕ} → p * max_strings + k < length now → f k v
      → RowOf f before now p k → RowOf f before (set now (p * max_strings + k) v) p (k + 1)
  row_more {now} {k} {v} i d r = record {
    size = length-set now (p * max_strings + k) v ∙ r.size;
    kept = λ j m. get_or-set_other now (p * max_strings + k) j v 0 (λ e. omega arith) ∙ r.kept j m;
    each = below_more (λ (j : ℕ). f j (entry (set now (p * max_strings + k) v) p j)) k
        (λ j m. subst (λ (x : ℕ). f j x)
        (sym (get_or-set_other now (p * max_strings + k) (p * max_strings + j) v 0 (λ e. omega arith))) (r.each j m))
        (subst (λ (x : ℕ). f k x) (sym (get_or-set_same now (p * max_strings + k) v 0 i)) d);
  }

module _ {f : ℕ → ℕ → Type 0} {before : List ℕ} {p : ℕ} where
  pub row_map : {g : ℕ → ℕ → Type 0} {after : List ℕ} {n : ℕ}
      → ((k v : ℕ) → k < n → f k v → g k v) → RowOf f before after p n → RowOf g before after p n
  row_map {after = after} m r =
      record { size = r.size; kept = r.kept; each = λ k h. m k (entry after p k) h (r.each k h) }

pub rows_none : {T : StringTable} {s alone nothing : List ℕ} → Alone T s alone nothing 0
rows_none = record { strings = λ t p k h. absurd (omega arith); empty = λ t p h. absurd (omega arith) }

pub rows_more : {T : StringTable} {s alone after nothing : List ℕ} {p v : ℕ} → instance_strings T ≤ max_strings
    → p < length nothing → SchemaPasses (schema_strings T) s → Alone T s alone nothing p
    → RowMade T s alone nothing after p → NothingAt s nothing p v → Alone T s after (set nothing p v) (p + 1)
rows_more {T} {s} {alone} {after} {nothing} {p} {v} h i c a m d =
    let r = m c a in
    let b = alone_kept {now = after} h r.kept a in
    record {
      strings = λ t q k. below_more (λ (j : ℕ). k < instance_strings T
          → TellsString (tables_of T s t) j k (entry after j k)) p (λ j m. b.strings t j k m) (λ l. r.each k l t) q;
      empty = λ t. below_more (λ (j : ℕ). TellsNothing (tables_of T s t) j (get_or (set nothing p v) j 0)) p
          (λ j m. subst (λ (x : ℕ). TellsNothing (tables_of T s t) j x)
          (sym (get_or-set_other nothing p j v 0 (λ e. omega arith))) (a.empty t j m))
          (subst (λ (x : ℕ). TellsNothing (tables_of T s t) p x)
          (sym (get_or-set_same nothing p v 0 i)) (d T t alone c a));
    }

-- the first k strings
abbrev pub BlankTo : StringTable → List ℕ → ℕ → Type 0
BlankTo T blank n = (k : ℕ) → k < n → (get_or blank k 0 ≡ 1) ↔ (whitespace (text_of T k) ≡ true)

pub blank_more : (T : StringTable) (blank : List ℕ) (k v : ℕ) → k < length blank
    → (v ≡ 1) ↔ (whitespace (text_of T k) ≡ true) → BlankTo T blank k → BlankTo T (set blank k v) (k + 1)
blank_more T blank k v i d b =
    below_more (λ (j : ℕ). (get_or (set blank k v) j 0 ≡ 1) ↔ (whitespace (text_of T j) ≡ true)) k
    (λ j m. subst (λ (x : ℕ). (x ≡ 1) ↔ (whitespace (text_of T j) ≡ true))
    (sym (get_or-set_other blank k j v 0 (λ e. omega arith))) (b j m))
    (subst (λ (x : ℕ). (x ≡ 1) ↔ (whitespace (text_of T k) ≡ true)) (sym (get_or-set_same blank k v 0 i)) d)
