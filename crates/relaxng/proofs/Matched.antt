-- From the verdict on schema and instance and the answer with the match list to the promises of the calls on an
-- instance.
use Prim.Native.Nat.{ℕ, ◌*◌, ◌≤◌}
use mathlib.Core.Path.{◌≡◌, refl, sym, ◌∙◌, ap, subst}
use mathlib.Core.Bool.{Bool, true, false}
use mathlib.Core.Logic.{inl, inr, ⊎_elim}
use mathlib.Core.List.{List}
use native.Mathlib.Omega.{arith}
use lib.ListN.{length}
use Rattle.std.specs.Prelude.{Result, Ok, Err, IsErrAnd}
use Rattle.tables.specs.Tables.{Tables}
use Rattle.strings.specs.Strings.{instance_strings}
use Rattle.tables.specs.Answers.{Decides}
use Rattle.tables.specs.Checks.{Finds}
use Rattle.tables.specs.Outputs.{zeros}
use Rattle.tables.specs.Codes.{refused_by, Tries, refused, goes_on, Passes}
use Rattle.tables.specs.declared.refusals.Code.TheVariants as code
use Rattle.tables.specs.declared.refusals.Refusal.{Refusal}
use Rattle.tables.proofs.Codes.{tries_map, tries_go, stops, on, last_code, exit, ok_err}
use Rattle.instance.specs.Nodes.{nodes_of}
use Rattle.instance.specs.NodeRule.{max_nodes, NodeFault, bad_size}
use Rattle.instance.specs.Width.{WidthFault}
use Rattle.instance.proofs.Size.{few_nodes}
use Rattle.matching_rules.specs.Job.{Valid}
use Rattle.matching_rules.proofs.Uniqueness.{unique}
use Rattle.matching_pairs.specs.Pairs.{TablesPass}
use Rattle.matching_list.specs.MatchList.{MatchList, ListAnswer}
use Rattle.matching_list.specs.declared.Matches.{Matches}
use Rattle.matching_list.specs.declared.TooShort.{TooShort}
use Rattle.relaxng.specs.Promises.{SchemaRefusal}
use Rattle.matching_work.specs.Work.{WorkFault}
use Rattle.relaxng.specs.Matching.{InstanceRefusal, WorkRefusal, GivesVerdict}
use Rattle.relaxng.specs.Matching.{ListTooShort, BufferShort, ListsMatches}
use Rattle.relaxng.specs.Answers.{match_answer}
use Rattle.relaxng.proofs.Refused.{schema_refused, schema_passed, no_code}

-- rows that keep their rule are few
pub nodes_few : (strings : ℕ) (t : List ℕ) (c : Result Unit ℕ) {v : Result Unit Refusal} → Finds (NodeFault strings t) c
    → v ≡ refused_by code.Nodes c → v ≡ Ok tt → nodes_of t ≤ max_nodes
nodes_few strings t (Ok x) right e g = few_nodes (λ k i. right k (bad_size i))
nodes_few strings t (Err place) f e g = absurd (ok_err (sym g ∙ e))

module _ {J : Tables} where
  -- ---- codes 9 and 10 after the schema's

  pub instance_schema : {v : Result Unit Refusal} {r : Refusal} (w : Result Unit Refusal) → v ≡ Err r
      → SchemaRefusal J.strings J.schema Passes v → IsErrAnd w (λ y. y ≡ r) → InstanceRefusal J Passes w
  instance_schema w e p x = rw (exit w x, ← e) (schema_refused e p)

  pub nodes_stop : {v u w : Result Unit Refusal} (c : Result Unit ℕ) {r : Refusal} → v ≡ Ok tt
      → SchemaRefusal J.strings J.schema Passes v → Finds (NodeFault (instance_strings J.strings) J.instance) c
      → u ≡ refused_by code.Nodes c → u ≡ Err r → IsErrAnd w (λ y. y ≡ r) → InstanceRefusal J Passes w
  nodes_stop c e p f g h x = schema_passed e p (stops c f g h x)

  pub nodes_on : {v u w : Result Unit Refusal} (c x : Result Unit ℕ) → v ≡ Ok tt
      → SchemaRefusal J.strings J.schema Passes v → Finds (NodeFault (instance_strings J.strings) J.instance) c
      → u ≡ refused_by code.Nodes c → u ≡ Ok tt
      → Finds (WidthFault J.instance) x → w ≡ refused_by code.Width x → InstanceRefusal J Passes w
  nodes_on c x e p f g h width i = schema_passed e p (on c f g h (last_code x width i))

  -- what comes after code 10 may be replaced: for a verdict that has it, and, where the tables pass, for any other
  -- verdict
  module _ {next next' : Result Unit Refusal → Type 0} where
    instance_map : {v : Result Unit Refusal} → (next v → next' v) → InstanceRefusal J next v → InstanceRefusal J next' v
    instance_map f =
        tries_map
        (tries_map (tries_map (tries_map (tries_map (tries_map (tries_map (tries_map (tries_map (tries_map f)))))))))

    instance_go : {v w : Result Unit Refusal} → v ≡ Ok tt → InstanceRefusal J next v
        → (next (Ok tt) → next' w) → InstanceRefusal J next' w
    instance_go {w = w} e r f = go (subst (InstanceRefusal J next) e r)
      where
        go : InstanceRefusal J next (Ok tt) → InstanceRefusal J next' w
        go =
            tries_go
            (tries_go (tries_go (tries_go (tries_go (tries_go (tries_go (tries_go (tries_go (tries_go f)))))))))

  tables_of : {next : Result Unit Refusal → Type 0} → InstanceRefusal J next (Ok tt) → TablesPass J × next (Ok tt)
  tables_of (goes_on strings (goes_on rows (goes_on places (goes_on names (goes_on paths
      (goes_on sequences (goes_on attributes (goes_on interleaves (goes_on nodes (goes_on width x)))))))))) = (
        record {
          strings = strings;
          schema = record {
            rows = rows;
            places = places;
            names = names;
            paths = paths;
            sequences = sequences;
            attributes = attributes;
            interleaves = interleaves;
          };
          nodes = nodes;
          narrow = width;
        },
        x,
      )

  -- tables that pass
  pub tables_pass : {next : Result Unit Refusal → Type 0} {v : Result Unit Refusal} → v ≡ Ok tt
      → InstanceRefusal J next v → TablesPass J
  tables_pass {next} e r = (tables_of (subst (InstanceRefusal J next) e r)).0

  -- ---- code 12 for the work buffer

  module _ (work : ℕ) where
    pub work_refused : {v : Result Unit Refusal} {r : Refusal} (w : Result Unit Refusal) → v ≡ Err r
        → InstanceRefusal J Passes v → IsErrAnd w (λ y. y ≡ r) → WorkRefusal J work w
    work_refused w e p x = rw (exit w x, ← e) (instance_map (λ q. absurd (ok_err (sym q ∙ e))) p)

    pub work_judged : {v w : Result Unit Refusal} (x : Result Unit ℕ) → v ≡ Ok tt → InstanceRefusal J Passes v
        → Finds (WorkFault J work) x → w ≡ refused_by code.Room x → WorkRefusal J work w
    work_judged x e r found h = instance_go e r (λ p. last_code x found h)

    -- where nothing is refused the buffer is long enough
    work_enough : {v : Result Unit Refusal} → v ≡ Ok tt → WorkRefusal J work v → (i : ℕ) → ¬ WorkFault J work i
    work_enough e r = enough (tables_of (subst (WorkRefusal J work) e r)).1
      where
        enough : Tries code.Room (WorkFault J work) Passes (Ok tt) → (i : ℕ) → ¬ WorkFault J work i
        enough (goes_on n x) = n

    -- ---- the verdict

    module _ {after : List ℕ} (z : after ≡ zeros work) {v : Result Unit Refusal} (checked : WorkRefusal J work v) where
      pub refused_verdict : {r : Refusal} {w : Result Bool Refusal} → v ≡ Err r → IsErrAnd w (λ y. y ≡ r)
          → GivesVerdict J work after w
      refused_verdict {r} {w} e x = rw (exit w x) (record {
        refusal = subst (WorkRefusal J work) e checked;
        answer = λ y. no_code r y.0;
        cleared = z;
      })

      pub whole_verdict : v ≡ Ok tt → (valid : Bool) → Decides (Valid J) valid → GivesVerdict J work after (Ok valid)
      whole_verdict e true d =
          record { refusal = subst (WorkRefusal J work) e checked; answer = (refl, d); cleared = z }
      whole_verdict e false d =
          record { refusal = subst (WorkRefusal J work) e checked; answer = λ y. d y.1; cleared = z }

-- ---- the answers of the call for the match list

-- a match list that fits is the only one
no_shorter : {J : Tables} {room : ℕ} {l : List (ℕ × ℕ)} → MatchList J l
    → length l * 2 ≤ room → (i : ℕ) → ¬ ListTooShort J room i
no_shorter all fit i x =
    let same = unique x.2.rising x.2.lists all.rising all.lists in
    let y = ap length same in
    let z = x.3 in
    omega arith

-- a work buffer that is too short refuses, whatever the list is
short_either : {J : Tables} {room work : ℕ} {v : Result Unit Refusal} {r : Refusal} → v ≡ Err r
    → Tries code.Room (WorkFault J work) Passes v → Tries code.Room (BufferShort J room work) Passes v
short_either e (refused p x c) = refused p (inl x) (λ i h. absurd (omega (arith, x.0)))
short_either e (goes_on n p) = absurd (ok_err (sym p ∙ e))

module _ {J : Tables} (room work : ℕ) {v : Result Unit Refusal} (r : WorkRefusal J work v)
    {list after : List ℕ} (cleared : after ≡ zeros work) where
  -- codes 1 to 10, and 12 for the work buffer
  pub refused_list : {f : Refusal} → v ≡ Err f → list ≡ zeros room → ListsMatches J room work list after (Err f)
  refused_list {f} e z = record {
    refusal = subst (InstanceRefusal J (Tries code.Room (BufferShort J room work) Passes)) e
        (instance_map (short_either e) r);
    matched = λ q. no_code f q;
    zeroed = λ n. z;
    cleared = cleared;
  }

  -- code 12 for the list, or nothing is refused
  pub whole_list : v ≡ Ok tt → (x : Result Matches TooShort) → ListAnswer J room list x
      → ListsMatches J room work list after (match_answer x)
  whole_list e (Ok m) y = record {
    refusal =
        instance_go e r (λ q. goes_on (λ i. ⊎_elim (work_enough work e r i) (no_shorter y.all y.says.fit i)) refl);
    matched = λ q. record { pairs = y.pairs; all = y.all; written = y.says };
    zeroed = λ n. absurd (n refl);
    cleared = cleared;
  }
  whole_list e (Err t) y = record {
    refusal = instance_go e r (λ q. refused 0 (inr (refl, y.pairs, y.all, y.says.0)) (λ i h. absurd (omega arith)));
    matched = λ q. absurd (omega arith);
    zeroed = λ q. y.says.1;
    cleared = cleared;
  }
