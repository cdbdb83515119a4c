-- What a job file reads as fits the tables that are lent, and comes back from their fronts.
use Prim.Native.Nat.{ℕ, ◌*◌, ◌≤◌, ◌<◌}
use mathlib.Core.Path.{◌≡◌, refl, sym, ◌∙◌, ap, subst}
use mathlib.Core.Bool.{true}
use mathlib.Core.List.{List, ◌++◌}
use native.Mathlib.Decide.{dec_lt}
use native.Mathlib.Omega.{arith}
use lib.ListN.{length, take, length-replicate}
use lib.Seq.{take-take, take-append_seam}
use borrow.Author.Tests.{le-leb}
use Rattle.tables.specs.Tables.{string_table, Tables, tables_of}
use Rattle.tables.specs.Outputs.{zeros, laid}
use Rattle.tables.proofs.Numbers.{not_less}
use Rattle.schema.specs.Rows.{rows_of}
use Rattle.instance.specs.Nodes.{nodes_of}
use Rattle.job.specs.Reading.{Reading, read, wrong, read_job}
use Rattle.job.specs.Reported.{refusal_text}
use Rattle.job.proofs.Limits.{Limited, limited}
use Rattle.job_lines.specs.Promises.{Room, room_of, OutputsHold}
use Rattle.std.specs.Prelude.{Result, Ok, Err}
use Rattle.tables.specs.Codes.{number_of, refusal_at, code_of}
use Rattle.tables.specs.declared.refusals.Code.TheVariants.{Line}
use Rattle.tables.specs.declared.refusals.Refusal.{Refusal}
use Rattle.tables.proofs.Codes.{ok_same, err_same, ok_err}
use Rattle.job_reader.specs.Promises.{counts_in, fits, read_answer, given, JobAnswer}
use Rattle.job_reader.specs.declared.Counts.{Counts}
use Rattle.matching_list.specs.declared.Matches.{Matches}
use Rattle.relaxng.specs.Answers.{pair_count}
use Rattle.relaxng.specs.Matching.{ListsMatches}
use Rattle.job_texts.specs.Writing.{TextIn}
use Rattle.report.specs.Report.{list_room, work_room, answer_text, not_read, answered, Reported, Answered}

-- the tables that the program lends
abbrev pub lent : Room
lent = record { bytes = 16384; ends = 512; schema = 1536; instance = 5120 }

-- which are zeros before
abbrev pub empty : Room
empty = room_of (zeros 16384) (zeros 512) (zeros 1536) (zeros 5120)

is_lent : empty ≡ lent
is_lent =
    rw (
      length-replicate {A = ℕ} 16384 0,
      length-replicate {A = ℕ} 512 0,
      length-replicate {A = ℕ} 1536 0,
      length-replicate {A = ℕ} 5120 0,
    )

-- a run laid in an output is the front of it
front_laid : (n : ℕ) (run : List ℕ) → length run ≤ n → take (length run) (laid n run) ≡ run
front_laid n run h = take-take (length run) n (run ++ zeros n) h ∙ take-append_seam run (zeros n)

-- a reading is wrong or gives the four counts
pub data Told (file : List ℕ) : Result Counts Refusal → Type 0 where
  told_wrong : (line : ℕ) → read_job file ≡ wrong line → Told file (Err (refusal_at Line line))
  told_read : (t : Tables) → read_job file ≡ read t → Limited t → given (read_job file) lent ≡ t
      → Told file (Ok (counts_in t))

pub told : (file : List ℕ) {job : Result Counts Refusal} → JobAnswer (read_job file) empty job → Told file job
told file {job} a =
    go (read_job file) refl (a ∙ ap (read_answer (read_job file)) is_lent)
  where
    go : (r : Reading) → read_job file ≡ r → job ≡ read_answer r lent → Told file job
    go (wrong line) f g = rw g (told_wrong line f)
    go (read t) f g =
        let l = limited file f in
        let a = l.lengths.few_bytes in
        let b = l.lengths.of_ends in
        let c = l.lengths.of_schema in
        let d = l.lengths.of_instance in
        let u = l.few_strings in
        let v = l.few_rows in
        let w = l.few_nodes in
        let fit : fits t lent ≡ true = rw (
          le-leb (length t.strings.bytes) 16384 (omega arith),
          le-leb (length t.strings.ends) 512 (omega arith),
          le-leb (length t.schema) 1536 (omega arith),
          le-leb (length t.instance) 5120 (omega arith),
        ) in
        let is_given : given (read_job file) lent ≡ t = rw (f, fit) in
        rw (g, fit) (told_read t f l is_given)

-- the fronts of the lent tables are the tables that were read
module _ {t : Tables} (l : Limited t) {bytes ends schema instance : List ℕ}
    (h : OutputsHold t lent bytes ends schema instance) where
  pub whole_rows : rows_of t.schema * 3 ≡ length t.schema
  whole_rows = let a = l.lengths.of_schema in omega arith

  pub whole_nodes : nodes_of t.instance * 5 ≡ length t.instance
  whole_nodes = let a = l.lengths.of_instance in omega arith

  pub bytes_back : take (length t.strings.bytes) bytes ≡ t.strings.bytes
  bytes_back = rw h.of_bytes (front_laid 16384 t.strings.bytes (let a = l.lengths.few_bytes in omega arith))

  pub ends_back : take (length t.strings.ends) ends ≡ t.strings.ends
  ends_back =
      rw h.of_ends
      (front_laid 512 t.strings.ends (let a = l.lengths.of_ends in let b = l.few_strings in omega arith))

  pub schema_back : take (rows_of t.schema * 3) schema ≡ t.schema
  schema_back =
      rw (h.of_schema, whole_rows)
      (front_laid 1536 t.schema (let a = l.lengths.of_schema in let b = l.few_rows in omega arith))

  pub instance_back : take (nodes_of t.instance * 5) instance ≡ t.instance
  instance_back =
      rw (h.of_instance, whole_nodes)
      (front_laid 5120 t.instance (let a = l.lengths.of_instance in let b = l.few_nodes in omega arith))

-- the pairs of an answer fit the words that are lent
pub pairs_fit : {J : Tables} {list after : List ℕ} {r : Result Matches Refusal} {m : Matches}
    → ListsMatches J list_room work_room list after r → r ≡ Ok m → m.pairs * 2 ≤ list_room
pairs_fit {r = r} {m = m} lists e =
    let w = (lists.matched (ap code_of e)).written in
    let c : m.pairs ≡ pair_count r = sym (ap pair_count e) in
    omega (arith, c, w.fit, w.counted)

-- the list that is lent has so many words, and the work buffer so many bytes
pub lent_buffers : {J : Tables} {list after : List ℕ} {r : Result Matches Refusal}
    → ListsMatches J (length (zeros list_room))
    (length (zeros work_room)) list after r → ListsMatches J list_room work_room list after r
lent_buffers {J} {list} {after} {r} l =
    subst (λ (work : ℕ). ListsMatches J list_room work list after r) (length-replicate {A = ℕ} work_room 0)
    (subst (λ (room : ℕ). ListsMatches J room (length (zeros work_room)) list after r)
    (length-replicate {A = ℕ} list_room 0) l)

pub is_answered : {J : Tables} {list after out : List ℕ} {room n : ℕ} {r q : Result Matches Refusal}
    → ListsMatches J list_room work_room list after r → r ≡ q
    → TextIn (answer_text q list) room out n → Answered J room out n
is_answered {list = list} {after = after} {r = r} lists e w =
    record { list = list; after = after; matches = r; lists = lists; written = rw e w }

-- no more is answered than the output has room for
text_within : {text out : List ℕ} {room n : ℕ} → TextIn text room out n → n ≤ room
text_within {text} {out} {room} {n} w = go (dec_lt room (length text))
  where
    go : Dec (room < length text) → n ≤ room
    go (yes h) = let e = (w.short h).1 in omega arith
    go (no f) = let l = not_less f in let e = (w.fits l).1 in omega arith

pub and_within : {file out : List ℕ} {room n : ℕ} → Reported file room out n → Reported file room out n × (n ≤ room)
and_within r = (r, text_within r.written)

-- the counts keep to the tables that are lent
pub record Within (k : Counts) : Type 0 where
  pub few_bytes : k.bytes ≤ 16384
  pub few_strings : k.strings ≤ 512
  pub few_rows : k.rows * 3 ≤ 1536
  pub few_nodes : k.nodes * 5 ≤ 5120

counted_within : {t : Tables} → Limited t → Within (counts_in t)
counted_within l = record {
  few_bytes = l.lengths.few_bytes;
  few_strings = let a = l.lengths.of_ends in let b = l.few_strings in omega arith;
  few_rows = let a = l.few_rows in omega arith;
  few_nodes = let a = l.few_nodes in omega arith;
}

pub within : {file : List ℕ} {j : Result Counts Refusal} {k : Counts} → Told file j → j ≡ Ok k → Within k
within (told_wrong line f) e = absurd (ok_err (sym e))
within (told_read t f l g) e = subst Within (ok_same e) (counted_within l)

-- ---- the report

pub report_wrong : {file out : List ℕ} {room n : ℕ} {j : Result Counts Refusal} {r : Refusal} → Told file j → j ≡ Err r
    → TextIn (refusal_text (number_of r.code) r.place) room out n → Reported file room out n
report_wrong {r = r} (told_wrong line f) e w = record {
  text = refusal_text (number_of r.code) r.place;
  reports = not_read line f (rw (← err_same e) refl);
  written = w;
}
report_wrong (told_read t f l g) e w = absurd (ok_err e)

pub report_read : {file : List ℕ} {j : Result Counts Refusal} {k : Counts} {bytes ends schema instance : List ℕ}
    {out : List ℕ} {room m : ℕ}
    → Told file j → j ≡ Ok k → OutputsHold (given (read_job file) empty) empty bytes ends schema instance
    → Answered (tables_of (string_table (take k.bytes bytes) (take k.strings ends))
    (take (k.rows * 3) schema) (take (k.nodes * 5) instance)) room out m → Reported file room out m
report_read (told_wrong line f) e holds a = absurd (ok_err (sym e))
report_read {file} {k = k} {bytes} {ends} {schema} {instance} (told_read t f l g) e holds a =
    let q : k ≡ counts_in t = sym (ok_same e) in
    let h : OutputsHold t lent bytes ends schema instance =
    subst (λ (u : Tables). OutputsHold u lent bytes ends schema instance) g
    (subst (λ (w : Room). OutputsHold (given (read_job file) w) w bytes ends schema instance) is_lent holds) in
    let y₁ = ap (λ (c : Counts). take c.bytes bytes) q ∙ bytes_back l h in
    let y₂ = ap (λ (c : Counts). take c.strings ends) q ∙ ends_back l h in
    let y₃ = ap (λ (c : Counts). take (c.rows * 3) schema) q ∙ schema_back l h in
    let y₄ = ap (λ (c : Counts). take (c.nodes * 5) instance) q ∙ instance_back l h in
    record {
      text = answer_text a.matches a.list;
      reports = answered t a.list a.after a.matches f (rw (y₁, y₂, y₃, y₄) at a.lists) refl;
      written = a.written;
    }
