-- What a step of the writer does: it puts a text into an output from a position on, as far as it fits, and answers with
-- the position after it.
use Rattle.std.specs.Prelude.{ℕ, ◌+◌, ◌%◌, ◌≤◌, ◌<◌, ◌≡◌, List, length}
use Rattle.tables.specs.Outputs.{zeros, laid}
use Rattle.std.proofs.lemmas.List.Edits.{sets}
use Rattle.tables.specs.Tables.{Tables}
use Rattle.strings.specs.Strings.{max_strings, max_bytes}
use Rattle.schema.specs.Rows.{rows_of}
use Rattle.schema.specs.RowRule.{max_rows}
use Rattle.instance.specs.Nodes.{nodes_of}
use Rattle.instance.specs.NodeRule.{max_nodes}
use Rattle.job_texts.specs.declared.Writer.{Writer}

pub record Wrote (before : List ℕ) (at : ℕ) (text : List ℕ) (after : List ℕ) (next : ℕ) : Type 0 where
  pub holds : after ≡ sets before at text
  pub moves : next ≡ at + length text

-- a writer puts a text into its output, which stays the same one
pub record Puts (before : Writer) (text : List ℕ) (after : Writer) : Type 0 where
  pub wrote : Wrote before.out.now before.at text after.out.now after.at
  pub same : after.out.ghost_name ≡ before.out.ghost_name

-- a bound on positions, past which no job's text reaches
abbrev pub far : ℕ
far = 4294967296

-- the tables that are written keep their limits
pub record Sized (J : Tables) : Type 0 where
  pub few_bytes : length J.strings.bytes ≤ max_bytes
  pub few_strings : length J.strings.ends ≤ max_strings
  pub few_rows : rows_of J.schema ≤ max_rows
  pub whole_rows : length J.schema % 3 ≡ 0
  pub few_nodes : nodes_of J.instance ≤ max_nodes
  pub whole_nodes : length J.instance % 5 ≡ 0

-- a text of so many bytes was put; it stays where it fits, and is taken back to zeros where it does not
pub record Kept (before : List ℕ) (n : ℕ) (after : List ℕ) (r : ℕ) : Type 0 where
  pub fits : n ≤ length before → (after ≡ before) × (r ≡ n)
  pub short : length before < n → (after ≡ zeros (length before)) × (r ≡ 0)

-- a text in an output of so many bytes, with zeros after it, and its length; zeros throughout and 0 where the output is
-- too short
pub record TextIn (text : List ℕ) (room : ℕ) (out : List ℕ) (r : ℕ) : Type 0 where
  pub fits : length text ≤ room → (out ≡ laid room text) × (r ≡ length text)
  pub short : room < length text → (out ≡ zeros room) × (r ≡ 0)
