-- The entries are told by the tokens.
use Prim.Native.Nat.{ℕ}
use native.Mathlib.Omega.{arith}
use lib.ListN.{length-replicate}
use Rattle.std.proofs.Common.{rules}
use Rattle.tables.specs.Tables.{string_table}
use Rattle.matching_tokens.specs.MarkTable.{mark}
use Rattle.matching_alone.specs.Rows.{TokensTo}
use Rattle.matching_alone.proofs.Entries.{list_ready}
use Rattle.matching_alone.proofs.Filling.{row_map}
use Rattle.matching_alone.proofs.fill_list.Goals as goal

pub find_tokens-requires : goal.find_tokens-requires
find_tokens-requires c =
    let row = c.requires.2.row in
    let few = row.few_strings in
    let size = length-replicate {A = ℕ} 1024 0 in
    record { few_bytes = row.few_bytes; long = omega arith }

pub fill_by-requires-clause-callable : goal.fill_by-requires-clause-callable
fill_by-requires-clause-callable c =
    let ready = list_ready c.requires.2 c.find_tokens.ensures in
    λ k h. search (rules, ready)

pub returns : goal.returns
returns c =
    let a = c.args in
    let T = string_table a.bytes.now a.ends.now in
    row_map (λ k v h e.
    let told : TokensTo T a.schema.now a.a k (mark e.0) = search (rules, e.1) in
    rw e.2 told) c.fill_by.ensures
