-- With an element the items themselves, and otherwise the one string.
use Prim.Native.Nat.{ℕ}
use mathlib.Core.Path.{ap, ◌∙◌}
use native.Mathlib.Omega.{arith}
use lib.Dec.{eqb}
use lib.ListN.{length}
use lib.Seq.{length-take-le}
use Rattle.matching_pairs.proofs.Entries.{mixed_stands, simple_stands}
use Rattle.matching_pairs.proofs.content_of.Goals as goal

pub solid-k-requires : goal.solid-k-requires
solid-k-requires c =
    let few = c.requires.0 in
    let room = c.requires.1 in
    let size = ap length c.first_items.ensures ∙ length-take-le c.args.n c.args.items.now (omega arith) in
    omega arith

pub returns-then-elements-ne0 : goal.returns-then-elements-ne0
returns-then-elements-ne0 c =
    let few = c.requires.0 in
    let room = c.requires.1 in
    mixed_stands c.args.blank.now c.args.items.now few (omega arith)
    c.first_items.ensures c.if-elements-ne0.true c.solid-k.ensures

pub returns : goal.returns
returns c =
    let room = c.requires.1 in
    simple_stands c.args.blank.now c.args.items.now (omega arith) c.if-elements-ne0.false
    c.only_string-v.ensures (ap (λ (x : ℕ). eqb x 1) c.at-weak.ensures)
