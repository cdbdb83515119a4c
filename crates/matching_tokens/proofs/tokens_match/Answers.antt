-- The invariant: what has been read of the text, for each tree that the row shows. The measure: what is left of the
-- text.
use mathlib.Core.Path.{refl, sym, ◌∙◌}
use native.Mathlib.Omega.{arith}
use Rattle.tables.specs.Tables.{string_table}
use Rattle.datatypes.proofs.TokenEnds.{token_onward, skips_stopped}
use Rattle.matching_tokens.proofs.Walking.{read_none, read_next}
use Rattle.matching_tokens.proofs.Walking.{read_all, tokens_decided, list_row, read_token}
use Rattle.matching_tokens.proofs.tokens_match.Goals as goal

pub loop-at-init : goal.loop-at-init
loop-at-init c =
    let a = c.args in
    let T = string_table a.bytes.now a.ends.now in
    let s = a.schema.now in
    let skipped = c.skip_space-at.ensures in (
      refl,
      skips_stopped skipped,
      λ t u shows proper. read_none T s t a.p shows a.nothing.now skipped c.requires.nulls
          c.is_marked-done.ensures (list_row T s a.places.now a.nothing.now a.p c.requires),
    )

pub slice_bounds-step-end : goal.slice_bounds-step-end
slice_bounds-step-end c = sym c.loop-at.invariant.0

pub step-done-requires : goal.step-done-requires
step-done-requires c =
    let pre = c.requires in (
      record {
        passes = pre.passes;
        placed = pre.placed;
        is_token = read_token c.token_end-end.ensures c.loop-at-test.true
            c.loop-at.invariant.1 c.part-token.ensures.holds;
      },
      pre.nulls,
    )

pub loop-at-smaller : goal.loop-at-smaller
loop-at-smaller c =
    let onward = token_onward c.token_end-end.ensures c.loop-at-test.true
    (c.loop-at.invariant.1 c.loop-at-test.true) in
    let further = c.skip_space-at-in-loop-at.ensures.onward in
    omega arith

pub loop-at-preserved : goal.loop-at-preserved
loop-at-preserved c =
    let a = c.args in
    let T = string_table a.bytes.now a.ends.now in
    let s = a.schema.now in
    let l = c.loop-at in
    let d = c.step-done in
    let skipped = c.skip_space-at-in-loop-at.ensures in (
      d.auto.marks ∙ l.invariant.0,
      skips_stopped skipped,
      λ t u shows proper.
          read_next T s t a.p shows proper (l.invariant.2 t u shows proper) c.loop-at-test.true
          l.invariant.1 c.token_end-end.ensures c.part-token.ensures.holds d.ensures skipped,
    )

pub returns : goal.returns
returns c =
    let a = c.args in
    let T = string_table a.bytes.now a.ends.now in
    let s = a.schema.now in
    let l = c.loop-at in
    tokens_decided T s a.places.now a.nothing.now a.text.now a.p l.done c.requires
    (λ t u shows proper. read_all T s t a.p shows c.loop-at-test.false (l.invariant.2 t u shows proper))
