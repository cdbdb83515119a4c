-- The tests are those of a definition: the name in its class, and the content. The pattern is marked before it is
-- related.
use mathlib.Core.Path.{refl, sym, ◌∙◌}
use native.Mathlib.Omega.{arith}
use Rattle.matching_pairs.proofs.Fitting.{setting, asked, no_name, content_told, markable, pair_relatable}
use Rattle.matching_pairs.proofs.pair_at.Goals as goal

pub returns-then-not-in_class : goal.returns-then-not-in_class
returns-then-not-in_class c =
    λ T g shown. no_name g shown c.args.d (rw (
      c.field_a-class.ensures,
      c.field_a-namespace.ensures,
      c.field_b-local.ensures,
    ) at (sym c.in_class.ensures ∙ c.if-not-in_class.true))

pub mark-requires : goal.mark-requires
mark-requires c =
    let pre = c.requires in
    markable pre.1 c.field_b-p.ensures pre.0

pub overflow_cast-n : goal.overflow_cast-n
overflow_cast-n c =
    let few = c.requires.1.given.few_items in
    omega arith

pub content_fits-requires : goal.content_fits-requires
content_fits-requires c =
    let pre = c.requires in
    let room = pre.0.for_work in
    pair_relatable pre.1 c.field_b-p.ensures
    c.mark.ensures refl (omega arith)

pub returns : goal.returns
returns c =
    λ T g shown.
    let q = c.requires.1 in
    let pattern = c.field_b-p.ensures in
    let marked = c.mark.ensures.marking T g in
    let fits = c.content_fits.ensures (setting g shown) (asked g shown) marked.pattern in
    content_told g shown c.args.d q.element q.defined (rw (
      c.field_a-class.ensures,
      c.field_a-namespace.ensures,
      c.field_b-local.ensures,
    ) at (sym c.in_class.ensures ∙ c.if-not-in_class.false)) c.content_fits.result (rw pattern at fits)
